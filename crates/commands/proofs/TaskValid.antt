-- A task that a command gives, other than Stop, is valid: so a start of it on a valid lamp at a good clock is
-- accepted.
use Rattle.matter.specs.declared.refusals.Refusal.{Refusal}
use Rattle.matter.specs.Causes.{invalid_command, accepted}
use Rattle.std.specs.Prelude.{Option, Some, None, Err}
use Prim.Native.Nat.{ℕ, ◌*◌, ◌%◌, ◌<◌, ◌≤◌}
use mathlib.Core.Bool.{Bool, true, false, not, ◌&&◌, true≢false}
use mathlib.Core.List.{List}
use mathlib.Core.Path.{◌≡◌, refl}
use native.Mathlib.Omega.{arith}
use lib.Dec.{ltb, eqb}
use lib.IntN.{ℤ, pos, negsuc, nat_abs}
use borrow.Author.Tests.{ltb-false, eqb-false, le-leb, lt-ltb, eq-eqb, ne_eqb}
use Rattle.integers.proofs.Sizes.{abs_neg}
use Rattle.matter.specs.declared.commands.Command.{Command}
use Rattle.matter.specs.declared.commands.Request.{Request}
use Rattle.matter.specs.declared.enums.ColorLoopActionEnum.{ColorLoopActionEnum}
use Rattle.matter.specs.declared.enums.MoveModeEnum.{MoveModeEnum}
use Rattle.matter.specs.declared.enums.OnOff.{OnOff}
use Rattle.matter.specs.declared.enums.StepModeEnum.{StepModeEnum}
use Rattle.matter.specs.Flags.{has_flag, update_action}
use Rattle.matter.proofs.Laws.{cond_both, or_right, all_of, refused-of, number-0}
use Rattle.matter.specs.Limits.{hue_limit}
use Rattle.matter.specs.InRange.{Short, InRangeCommand, InRangeRequest}
use Rattle.hue.proofs.Laws.{way-small}
use Rattle.color.proofs.Kept.{valid-saturation}
use Rattle.tasks.specs.declared.Task.{Task}
use Rattle.tasks.specs.Valid.{time_valid, small, saturation_valid, moves, rate_valid, move_to_valid, hue_move_valid, saturation_move_valid, task_valid}
use Rattle.lamp.specs.declared.Lamp.{Lamp}
use Rattle.lamp.specs.Answers.{at_clock, bad_clock, first_cause}
use Rattle.lamp.specs.Valid.{lamp_valid}
use Rattle.lamp.proofs.Kept.{valid-color, no-cause}
use Rattle.matter.specs.Rules.{signed}
use Rattle.lamp.specs.declared.Call.{Call}
use Rattle.commands.specs.Answers.{allowed, after_clock, command_cause, cause, answer}
use Rattle.commands.specs.Commands.{CommandEffect, cause_if, is_stop, checks, stored, ms, hue_task, saturation_task, hue_move_task, step_delta, saturation_step, acted, deactivated, activated, loop_set, command_effect}
use Rattle.commands.proofs.Kept.{answer-both, granted-ready}
use Rattle.commands.proofs.Table.{start-0}

-- ---- the parts of a task

-- a time of sixteen bits in tenths: at most 6,553,500 ms
time-valid : (tenths : ℕ) → Short tenths → time_valid (ms tenths) ≡ true
time-valid tenths h = rw (eq-eqb (tenths * 100 % 100) 0 (omega arith), le-leb (tenths * 100) 6553500 (omega arith))

-- an integer of a size of at most 65,535
small_of : (z : ℤ) → nat_abs z ≤ 65535 → small z ≡ true
small_of (pos n) h = rw (le-leb n 65535 h)
small_of (negsuc n) h = rw (le-leb n 65534 (omega arith))

step-size : (mode : StepModeEnum) (size : ℕ) → nat_abs (step_delta mode size) ≡ size
step-size StepModeEnum.Up size = refl
step-size StepModeEnum.Down size = abs_neg (pos size)

-- a test that gives no cause fails
no_test : (test : Bool) (cause : Refusal) → cause_if test (Err cause) ≡ accepted → test ≡ false
no_test true cause e = absurd (refused-of (Err cause) refl e)
no_test false cause e = refl

some-rate : (n : ℕ) → cause_if (eqb n 0) invalid_command ≡ accepted → 0 < n
some-rate n e = omega (arith, eqb-false n 0 (no_test (eqb n 0) Refusal.InvalidCommand e))

-- ---- the tasks

hue-valid : (way : ℤ) (to : Option ℕ) (tenths : ℕ) (enhanced : Bool) → nat_abs way ≤ 65535
    → saturation_valid to ≡ true → Short tenths → task_valid (hue_task way to tenths enhanced) ≡ true
unfolding task_valid move_to_valid
hue-valid way to tenths enhanced w s t = all_of _ (time-valid tenths t, (small_of way w, (s, (refl, tt))))

saturation-valid : (saturation tenths : ℕ) → saturation ≤ 254 → Short tenths
    → task_valid (saturation_task saturation tenths) ≡ true
unfolding task_valid move_to_valid
saturation-valid saturation tenths s t = all_of _ (time-valid tenths t, (refl, (le-leb saturation 254 s, (refl, tt))))

mode-moves : (mode : MoveModeEnum) → is_stop mode ≡ false → moves mode ≡ true
mode-moves MoveModeEnum.Stop e = absurd (true≢false e)
mode-moves MoveModeEnum.Up e = refl
mode-moves MoveModeEnum.Down e = refl

hue-move-valid : (mode : MoveModeEnum) (rate : ℕ) (enhanced : Bool) → is_stop mode ≡ false → 0 < rate → rate ≤ 65535
    → task_valid (hue_move_task mode rate enhanced) ≡ true
unfolding task_valid hue_move_valid
hue-move-valid mode rate enhanced m z r = all_of _ (lt-ltb 0 rate z, (le-leb rate 65535 r, (mode-moves mode m, tt)))

rate-valid : (mode : MoveModeEnum) (rate : ℕ) → is_stop mode ≡ false → 0 < rate → rate ≤ 65535
    → rate_valid (signed mode rate) ≡ true
rate-valid MoveModeEnum.Stop rate m z r = absurd (true≢false m)
rate-valid MoveModeEnum.Up rate m z r = rw (ne_eqb rate 0 (λ e. omega arith), small_of (pos rate) r)
rate-valid MoveModeEnum.Down rate m z r =
    rw (abs_neg (pos rate), ne_eqb rate 0 (λ e. omega arith), small_of (signed MoveModeEnum.Down rate) (rw abs_neg r))

-- ---- the commands

-- a task that is given is Stop or valid
abbrev Startable : Option Task → Type 0
Startable None = Unit
Startable (Some task) = (task ≡ Task.Stop → ⊥) → task_valid task ≡ true

acted-valid : (l : Lamp) (reported : List ℕ) (action : ColorLoopActionEnum) → Startable (acted l reported action).task
unfolding deactivated activated task_valid
acted-valid l reported ColorLoopActionEnum.Deactivate =
    cond_both (λ (e : CommandEffect). Startable e.task) l.looping.active _ _ (λ e n. absurd (n refl)) (λ e. tt)
acted-valid l reported ColorLoopActionEnum.ActivateFromColorLoopStartEnhancedHue = λ n. refl
acted-valid l reported ColorLoopActionEnum.ActivateFromEnhancedCurrentHue = λ n. refl

stepped-saturation : (mode : StepModeEnum) (now size : ℕ) → now ≤ 254 → saturation_step mode now size ≤ 254
stepped-saturation StepModeEnum.Up now size h = omega arith
stepped-saturation StepModeEnum.Down now size h = omega arith

effect-valid : (l : Lamp) (c : Command) → l.color.saturation ≤ 254 → InRangeCommand c → (checks c).stop ≡ false
    → (checks c).cause ≡ accepted → Startable (command_effect l c).task
unfolding command_effect loop_set task_valid saturation_move_valid
effect-valid l (Command.MoveToHue hue direction time) s t m n =
    λ o. hue-valid _ _ time false (way-small l.color.hue (stored hue) direction) refl t.1
effect-valid l (Command.MoveHue mode rate enhanced) s t m n =
    λ o. hue-move-valid mode _ enhanced m
    (cond_both (λ r. 0 < r) enhanced rate (stored rate) (λ e. some-rate rate n) (λ e. omega (arith, some-rate rate n)))
    (cond_both (λ r. r ≤ 65535) enhanced rate (stored rate) (λ e. omega arith) (λ e. omega arith))
effect-valid l (Command.StepHue mode size time) s t m n =
    λ o. hue-valid _ _ time false (rw step-size (omega arith)) refl t.1
effect-valid l (Command.MoveToSaturation saturation time) s t m n =
    λ o. saturation-valid saturation time (ltb-false 254 saturation (no_test _ Refusal.ConstraintError n)) t.1
effect-valid l (Command.MoveSaturation mode rate) s t m n =
    λ o. all_of _ (lt-ltb 0 rate (some-rate rate n), (le-leb rate 255 (omega arith), (mode-moves mode m, tt)))
effect-valid l (Command.StepSaturation mode size time) s t m n =
    λ o. saturation-valid _ time (stepped-saturation mode l.color.saturation size s) t.1
effect-valid l (Command.MoveToHueAndSaturation hue saturation time enhanced enhanced_hue) s t m n =
    λ o. hue-valid _ (Some saturation) time enhanced (way-small l.color.hue _ _)
    (le-leb saturation 254 (ltb-false 254 saturation (or_right (not enhanced && ltb hue_limit hue) _ (no_test _ Refusal.ConstraintError n))))
    t.2
effect-valid l (Command.EnhancedMoveToHue hue direction time) s t m n =
    λ o. hue-valid _ _ time true (way-small l.color.hue hue direction) refl t.1
effect-valid l (Command.EnhancedMoveHue mode rate) s t m n =
    λ o. hue-move-valid mode rate true m (some-rate rate n) (omega arith)
effect-valid l (Command.EnhancedStepHue mode size time) s t m n =
    λ o. hue-valid _ _ time true (rw step-size (omega arith)) refl t.1
effect-valid l (Command.MoveToColorTemperature mireds time) s t m n = λ o. time-valid time t.1
effect-valid l (Command.MoveColorTemperature mode rate min max) s t m n =
    λ o. rate-valid mode rate m (some-rate rate n) (omega arith)
effect-valid l (Command.StepColorTemperature mode size time min max) s t m n = λ o. time-valid time t.1
effect-valid l (Command.ColorLoopSet flags action direction time start_hue) s t m n =
    cond_both (λ (e : CommandEffect). Startable e.task) (has_flag flags update_action) _ _
    (λ e. acted-valid _ _ action)
    (λ e. tt)
effect-valid l Command.StopMoveStep s t m n = λ o. absurd (o refl)

module _ (l : Lamp) (r : Request) (on_off : OnOff) (clock : ℕ) (in_range : InRangeRequest r) where
  -- an accepted command that is in no Stop mode has no cause of its own
  own-none : cause l (Call.Command r on_off clock) ≡ accepted → (checks r.command).stop ≡ false → (checks r.command).cause ≡ accepted
  unfolding cause command_cause
  own-none e s =
      rw s at (no-cause (first_cause l clock) (after_clock r) e).1

  answer-valid : Startable (answer l (Call.Command r on_off clock)).task
  answer-valid =
      answer-both l (λ a. Startable a.task) (Call.Command r on_off clock)
      (λ e.
      let at : Lamp = at_clock l clock in
      let validity : lamp_valid at ≡ true = granted-ready l (Call.Command r on_off clock) e in
      cond_both (λ (x : CommandEffect). Startable x.task) (checks r.command).stop _ _ (λ s n. absurd (n refl))
      (λ s. cond_both (λ (x : CommandEffect). Startable x.task) (allowed at r on_off) _ _
      (λ a. effect-valid at r.command (valid-saturation _ _ _ (valid-color at validity)) in_range.command s (own-none e s))
      (λ a. tt)))
      (λ n. tt)

  -- a task that a command gives, other than Stop, is valid
  pub given-valid : (task : Task) → (answer l (Call.Command r on_off clock)).task ≡ Some task
      → (task ≡ Task.Stop → ⊥) → task_valid task ≡ true
  given-valid task e = rw e at answer-valid

  -- so a start of it is accepted on any valid lamp at a good clock
  pub given-starts : (task : Task) → (answer l (Call.Command r on_off clock)).task ≡ Some task
      → (task ≡ Task.Stop → ⊥) → (m : Lamp) (at : ℕ) → lamp_valid m ≡ true → bad_clock m at ≡ false
      → cause m (Call.Start task at) ≡ accepted
  given-starts task e n m at f b = number-0 (cause m (Call.Start task at)) (start-0 m at task f b (given-valid task e n))
