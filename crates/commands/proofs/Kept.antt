-- Every call, refused ones too, keeps validity, widths, bounds and options; an accepted one sets the clock, and a command other than
-- the colour loop's sets nothing else. The number of an answer is its cause. A command reports few notices.
use Rattle.matter.specs.Causes.{accepted}
use Rattle.std.specs.Prelude.{None}
use Prim.Native.Nat.{ℕ, ◌≤◌}
use mathlib.Core.Bool.{Bool, true, false, cond, true≢false}
use mathlib.Core.List.{List, [], ◌∷◌}
use mathlib.Core.Path.{◌≡◌, refl, sym, ap, ◌∙◌}
use native.Mathlib.Nat.{le_trans}
use native.Mathlib.Omega.{arith}
use lib.ListN.{length, length-append}
use Rattle.matter.specs.declared.commands.Command.{Command}
use Rattle.matter.specs.declared.commands.Request.{Request}
use Rattle.matter.specs.declared.enums.ColorLoopActionEnum.{ColorLoopActionEnum}
use Rattle.matter.specs.declared.enums.ColorLoopDirectionEnum.{ColorLoopDirectionEnum}
use Rattle.matter.specs.declared.enums.OnOff.{OnOff}
use Rattle.matter.specs.Flags.{has_flag, update_action, update_direction, update_time, update_start_hue}
use Rattle.matter.proofs.Laws.{cond_both}
use Rattle.matter.specs.InRange.{Short, InRangeCommand}
use Rattle.notices.proofs.Laws.{only_one}
use Rattle.notices.specs.Names.{ColorLoopActive, ColorLoopDirection, ColorLoopTime, ColorLoopStartEnhancedHue, ColorLoopStoredEnhancedHue, hue_tie, EnhancedCurrentHue}
use Rattle.notices.specs.Notices.{only}
use Rattle.color.specs.declared.Color.{Color}
use Rattle.color.proofs.Kept.{hue-kept, hue-word, change-few, enhanced_change}
use Rattle.color.specs.Setters.{hue_change}
use Rattle.color.specs.Setters.{hue_set}
use Rattle.tasks.specs.declared.Running.{Running}
use Rattle.tasks.specs.declared.Task.{Task}
use Rattle.lamp.specs.declared.Lamp.{Lamp}
use Rattle.lamp.specs.declared.LoopSettings.{LoopSettings}
use Rattle.lamp.specs.declared.Answer.{Answer}
use Rattle.lamp.specs.Answers.{at_clock, first_cause, unchanged}
use Rattle.lamp.specs.Calls.{start_cause, step_cause, start_answer, step_answer, halt_answer, with_bounds, bounds_cause, bounds_answer}
use Rattle.lamp.specs.Valid.{lamp_valid}
use Rattle.lamp.proofs.Kept.{valid-clock, valid-color, valid-running, valid-of, no-cause, ready, start-ready, step-ready, choose-both, start-valid, step-valid, halt-valid, bounds-ready, set-bounds-valid}
use Rattle.lamp.specs.Passes.{changed}
use Rattle.lamp.specs.declared.Call.{Call}
use Rattle.lamp.specs.InRange.{InRangeLamp, InRangeCall}
use Rattle.lamp.proofs.InRangeKept.{started-any, stepped-any, in-range-of, clock-in-range, changed-in-range, started-in-range, stepped-in-range, with-bounds-in-range}
use Rattle.commands.specs.Answers.{after_clock, allowed, command_cause, command_done, command_answer, cause, answer, clock_of, is_loop_set}
use Rattle.commands.proofs.Granted.{granted}
use Rattle.commands.specs.Ties.{aim_of, aim_ties}
use Rattle.matter.specs.declared.limits.Bounds.{Bounds}
use Rattle.commands.specs.Commands.{CommandEffect, skip, giving_with, checks, with_loop, updated, updated_reported, acted, deactivated, activated, loop_set, command_effect}

-- ---- an answer is a refusal with its cause, or what is granted where there is none

module _ (l : Lamp) where
  -- what holds of both holds of the answer
  pub answer-both : (P : Answer → Type 0) (x : Call) → (cause l x ≡ accepted → P (granted l x)) → ((cause l x ≡ accepted → ⊥) → P (unchanged l (cause l x))) → P (answer l x)
  unfolding cause answer command_answer start_answer step_answer halt_answer bounds_answer
  answer-both P (Call.Command r on_off clock) h k = choose-both P (command_cause l r clock) l _ h k
  answer-both P (Call.Start task clock) h k = choose-both P (start_cause l task clock) l _ h k
  answer-both P (Call.Step clock) h k = choose-both P (step_cause l clock) l _ h k
  answer-both P (Call.Halt clock) h k = choose-both P (first_cause l clock) l _ h k
  answer-both P (Call.SetBounds bounds clock) h k = choose-both P (bounds_cause l bounds clock) l _ h k

  -- what is granted is accepted
  granted-number : (x : Call) → (granted l x).verdict ≡ accepted
  granted-number (Call.Command r on_off clock) = refl
  granted-number (Call.Start task clock) = refl
  granted-number (Call.Step clock) = refl
  granted-number (Call.Halt clock) = refl
  granted-number (Call.SetBounds bounds clock) = refl

  -- the verdict of an answer is its cause
  pub number-is-cause : (x : Call) → (answer l x).verdict ≡ cause l x
  number-is-cause x = answer-both (λ a. a.verdict ≡ cause l x) x (λ e. granted-number x ∙ sym e) (λ e. refl)

  -- a call with a cause is refused
  pub refused-same : (x : Call) → (cause l x ≡ accepted → ⊥) → answer l x ≡ unchanged l (cause l x)
  refused-same x n = answer-both (λ a. a ≡ unchanged l (cause l x)) x (λ e. absurd (n e)) (λ e. refl)

  -- where a call is accepted, the lamp at its clock is valid
  pub granted-ready : (x : Call) → cause l x ≡ accepted → lamp_valid (at_clock l (clock_of x)) ≡ true
  unfolding cause command_cause
  granted-ready (Call.Command r on_off clock) e = ready l clock (no-cause (first_cause l clock) (after_clock r) e).0
  granted-ready (Call.Start task clock) e = (start-ready l clock task e).0
  granted-ready (Call.Step clock) e = step-ready l clock e
  granted-ready (Call.Halt clock) e = ready l clock e
  granted-ready (Call.SetBounds bounds clock) e = (bounds-ready l clock bounds e).0

-- ---- what a command does: a task given, nothing, or the colour loop's

module _ (l : Lamp) (P : CommandEffect → Type 0) where
  -- what holds of the first, a tie's notice behind it where there is one, and of the last holds of a command that runs
  pub effect-by : (c : Command) → ((task : Task) → P (giving_with l task (only (aim_ties l.color.hue (aim_of c)) hue_tie))) → ((flags : ℕ) (action : ColorLoopActionEnum) (direction : ColorLoopDirectionEnum) (time hue : ℕ) → c ≡ Command.ColorLoopSet flags action direction time hue → P (loop_set l flags action direction time hue)) → P (command_effect l c)
  unfolding command_effect
  effect-by (Command.MoveToHue hue direction time) gives loops = gives _
  effect-by (Command.MoveHue mode rate enhanced) gives loops = gives _
  effect-by (Command.StepHue mode size time) gives loops = gives _
  effect-by (Command.MoveToSaturation saturation time) gives loops = gives _
  effect-by (Command.MoveSaturation mode rate) gives loops = gives _
  effect-by (Command.StepSaturation mode size time) gives loops = gives _
  effect-by (Command.MoveToHueAndSaturation hue saturation time enhanced enhanced_hue) gives loops = gives _
  effect-by (Command.EnhancedMoveToHue hue direction time) gives loops = gives _
  effect-by (Command.EnhancedMoveHue mode rate) gives loops = gives _
  effect-by (Command.EnhancedStepHue mode size time) gives loops = gives _
  effect-by (Command.MoveToColorTemperature mireds time) gives loops = gives _
  effect-by (Command.MoveColorTemperature mode rate min max) gives loops = gives _
  effect-by (Command.StepColorTemperature mode size time min max) gives loops = gives _
  effect-by (Command.ColorLoopSet flags action direction time hue) gives loops = loops flags action direction time hue refl
  effect-by Command.StopMoveStep gives loops = gives _

  -- and with the second, of any
  pub done-by : ((task : Task) (tie : Bool) → P (giving_with l task (only tie hue_tie))) → (r : Request) (on_off : OnOff) → P (skip l) → ((flags : ℕ) (action : ColorLoopActionEnum) (direction : ColorLoopDirectionEnum) (time hue : ℕ) → r.command ≡ Command.ColorLoopSet flags action direction time hue → P (loop_set l flags action direction time hue)) → P (command_done l r on_off)
  done-by gives r on_off passes loops =
      cond_both P (checks r.command).stop _ _ (λ e. gives Task.Stop false)
      (λ e. cond_both P (allowed l r on_off) _ _ (λ t. effect-by r.command (λ task. gives task (aim_ties l.color.hue (aim_of r.command))) loops) (λ t. passes))

-- a command other than the colour loop's leaves the lamp
quiet-done : (l : Lamp) (r : Request) (on_off : OnOff) → is_loop_set r.command ≡ false → (command_done l r on_off).lamp ≡ l
quiet-done l r on_off h =
    done-by l (λ (e : CommandEffect). e.lamp ≡ l) (λ t tie. refl) r on_off refl (λ flags action direction time hue e. absurd (true≢false (sym (ap is_loop_set e) ∙ h)))

-- accepted, it sets the clock alone
pub quiet-command : (l : Lamp) (r : Request) (on_off : OnOff) (clock : ℕ) → is_loop_set r.command ≡ false → cause l (Call.Command r on_off clock) ≡ accepted → (answer l (Call.Command r on_off clock)).lamp ≡ at_clock l clock
quiet-command l r on_off clock h z =
    answer-both l (λ a. a.lamp ≡ at_clock l clock) (Call.Command r on_off clock) (λ e. quiet-done (at_clock l clock) r on_off h) (λ n. absurd (n z))

-- ---- the colour loop's command

-- `Q` holds of the lamp's hue and settings; `P` holds of every lamp with such settings that keeps its hue or has such a one set
module _ (l : Lamp) (Q : ℕ → Type 0) (hue : Q l.color.hue) (time : Q l.looping.time) (first : Q l.looping.start) (stored : Q l.looping.stored) (P : Lamp → Type 0) (kept : (s : LoopSettings) → Q s.time → Q s.start → Q s.stored → P (with_loop l l.color s)) (set : (new : ℕ) (s : LoopSettings) → Q new → Q s.time → Q s.start → Q s.stored → P (with_loop l (hue_set l.color new true true l.clock) s)) where
  -- then `P` holds after an action
  acted-by : (reported : List ℕ) (action : ColorLoopActionEnum) (u : LoopSettings) → Q u.time → Q u.start → Q u.stored → P (acted (with_loop l l.color u) reported action).lamp
  unfolding activated deactivated
  acted-by reported ColorLoopActionEnum.Deactivate u t f s =
      cond_both (λ (e : CommandEffect). P e.lamp) u.active _ _ (λ e. set u.stored _ s t f s) (λ e. kept u t f s)
  acted-by reported ColorLoopActionEnum.ActivateFromColorLoopStartEnhancedHue u t f s =
      set u.start _ f t f (cond_both Q u.active _ _ (λ e. s) (λ e. hue))
  acted-by reported ColorLoopActionEnum.ActivateFromEnhancedCurrentHue u t f s =
      set l.color.hue _ hue t f (cond_both Q u.active _ _ (λ e. s) (λ e. hue))

  -- and after the command, if `Q` holds of its time and hue
  loop-by : (flags : ℕ) (action : ColorLoopActionEnum) (direction : ColorLoopDirectionEnum) (new_time new_hue : ℕ) → Q new_time → Q new_hue → P (loop_set l flags action direction new_time new_hue).lamp
  unfolding loop_set
  loop-by flags action direction new_time new_hue t h =
      let u : LoopSettings = updated l.looping flags direction new_time new_hue in
      let ut : Q u.time = cond_both Q (has_flag flags update_time) _ _ (λ e. t) (λ e. time) in
      let uf : Q u.start = cond_both Q (has_flag flags update_start_hue) _ _ (λ e. h) (λ e. first) in
      cond_both (λ (e : CommandEffect). P e.lamp) (has_flag flags update_action) _ _ (λ e. acted-by (updated_reported flags) action u ut uf stored) (λ e. kept u ut uf stored)

-- what holds whatever colour and settings of the loop are left holds after any command
pub done-any : (l : Lamp) (P : Lamp → Type 0) → ((c : Color) (s : LoopSettings) → P (with_loop l c s)) → (r : Request) (on_off : OnOff) → P (command_done l r on_off).lamp
done-any l P any r on_off =
    done-by l (λ (e : CommandEffect). P e.lamp) (λ t tie. any l.color l.looping) r on_off (any l.color l.looping)
    (λ flags action direction time hue e. loop-by l (λ n. Unit) tt tt tt tt P (λ s t f u. any _ s) (λ new s n t f u. any _ s) flags action direction time hue tt tt)

-- a command keeps validity
done-valid : (l : Lamp) (r : Request) (on_off : OnOff) → lamp_valid l ≡ true → lamp_valid (command_done l r on_off).lamp ≡ true
unfolding lamp_valid
done-valid l r on_off validity =
    done-by l (λ (e : CommandEffect). lamp_valid e.lamp ≡ true) (λ t tie. validity) r on_off validity
    (λ flags action direction time hue e. loop-by l (λ n. Unit) tt tt tt tt (λ m. lamp_valid m ≡ true) (λ s t f u. validity) (λ new s n t f u. valid-of (with_loop l (hue_set l.color new true true l.clock) s) (valid-clock l validity) (hue-kept _ _ _ (valid-color l validity) new true true) (valid-running l validity)) flags action direction time hue tt tt)

-- and widths
done-in-range : (l : Lamp) (r : Request) (on_off : OnOff) → InRangeLamp l → InRangeCommand r.command → lamp_valid (command_done l r on_off).lamp ≡ true → InRangeLamp (command_done l r on_off).lamp
done-in-range l r on_off in_range t =
    done-by l (λ (e : CommandEffect). lamp_valid e.lamp ≡ true → InRangeLamp e.lamp) (λ task tie f. in_range) r on_off (λ f. in_range)
    (λ flags action direction time hue e.
    let t' : InRangeCommand (Command.ColorLoopSet flags action direction time hue) = rw e at t in
    loop-by l Short in_range.hue in_range.loop_time in_range.loop_start in_range.loop_stored (λ m. lamp_valid m ≡ true → InRangeLamp m)
    (λ s t f u validity. in-range-of _ validity in_range.bounds in_range.hue t f u in_range.remaining in_range.options in_range.running)
    (λ new s n t f u validity. in-range-of _ validity in_range.bounds (hue-word _ new true _ true in_range.hue n) t f u in_range.remaining in_range.options in_range.running)
    flags action direction time hue t'.1 t'.2)

-- ---- every call

-- the bounds that an accepted call leaves
abbrev bounds_after : Lamp → Call → Bounds
bounds_after l (Call.Command r on_off clock) = l.bounds
bounds_after l (Call.Start task clock) = l.bounds
bounds_after l (Call.Step clock) = l.bounds
bounds_after l (Call.Halt clock) = l.bounds
bounds_after l (Call.SetBounds bounds clock) = bounds

-- what holds at the call's clock with the bounds that it leaves and the same options holds of what is granted
granted-any : (l : Lamp) (x : Call) (P : Lamp → Type 0) → ((m : Lamp) → P (record { clock = clock_of x; bounds = bounds_after l x; color = m.color; looping = m.looping; remaining = m.remaining; options = l.options; running = m.running })) → P (granted l x).lamp
granted-any l (Call.Command r on_off clock) P any = done-any (at_clock l clock) P (λ d s. any (with_loop l d s)) r on_off
granted-any l (Call.Start task clock) P any = started-any (at_clock l clock) P (λ c r t. any (changed l c r t)) task
granted-any l (Call.Step clock) P any = stepped-any (at_clock l clock) P (λ c r t. any (changed l c r t)) l.running
granted-any l (Call.Halt clock) P any = any (changed l l.color Running.Idle l.remaining)
granted-any l (Call.SetBounds bounds clock) P any = any (with_bounds (at_clock l clock) bounds).lamp

others-leave : (l : Lamp) (x : Call) → ((new : Bounds) (clock : ℕ) → x ≡ Call.SetBounds new clock → ⊥) → bounds_after l x ≡ l.bounds
others-leave l (Call.Command r on_off clock) h = refl
others-leave l (Call.Start task clock) h = refl
others-leave l (Call.Step clock) h = refl
others-leave l (Call.Halt clock) h = refl
others-leave l (Call.SetBounds bounds clock) h = absurd (h bounds clock refl)

module _ (l : Lamp) (x : Call) where
  -- an accepted call sets the clock
  pub accepted-clock : cause l x ≡ accepted → (answer l x).lamp.clock ≡ clock_of x
  accepted-clock z =
      answer-both l (λ a. a.lamp.clock ≡ clock_of x) x (λ e. granted-any l x (λ m. m.clock ≡ clock_of x) (λ m. refl)) (λ n. absurd (n z))

  -- no call but an accepted one of new bounds changes the bounds
  pub bounds-kept : ((new : Bounds) (clock : ℕ) → x ≡ Call.SetBounds new clock → ⊥) → (answer l x).lamp.bounds ≡ l.bounds
  bounds-kept h =
      answer-both l (λ a. a.lamp.bounds ≡ l.bounds) x (λ e. granted-any l x (λ m. m.bounds ≡ l.bounds) (λ m. others-leave l x h)) (λ n. refl)

  -- and none the options
  pub options-kept : (answer l x).lamp.options ≡ l.options
  options-kept =
      answer-both l (λ a. a.lamp.options ≡ l.options) x (λ e. granted-any l x (λ m. m.options ≡ l.options) (λ m. refl)) (λ n. refl)

-- every call keeps validity
pub valid-kept : (l : Lamp) (x : Call) → lamp_valid l ≡ true → lamp_valid (answer l x).lamp ≡ true
unfolding answer
valid-kept l (Call.Command r on_off clock) validity =
    answer-both l (λ a. lamp_valid a.lamp ≡ true) (Call.Command r on_off clock) (λ e. done-valid (at_clock l clock) r on_off (granted-ready l (Call.Command r on_off clock) e)) (λ n. validity)
valid-kept l (Call.Start task clock) validity = start-valid l clock validity task
valid-kept l (Call.Step clock) validity = step-valid l clock validity
valid-kept l (Call.Halt clock) validity = halt-valid l clock validity
valid-kept l (Call.SetBounds bounds clock) validity = set-bounds-valid l clock validity bounds

-- what is granted keeps widths
granted-in-range : (l : Lamp) (x : Call) → lamp_valid (at_clock l (clock_of x)) ≡ true → InRangeLamp l → InRangeCall x → lamp_valid (granted l x).lamp ≡ true → InRangeLamp (granted l x).lamp
granted-in-range l (Call.Command r on_off clock) before in_range t validity = done-in-range _ r on_off (clock-in-range l in_range clock before) t.0.command validity
granted-in-range l (Call.Start task clock) before in_range t validity = started-in-range _ task before validity (clock-in-range l in_range clock before) t.0
granted-in-range l (Call.Step clock) before in_range t validity = stepped-in-range _ (clock-in-range l in_range clock before) l.running in_range.running validity
granted-in-range l (Call.Halt clock) before in_range t validity =
    changed-in-range _ (clock-in-range l in_range clock before) _ _ _ validity in_range.hue in_range.remaining tt
granted-in-range l (Call.SetBounds bounds clock) before in_range t validity =
    with-bounds-in-range (at_clock l clock) bounds validity (clock-in-range l in_range clock before) t.0

-- every call keeps widths
pub in-range-kept : (l : Lamp) (x : Call) → lamp_valid l ≡ true → InRangeLamp l → InRangeCall x → InRangeLamp (answer l x).lamp
in-range-kept l x validity in_range t =
    answer-both l (λ a. lamp_valid a.lamp ≡ true → InRangeLamp a.lamp) x (λ e f. granted-in-range l x (granted-ready l x e) in_range t f) (λ n f. in_range) (valid-kept l x validity)

-- ---- a command reports few

-- the settings' notices are at most four
pub updated-few : (flags : ℕ) → length (updated_reported flags) ≤ 4
updated-few flags =
    simp length-append
    (omega
    (arith, only_one (has_flag flags update_direction) ColorLoopDirection, only_one (has_flag flags update_time) ColorLoopTime, only_one (has_flag flags update_start_hue) ColorLoopStartEnhancedHue))

-- with those of going off, at most 14
deactivated-few : (l : Lamp) (reported : List ℕ) → length reported ≤ 4 → length (deactivated l reported).reported ≤ 14
unfolding deactivated
deactivated-few l reported h =
    cond_both (λ (e : CommandEffect). length e.reported ≤ 14) l.looping.active _ (record { lamp = l; reported = reported; task = None })
    (λ e. simp length-append (omega (arith, change-few (hue_change l.color l.looping.stored true true l.clock) false, only_one (enhanced_change (hue_change l.color l.looping.stored true true l.clock)) EnhancedCurrentHue)))
    (λ e. omega arith)

-- and with those of going on from a hue
activated-few : (l : Lamp) (reported : List ℕ) (seed : ℕ) → length reported ≤ 4 → length (activated l reported seed).reported ≤ 14
unfolding activated
activated-few l reported seed h =
    let both : List ℕ = ColorLoopStoredEnhancedHue ∷ ColorLoopActive ∷ [] in
    let some : length (cond l.looping.active [] both) ≤ 2 = cond_both (λ xs. length xs ≤ 2) l.looping.active [] both (λ e. omega arith) (λ e. omega arith) in
    simp length-append (omega (arith, change-few (hue_change l.color seed true true l.clock) true, only_one (enhanced_change (hue_change l.color seed true true l.clock)) EnhancedCurrentHue))

-- the colour loop's command reports at most 14
loop-few : (l : Lamp) (flags : ℕ) (action : ColorLoopActionEnum) (direction : ColorLoopDirectionEnum) (time hue : ℕ) → length (loop_set l flags action direction time hue).reported ≤ 14
unfolding loop_set
loop-few l flags action direction time hue =
    cond_both (λ (e : CommandEffect). length e.reported ≤ 14) (has_flag flags update_action) _ _ (λ e. acts action) (λ e. le_trans (updated-few flags) (omega arith))
  where
    acts : (a : ColorLoopActionEnum) → length (acted (with_loop l l.color (updated l.looping flags direction time hue)) (updated_reported flags) a).reported ≤ 14
    acts ColorLoopActionEnum.Deactivate = deactivated-few _ _ (updated-few flags)
    acts ColorLoopActionEnum.ActivateFromColorLoopStartEnhancedHue = activated-few _ _ _ (updated-few flags)
    acts ColorLoopActionEnum.ActivateFromEnhancedCurrentHue = activated-few _ _ _ (updated-few flags)

-- and so does every command
pub commands-few : (l : Lamp) (r : Request) (on_off : OnOff) → length (command_done l r on_off).reported ≤ 14
commands-few l r on_off =
    done-by l (λ (e : CommandEffect). length e.reported ≤ 14) (λ t tie. omega (arith, only_one tie hue_tie)) r on_off (omega arith)
    (λ flags action direction time hue e. loop-few l flags action direction time hue)
