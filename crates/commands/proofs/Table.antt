-- The table of causes holds. Each line computes from the tests it names.
use Rattle.std.specs.Prelude.{is_ok}
use Rattle.matter.specs.Causes.{Verdict, number_of, constraint_error, clock_refused, accepted, crossed_bounds, invalid_task, invalid_command, step_while_idle, invalid_lamp, mired_task_runs}
use Prim.Native.Nat.{ℕ, ◌≤◌, ◌<◌}
use mathlib.Core.Bool.{Bool, true, false, not, ◌&&◌, ◌||◌, true≢false}
use mathlib.Core.Logic.{inl, inr, ◌⊎◌, ⊎_elim}
use mathlib.Core.List.{[]}
use mathlib.Core.Path.{◌≡◌, refl, sym, ap, ◌∙◌}
use native.Mathlib.Omega.{arith}
use lib.Dec.{eqb, ltb}
use Rattle.matter.specs.declared.commands.Command.{Command}
use Rattle.matter.specs.declared.commands.Request.{Request}
use Rattle.matter.specs.declared.enums.OnOff.{OnOff}
use Rattle.matter.proofs.Laws.{cond_both}
use Rattle.matter.specs.declared.limits.Bounds.{Bounds}
use Rattle.matter.specs.Bounds.{crossed}
use Rattle.std.proofs.lemmas.Bool.Decides.{nat_tests}
use borrow.Author.Tests.{lt-ltb}
use Rattle.notices.specs.Notices.{only}
use Rattle.notices.specs.Names.{ColorTemperatureMireds}
use Rattle.notices.proofs.Laws.{only_one}
use Rattle.color.specs.Bounded.{mireds_move}
use Rattle.matter.specs.Limits.{hue_limit, saturation_limit, clock_limit}
use Rattle.tasks.specs.declared.Task.{Task}
use Rattle.tasks.specs.Valid.{task_valid}
use Rattle.tasks.specs.Runs.{runs, moves_mireds}
use Rattle.lamp.specs.declared.Lamp.{Lamp}
use Rattle.lamp.specs.declared.Answer.{Answer}
use Rattle.lamp.specs.Answers.{at_clock, bad_clock, first_cause, unchanged}
use Rattle.lamp.specs.Making.{making_cause}
use Rattle.lamp.specs.Valid.{lamp_valid}
use Rattle.lamp.specs.Calls.{started, stepped, start_answer, step_answer, halt_answer, choose, start_cause, step_cause, bounds_cause, bounds_answer}
use Rattle.lamp.proofs.Kept.{started-few, stepped-few}
use Rattle.lamp.specs.declared.Call.{Call}
use Rattle.commands.specs.Commands.{cause_if, checks}
use Rattle.commands.specs.Table.{Few, TableOfCauses}
use Rattle.commands.specs.Answers.{after_clock, command_cause, command_done, command_answer, cause, answer}
use Rattle.commands.proofs.Granted.{sets_bounds}
use Rattle.commands.proofs.Kept.{commands-few, number-is-cause}

in-order : {bounds : Bounds} → bounds.min ≤ bounds.max → crossed bounds ≡ false
in-order {bounds} h = grind (arith, nat_tests)

module _ (l : Lamp) (clock : ℕ) where
  -- ---- a step: 8, 7, 4
  pub step-8 : lamp_valid l ≡ false → number_of (cause l (Call.Step clock)) ≡ 8
  unfolding cause
  step-8 f = simp f

  pub step-7 : lamp_valid l ≡ true → runs l.running ≡ false → number_of (cause l (Call.Step clock)) ≡ 7
  unfolding cause
  step-7 f r = simp (f, r)

  pub step-4 : lamp_valid l ≡ true → runs l.running ≡ true → bad_clock l clock ≡ true → number_of (cause l (Call.Step clock)) ≡ 4
  unfolding cause
  step-4 f r b = simp (f, r, b)

  -- a step of a valid running lamp with a good clock is never refused
  pub step-0 : lamp_valid l ≡ true → runs l.running ≡ true → bad_clock l clock ≡ false → number_of (cause l (Call.Step clock)) ≡ 0
  unfolding cause
  step-0 f r b = simp (f, r, b)

  -- ---- a halt: 8, 4
  pub halt-8 : lamp_valid l ≡ false → number_of (cause l (Call.Halt clock)) ≡ 8
  unfolding cause first_cause
  halt-8 f = simp f

  pub halt-4 : lamp_valid l ≡ true → bad_clock l clock ≡ true → number_of (cause l (Call.Halt clock)) ≡ 4
  unfolding cause first_cause
  halt-4 f b = simp (f, b)

  pub halt-0 : lamp_valid l ≡ true → bad_clock l clock ≡ false → number_of (cause l (Call.Halt clock)) ≡ 0
  unfolding cause first_cause
  halt-0 f b = simp (f, b)

  module _ (task : Task) where
    -- ---- a start: 8, 4, 6
    pub start-8 : lamp_valid l ≡ false → number_of (cause l (Call.Start task clock)) ≡ 8
    unfolding cause first_cause
    start-8 f = simp f

    pub start-4 : lamp_valid l ≡ true → bad_clock l clock ≡ true → number_of (cause l (Call.Start task clock)) ≡ 4
    unfolding cause first_cause
    start-4 f b = simp (f, b)

    pub start-6 : lamp_valid l ≡ true → bad_clock l clock ≡ false → task_valid task ≡ false → number_of (cause l (Call.Start task clock)) ≡ 6
    unfolding cause first_cause
    start-6 f b t = simp (f, b, t)

    pub start-0 : lamp_valid l ≡ true → bad_clock l clock ≡ false → task_valid task ≡ true → number_of (cause l (Call.Start task clock)) ≡ 0
    unfolding cause first_cause
    start-0 f b t = simp (f, b, t)

  module _ (bounds : Bounds) where
    -- ---- new bounds: 8, 4, 5, 18
    pub bounds-8 : lamp_valid l ≡ false → number_of (cause l (Call.SetBounds bounds clock)) ≡ 8
    unfolding cause first_cause
    bounds-8 f = simp f

    pub bounds-4 : lamp_valid l ≡ true → bad_clock l clock ≡ true → number_of (cause l (Call.SetBounds bounds clock)) ≡ 4
    unfolding cause first_cause
    bounds-4 f b = simp (f, b)

    pub bounds-5 : lamp_valid l ≡ true → bad_clock l clock ≡ false → bounds.max < bounds.min → number_of (cause l (Call.SetBounds bounds clock)) ≡ 5
    unfolding cause first_cause
    bounds-5 f b h = simp (f, b, lt-ltb _ _ h)

    pub bounds-18 : lamp_valid l ≡ true → bad_clock l clock ≡ false → bounds.min ≤ bounds.max → moves_mireds l.running ≡ true → number_of (cause l (Call.SetBounds bounds clock)) ≡ 18
    unfolding cause first_cause
    bounds-18 f b h m = simp (f, b, in-order h, m)

    pub bounds-0 : lamp_valid l ≡ true → bad_clock l clock ≡ false → bounds.min ≤ bounds.max → moves_mireds l.running ≡ false → number_of (cause l (Call.SetBounds bounds clock)) ≡ 0
    unfolding cause first_cause
    bounds-0 f b h m = simp (f, b, in-order h, m)

  module _ (r : Request) (on_off : OnOff) where
    -- ---- a command: 8, 4, Stop mode, its own numbers (1 or 2)
    pub command-8 : lamp_valid l ≡ false → number_of (cause l (Call.Command r on_off clock)) ≡ 8
    unfolding cause command_cause first_cause
    command-8 f = simp f

    pub command-4 : lamp_valid l ≡ true → bad_clock l clock ≡ true → number_of (cause l (Call.Command r on_off clock)) ≡ 4
    unfolding cause command_cause first_cause
    command-4 f b = simp (f, b)

    pub command-stop : lamp_valid l ≡ true → bad_clock l clock ≡ false → (checks r.command).stop ≡ true → number_of (cause l (Call.Command r on_off clock)) ≡ 0
    unfolding cause command_cause first_cause
    command-stop f b s = simp (f, b, s)

    pub command-own : lamp_valid l ≡ true → bad_clock l clock ≡ false → (checks r.command).stop ≡ false → cause l (Call.Command r on_off clock) ≡ (checks r.command).cause
    unfolding cause command_cause first_cause
    command-own f b s = simp (f, b, s)

-- ---- which numbers there are

small : {most : ℕ} (test : Bool) (cause : Verdict) → number_of cause ≤ most → number_of (cause_if test cause) ≤ most
small {most} test cause h = cond_both (λ v. number_of v ≤ most) test cause accepted (λ e. h) (λ e. omega arith)

-- a command's own numbers give 1, 2 or no cause
pub own-small : (c : Command) → number_of (checks c).cause ≤ 2
own-small (Command.MoveToHue hue direction time) = small (ltb hue_limit hue) constraint_error (omega arith)
own-small (Command.MoveHue mode rate enhanced) = small (eqb rate 0) invalid_command (omega arith)
own-small (Command.StepHue mode size time) = small (eqb size 0) invalid_command (omega arith)
own-small (Command.MoveToSaturation saturation time) = small (ltb saturation_limit saturation) constraint_error (omega arith)
own-small (Command.MoveSaturation mode rate) = small (eqb rate 0) invalid_command (omega arith)
own-small (Command.StepSaturation mode size time) = small (eqb size 0) invalid_command (omega arith)
own-small (Command.MoveToHueAndSaturation hue saturation time enhanced enhanced_hue) =
    small ((not enhanced && ltb hue_limit hue) || ltb saturation_limit saturation) constraint_error (omega arith)
own-small (Command.EnhancedMoveToHue hue direction time) = omega arith
own-small (Command.EnhancedMoveHue mode rate) = small (eqb rate 0) invalid_command (omega arith)
own-small (Command.EnhancedStepHue mode size time) = small (eqb size 0) invalid_command (omega arith)
own-small (Command.MoveToColorTemperature mireds time) = small (eqb mireds 0) constraint_error (omega arith)
own-small (Command.MoveColorTemperature mode rate min max) = small (eqb rate 0) invalid_command (omega arith)
own-small (Command.StepColorTemperature mode size time min max) = small (eqb size 0) invalid_command (omega arith)
own-small (Command.ColorLoopSet flags action direction time start_hue) = omega arith
own-small Command.StopMoveStep = omega arith

-- what holds of an accepted call, of the commands' own causes, of five others and, for new bounds, of 18 holds of every verdict
module _ (P : Verdict → Type 0) (p0 : P accepted) (own : (c : Command) → P (checks c).cause) (p4 : P clock_refused) (p6 : P invalid_task) (p7 : P step_while_idle) (p8 : P invalid_lamp) (p5 : P crossed_bounds) where
  clock-in : (l : Lamp) (clock : ℕ) → P (cause_if (bad_clock l clock) clock_refused)
  clock-in l clock = cond_both P (bad_clock l clock) clock_refused accepted (λ e. p4) (λ e. p0)

  first-in : (l : Lamp) (clock : ℕ) → P (first_cause l clock)
  unfolding first_cause
  first-in l clock = cond_both P (not (lamp_valid l)) invalid_lamp _ (λ e. p8) (λ e. clock-in l clock)

  cause-in : (l : Lamp) (x : Call) → (sets_bounds x ≡ true → P mired_task_runs) → P (cause l x)
  unfolding cause command_cause
  cause-in l (Call.Command r on_off clock) p18 =
      cond_both P (is_ok (first_cause l clock)) (after_clock r) (first_cause l clock)
      (λ e. cond_both P (checks r.command).stop accepted _ (λ e. p0) (λ e. own r.command))
      (λ e. first-in l clock)
  cause-in l (Call.Start task clock) p18 =
      cond_both P (is_ok (first_cause l clock)) _ (first_cause l clock)
      (λ e. cond_both P (task_valid task) accepted invalid_task (λ e. p0) (λ e. p6))
      (λ e. first-in l clock)
  cause-in l (Call.Step clock) p18 =
      cond_both P (not (lamp_valid l)) invalid_lamp _ (λ e. p8)
      (λ e. cond_both P (not (runs l.running)) step_while_idle _ (λ e. p7) (λ e. clock-in l clock))
  cause-in l (Call.Halt clock) p18 = first-in l clock
  cause-in l (Call.SetBounds bounds clock) p18 =
      cond_both P (is_ok (first_cause l clock)) _ (first_cause l clock)
      (λ e. cond_both P (crossed bounds) crossed_bounds _ (λ e. p5) (λ e. cond_both P (moves_mireds l.running) mired_task_runs accepted (λ e. p18 refl) (λ e. p0)))
      (λ e. first-in l clock)

pub cause-small : (l : Lamp) (x : Call) → (number_of (cause l x) ≤ 8) ⊎ ((sets_bounds x ≡ true) × (number_of (cause l x) ≡ 18))
cause-small l x =
    cause-in (λ v. (number_of v ≤ 8) ⊎ ((sets_bounds x ≡ true) × (number_of v ≡ 18)))
    (inl (omega arith)) (λ c. inl (omega (arith, own-small c))) (inl (omega arith)) (inl (omega arith)) (inl (omega arith)) (inl (omega arith)) (inl (omega arith))
    l x (λ e. inr (e, refl))

-- no call but one of new bounds is refused with a number above 8
other-small : (l : Lamp) (x : Call) → ((new : Bounds) (clock : ℕ) → x ≡ Call.SetBounds new clock → ⊥) → number_of (cause l x) ≤ 8
other-small l x h = ⊎_elim (λ e. e) (λ e. absurd (sets x e.0 h)) (cause-small l x)
  where
    sets : (x : Call) → sets_bounds x ≡ true → ((new : Bounds) (clock : ℕ) → x ≡ Call.SetBounds new clock → ⊥) → ⊥
    sets (Call.Command r on_off clock) e h = true≢false (sym e)
    sets (Call.Start task clock) e h = true≢false (sym e)
    sets (Call.Step clock) e h = true≢false (sym e)
    sets (Call.Halt clock) e h = true≢false (sym e)
    sets (Call.SetBounds bounds clock) e h = h bounds clock refl

pub cause-not-3 : (l : Lamp) (x : Call) → number_of (cause l x) ≡ 3 → ⊥
cause-not-3 l x =
    cause-in (λ v. number_of v ≡ 3 → ⊥) (λ e. omega (arith, e)) (λ c e. omega (arith, own-small c, e)) (λ e. omega (arith, e)) (λ e. omega (arith, e)) (λ e. omega (arith, e)) (λ e. omega (arith, e)) (λ e. omega (arith, e))
    l x (λ h e. omega (arith, e))

making-not-3 : (bounds : Bounds) (clock : ℕ) → number_of (making_cause bounds clock) ≡ 3 → ⊥
making-not-3 bounds clock =
    cond_both (λ v. number_of v ≡ 3 → ⊥) (ltb clock_limit clock) clock_refused _ (λ t e. omega (arith, e))
    (λ t. cond_both (λ v. number_of v ≡ 3 → ⊥) (crossed bounds) crossed_bounds accepted (λ u e. omega (arith, e)) (λ u e. omega (arith, e)))

-- ---- at most 14 notices: an answer's list is some list of at most 14 in its places, with zeros behind

chosen : (n : Verdict) (l : Lamp) (a : Answer) → Few a → Few (choose n l a)
chosen n l a f = cond_both Few (is_ok n) a (unchanged l n) (λ e. f) (λ e. record { reported = []; listed = refl; few = omega arith })

pub answer-few : (l : Lamp) (x : Call) → Few (answer l x)
unfolding answer command_answer start_answer step_answer halt_answer bounds_answer
answer-few l (Call.Command r on_off clock) =
    chosen (command_cause l r clock) l _
    (record { reported = (command_done (at_clock l clock) r on_off).reported; listed = refl; few = commands-few (at_clock l clock) r on_off })
answer-few l (Call.Start task clock) =
    chosen (start_cause l task clock) l _
    (record { reported = (started (at_clock l clock) task).reported; listed = refl; few = started-few (at_clock l clock) task })
answer-few l (Call.Step clock) =
    chosen (step_cause l clock) l _
    (record { reported = (stepped (at_clock l clock) l.running).reported; listed = refl; few = stepped-few (at_clock l clock) l.running })
answer-few l (Call.Halt clock) = chosen (first_cause l clock) l _ (record { reported = []; listed = refl; few = omega arith })
answer-few l (Call.SetBounds bounds clock) =
    let moved : Bool = mireds_move l.color bounds in
    chosen (bounds_cause l bounds clock) l _
    (record { reported = only moved ColorTemperatureMireds; listed = refl; few = omega (arith, only_one moved ColorTemperatureMireds) })

-- ---- together

pub table : TableOfCauses
table =
    record {
      steps = λ l clock. record { step-8 = step-8 l clock; step-7 = step-7 l clock; step-4 = step-4 l clock; step-0 = step-0 l clock };
      halts = λ l clock. record { halt-8 = halt-8 l clock; halt-4 = halt-4 l clock; halt-0 = halt-0 l clock };
      starts =
          λ l clock task. record {
            start-8 = start-8 l clock task;
            start-4 = start-4 l clock task;
            start-6 = start-6 l clock task;
            start-0 = start-0 l clock task;
          };
      commands =
          λ l clock r on_off. record {
            command-8 = command-8 l clock r on_off;
            command-4 = command-4 l clock r on_off;
            command-stop = command-stop l clock r on_off;
            command-own = command-own l clock r on_off;
          };
      bounds =
          λ l clock bounds. record {
            bounds-8 = bounds-8 l clock bounds;
            bounds-4 = bounds-4 l clock bounds;
            bounds-5 = bounds-5 l clock bounds;
            bounds-18 = bounds-18 l clock bounds;
            bounds-0 = bounds-0 l clock bounds;
          };
      own = own-small;
      most = other-small;
      no-3 = λ l x e. cause-not-3 l x (sym (ap number_of (number-is-cause l x)) ∙ e);
      making-no-3 = making-not-3;
      few = answer-few;
    }
