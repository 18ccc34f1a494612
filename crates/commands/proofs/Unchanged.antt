-- What a call leaves as it was.
use Rattle.std.specs.Prelude.{None}
use mathlib.Core.Bool.{false, true≢false}
use mathlib.Core.Path.{◌≡◌, refl}
use lib.Dec.{leb}
use Rattle.matter.specs.Bounds.{lower, upper}
use Rattle.matter.proofs.Laws.{cond_both}
use Rattle.notices.specs.Notices.{filled}
use Rattle.tasks.specs.declared.Running.{Running}
use Rattle.tasks.specs.declared.Task.{Task}
use Rattle.lamp.specs.declared.Lamp.{Lamp}
use Rattle.lamp.specs.Answers.{at_clock}
use Rattle.lamp.specs.Calls.{temperature_start, started, stepped}
use Rattle.lamp.specs.Passes.{Effect, hue_passed, loop_passed, saturation_passed, temperature_passed}
use Rattle.lamp.specs.declared.Call.{Call}
use Rattle.lamp.proofs.InRangeKept.{started-any, stepped-any}
use Rattle.commands.specs.Answers.{answer}
use Rattle.commands.proofs.Granted.{granted}
use Rattle.commands.specs.Unchanged.{is_move_to, moves_to, Unchanged}
use Rattle.commands.proofs.Kept.{answer-both, refused-same, done-any, bounds-kept, options-kept}

-- a start but a move-to's leaves the remaining time
started-remaining : (l : Lamp) (task : Task) → is_move_to task ≡ false → (started l task).lamp.remaining ≡ l.remaining
unfolding started hue_passed saturation_passed temperature_start temperature_passed loop_passed
started-remaining l (Task.HueSaturationMoveTo task) e = absurd (true≢false e)
started-remaining l (Task.HueMove task) e = refl
started-remaining l (Task.SaturationMove task) e = refl
started-remaining l (Task.ColorTemperatureMoveTo task) e = absurd (true≢false e)
started-remaining l (Task.ColorTemperatureMove task) e =
    cond_both (λ (x : Effect). x.lamp.remaining ≡ l.remaining) (leb (upper l.bounds task.max) (lower l.bounds task.min)) _ _
    (λ t. refl) (λ t. refl)
started-remaining l (Task.ColorLoop task) e = refl
started-remaining l Task.Stop e = refl

-- and so does a step
stepped-remaining : (l : Lamp) (run : Running) → moves_to run ≡ false → (stepped l run).lamp.remaining ≡ l.remaining
unfolding stepped hue_passed saturation_passed temperature_passed loop_passed
stepped-remaining l Running.Idle e = refl
stepped-remaining l (Running.HueSaturationMoveTo run) e = absurd (true≢false e)
stepped-remaining l (Running.HueMove run) e = refl
stepped-remaining l (Running.SaturationMove run) e = refl
stepped-remaining l (Running.ColorTemperatureMoveTo run) e = absurd (true≢false e)
stepped-remaining l (Running.ColorTemperatureMove run) e = refl
stepped-remaining l (Running.ColorLoop direction hue seconds start) e = refl

module _ (l : Lamp) where
  -- what holds of the lamp and of what is granted holds of the lamp after a call
  lamp-both : (P : Lamp → Type 0) (x : Call) → P (granted l x).lamp → P l → P (answer l x).lamp
  lamp-both P x h k = answer-both l (λ a. P a.lamp) x (λ e. h) (λ n. k)

  pub unchanged : Unchanged l
  unfolding filled
  unchanged =
      record {
        refusal = refused-same l;
        halting = λ clock z. answer-both l (λ a. a ≡ granted l (Call.Halt clock)) (Call.Halt clock) (λ e. refl) (λ n. absurd (n z));
        start-task = λ task clock. answer-both l (λ a. a.task ≡ None) (Call.Start task clock) (λ e. refl) (λ n. refl);
        step-task = λ clock. answer-both l (λ a. a.task ≡ None) (Call.Step clock) (λ e. refl) (λ n. refl);
        bounds = bounds-kept l;
        options = options-kept l;
        command-running =
            λ r on_off clock.
            lamp-both (λ m. m.running ≡ l.running) (Call.Command r on_off clock)
            (done-any (at_clock l clock) (λ m. m.running ≡ l.running) (λ d s. refl) r on_off) refl;
        command-remaining =
            λ r on_off clock.
            lamp-both (λ m. m.remaining ≡ l.remaining) (Call.Command r on_off clock)
            (done-any (at_clock l clock) (λ m. m.remaining ≡ l.remaining) (λ d s. refl) r on_off) refl;
        command-wait = λ r on_off clock. answer-both l (λ a. a.wait ≡ 0) (Call.Command r on_off clock) (λ e. refl) (λ n. refl);
        start-looping =
            λ task clock.
            lamp-both (λ m. m.looping ≡ l.looping) (Call.Start task clock)
            (started-any (at_clock l clock) (λ m. m.looping ≡ l.looping) (λ c r t. refl) task) refl;
        step-looping =
            λ clock.
            lamp-both (λ m. m.looping ≡ l.looping) (Call.Step clock)
            (stepped-any (at_clock l clock) (λ m. m.looping ≡ l.looping) (λ c r t. refl) l.running) refl;
        start-remaining =
            λ task clock e.
            lamp-both (λ m. m.remaining ≡ l.remaining) (Call.Start task clock) (started-remaining (at_clock l clock) task e) refl;
        step-remaining =
            λ clock e.
            lamp-both (λ m. m.remaining ≡ l.remaining) (Call.Step clock) (stepped-remaining (at_clock l clock) l.running e) refl;
      }
