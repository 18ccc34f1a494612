-- The limits of a mired step.
use Prim.Native.Nat.{ℕ, ◌≤◌, ◌<◌}
use mathlib.Core.Bool.{Bool, true, false, cond}
use mathlib.Core.Path.{◌≡◌, refl}
use lib.Dec.{ltb}
use lib.IntN.{pos, ◌+ℤ◌}
use borrow.Author.Tests.{lt-ltb, le-ltb}
use Rattle.matter.specs.declared.commands.CommandOptions.{CommandOptions}
use Rattle.matter.specs.declared.enums.OnOff.{OnOff}
use Rattle.matter.specs.declared.enums.StepModeEnum.{StepModeEnum}
use Rattle.matter.specs.declared.limits.Bounds.{Bounds}
use Rattle.progress.specs.Progress.{clamp}
use Rattle.lamp.specs.declared.Lamp.{Lamp}
use Rattle.commands.specs.Commands.{command_effect, lo, hi, limits, step_limits, step_delta, mireds_step}
use Rattle.commands.specs.Answers.{command_cause, command_answer, answer}
use Rattle.commands.specs.StepLimits.{StepLimits}

module _ (b : Bounds) (min max : ℕ) where
  kept : lo b min ≤ hi b max → step_limits b min max ≡ limits b min max
  kept h = rw (le-ltb _ _ h)

  dropped : hi b max < lo b min → step_limits b min max ≡ limits b 0 0
  dropped h = rw (lt-ltb _ _ h)

-- limits that do not cross are kept
pub step-within : (l : Lamp) (mode : StepModeEnum) (size min max : ℕ) → lo l.bounds min ≤ hi l.bounds max →
    mireds_step l mode size min max ≡ clamp (lo l.bounds min) (hi l.bounds max) (pos l.color.mireds +ℤ step_delta mode size)
step-within l mode size min max h = rw (kept l.bounds min max h)

-- with limits of 0 there is nothing to drop
none : (b : Bounds) → step_limits b 0 0 ≡ limits b 0 0
none b = by (ltb (hi b 0) (lo b 0)) where
  by : (t : Bool) → cond t (limits b 0 0) (limits b 0 0) ≡ limits b 0 0
  by true = refl
  by false = refl

module _ (l : Lamp) (mode : StepModeEnum) (size time : ℕ) (o : CommandOptions) (on_off : OnOff) (clock : ℕ) where
  pub step-limits : StepLimits l mode size time o on_off clock
  unfolding answer command_answer command_cause command_effect
  step-limits =
      record {
        uncrossed = λ min max h. rw (kept l.bounds min max h);
        crossed = λ min max h. rw (dropped l.bounds min max h, none l.bounds);
      }
