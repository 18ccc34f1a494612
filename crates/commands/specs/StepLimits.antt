-- Document 02, A.12: the limits of a mired step, as statements about its whole answer. lo and hi are document 01's.
use Rattle.matter.specs.Causes.{invalid_command}
use Rattle.std.specs.Prelude.{ℕ, ◌≤◌, ◌<◌, cond, ◌≡◌, eqb, pos, ◌+ℤ◌, is_ok}
use Rattle.matter.specs.declared.commands.Command.{Command}
use Rattle.matter.specs.declared.commands.CommandOptions.{CommandOptions}
use Rattle.matter.specs.declared.enums.OnOff.{OnOff}
use Rattle.matter.specs.declared.enums.StepModeEnum.{StepModeEnum}
use Rattle.matter.specs.Requests.{request}
use Rattle.matter.specs.Rules.{may_execute}
use Rattle.progress.specs.Progress.{clamp}
use Rattle.lamp.specs.declared.Answer.{Answer}
use Rattle.lamp.specs.declared.Call.{Call}
use Rattle.lamp.specs.declared.Lamp.{Lamp}
use Rattle.lamp.specs.Answers.{at_clock, first_cause}
use Rattle.lamp.specs.Calls.{choose}
use Rattle.commands.specs.Commands.{skip, giving, cause_if, lo, hi, step_delta, temperature_task}
use Rattle.commands.specs.Answers.{command_accepted, answer}

module _ (l : Lamp) (mode : StepModeEnum) (size time : ℕ) (o : CommandOptions) (on_off : OnOff) (clock : ℕ) where
  -- the answer to the step with these limits
  abbrev pub step_with : ℕ → ℕ → Answer
  step_with min max =
      answer l (Call.Command (request (Command.StepColorTemperature mode size time min max) o) on_off clock)

  -- the answer to a step within low and high: 8 and 4, a step of 0, off, and then the task
  abbrev pub stepped_within : ℕ → ℕ → Answer
  stepped_within low high =
      let at : Lamp = at_clock l clock in
      let target : ℕ = clamp low high (pos l.color.mireds +ℤ step_delta mode size) in
      choose (cond (is_ok (first_cause l clock)) (cause_if (eqb size 0) invalid_command) (first_cause l clock)) l
      (command_accepted
      (cond (may_execute on_off l.options o.mask o.overrides) (giving at (temperature_task target time))
      (skip at)))

  pub record StepLimits : Type 0 where
    -- "Every step with lo at or below hi is answered as before"
    pub uncrossed : (min max : ℕ) → lo l.bounds min ≤ hi l.bounds max →
        step_with min max ≡ stepped_within (lo l.bounds min) (hi l.bounds max)
    -- "A step with lo above hi [..] is now answered as if both limits were 0"
    pub crossed : (min max : ℕ) → hi l.bounds max < lo l.bounds min → step_with min max ≡ step_with 0 0
