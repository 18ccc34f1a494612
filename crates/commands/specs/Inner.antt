-- What contracts of inner functions alone cite, and nobody has to believe: what the code of a command hands on, before
-- the answer is built from it (`built` in proofs/Built).
use Rattle.std.specs.Prelude.{ℕ, cond}
use Rattle.matter.specs.Causes.{Verdict, clock_refused}
use Rattle.notices.specs.Numerals.{empty, in_front}
use Rattle.lamp.specs.declared.Lamp.{Lamp}
use Rattle.lamp.specs.Answers.{bad_clock}
use Rattle.commands.specs.declared.outcomes.Outcome.{Outcome}
use Rattle.commands.specs.declared.checks.Checks.{Checks}
use Rattle.commands.specs.Commands.{CommandEffect}
use Rattle.commands.specs.Answers.{in_order}

-- of an effect: its list is a numeral, and the lamp all that a command changes of it
abbrev pub accepted_outcome : CommandEffect → Outcome
accepted_outcome e =
    record {
      color = e.lamp.color;
      looping = e.lamp.looping;
      reported = in_front e.reported empty;
      task = e.task;
    }

-- of a valid lamp's command: that it is accepted, or why it is refused
abbrev pub verdict_of : Lamp → Checks → ℕ → Verdict
verdict_of l checks clock = cond (bad_clock l clock) clock_refused (in_order checks.stop checks.cause)
