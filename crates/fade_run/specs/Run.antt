-- The program `fade`: document 01, "Checked by sums". "It makes this lamp at that clock, gives the plain command,
-- starts it, and steps at each wait until done."
use Rattle.tasks.specs.declared.Task.{Task}
use Rattle.std.specs.Prelude.{Option, Some, None}
use Rattle.std.specs.Prelude.{ℕ, zero, suc, ◌+◌, Bool, true, false, cond, ◌&&◌, ◌||◌, List, [], ◌++◌, ltb}
use Rattle.std.specs.Prelude.{Option, Some, None}
use Rattle.matter.specs.declared.commands.Command.{Command}
use Rattle.matter.specs.Requests.{request, no_options}
use Rattle.matter.specs.declared.enums.OnOff.{OnOff}
use Rattle.matter.specs.Causes.{Verdict, number_of, refusal_number}
use Rattle.std.specs.Prelude.{is_ok}
use Rattle.tasks.specs.Runs.{runs}
use Rattle.lamp.specs.declared.Lamp.{Lamp}
use Rattle.std.specs.Prelude.{Result, Ok, Err}
use Rattle.matter.specs.declared.refusals.Refusal.{Refusal}
use Rattle.lamp.specs.declared.Answer.{Answer}
use Rattle.lamp.specs.Making.{making}
use Rattle.lamp.specs.Calls.{start_answer, step_answer}
use Rattle.commands.specs.Answers.{command_answer}
use Rattle.fade_line.specs.declared.reader.Wanted.{Wanted}
use Rattle.fade_line.specs.declared.writer.Line.{Line}
use Rattle.fade_line.specs.Text.{line_text, refused_text, bad_line_text}
use Rattle.fade_run.specs.declared.Fade.{Fade}

-- ---- the text of an answer, and of those that follow

-- "A line has clock, hue, remaining tenths and wait, a colon, then the notices of the start or step"
unfoldable pub line_of : Answer → ℕ → Line
line_of a clock =
    record {
      clock = clock;
      hue = a.lamp.color.hue;
      tenths = a.lamp.remaining.tenths;
      wait = a.wait;
      notices = a.notices;
    }

-- "A refusal prints `refused`, a space and its number"
abbrev pub one_text : Answer → ℕ → List ℕ
one_text a clock = cond (is_ok a.verdict) (line_text (line_of a clock)) (refused_text (number_of a.verdict))

-- whether a step follows an answer: not after a refusal, which "ends the run", and not once the lamp is idle
abbrev pub goes_on : Answer → Bool
goes_on a = is_ok a.verdict && runs a.lamp.running

-- the step that follows an answer to a call at a clock
abbrev pub step_after : Answer → ℕ → Answer
step_after a clock = step_answer a.lamp (clock + a.wait)

-- what follows an answer, in so many steps at most
unfoldable pub further : ℕ → Answer → ℕ → List ℕ
further zero a clock = []
further (suc left) a clock =
    cond (goes_on a)
    (one_text (step_after a clock) (clock + a.wait) ++ further left (step_after a clock) (clock + a.wait))
    []

-- ---- a run, where it stands, and what it has still to write

abbrev pub text : Fade → List ℕ
text Fade.BadLine = bad_line_text
text (Fade.Refused number) = refused_text number
text (Fade.Start s) =
    one_text (start_answer s.lamp s.task s.clock) s.clock
    ++ further s.left (start_answer s.lamp s.task s.clock) s.clock
text (Fade.Step s) =
    one_text (step_answer s.lamp s.clock) s.clock
    ++ further s.left (step_answer s.lamp s.clock) s.clock
text Fade.Over = []

-- ---- a run as it begins, with so many steps at most

abbrev pub start_of : ℕ → ℕ → Lamp → Option Task → Fade
start_of left clock l None = Fade.Over
start_of left clock l (Some task) = Fade.Start (record { lamp = l; task = task; clock = clock; left = left })

abbrev pub unless_ended : Verdict → Fade → Fade
unless_ended (Ok u) fade = fade
unless_ended (Err refusal) fade = Fade.Refused (refusal_number refusal)

abbrev pub after_command : ℕ → ℕ → Answer → Fade
after_command left clock a = unless_ended a.verdict (start_of left clock a.lamp a.task)

-- "gives the plain command", on, with no options of its own
abbrev pub commanded : ℕ → Wanted → Lamp → Fade
commanded left w l =
    after_command left w.clock
    (command_answer l (request (Command.MoveToHue w.hue w.direction w.tenths) no_options) OnOff.On w.clock)

abbrev pub after_making : ℕ → Wanted → Result Lamp Refusal → Fade
after_making left w (Err refusal) = Fade.Refused (refusal_number refusal)
after_making left w (Ok l) = commanded left w l

-- "It makes this lamp": "bounds 153 and 500, [..] hue 0, mireds 250, on, XY mode"
abbrev pub fade_within : ℕ → Wanted → Fade
fade_within left w = after_making left w (making (record { min = 153; max = 500 }) 31 0 w.clock)

-- as many steps at most as the fade has tenths
unfoldable pub fade_of : Option Wanted → Fade
fade_of None = Fade.BadLine
fade_of (Some w) = fade_within w.tenths w

-- ---- one line at a time

-- whether nothing is left to write
abbrev pub is_over : Fade → Bool
is_over Fade.BadLine = false
is_over (Fade.Refused number) = false
is_over (Fade.Start s) = false
is_over (Fade.Step s) = false
is_over Fade.Over = true

-- whether something was written, of a run that is not over, into a slice that has room for a line
abbrev pub moved : Fade → ℕ → ℕ → Bool
moved f room len = is_over f || ltb room 512 || ltb 0 len
