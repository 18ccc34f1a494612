-- What contracts of inner functions alone cite, and nobody has to believe: one line at a time, and the run after it
-- (`text-next` in proofs/Laws says that these are the text).
use Rattle.std.specs.Prelude.{ℕ, ◌+◌, ◌-◌, cond, ◌&&◌, List, [], ltb}
use Rattle.lamp.specs.declared.Answer.{Answer}
use Rattle.lamp.specs.Calls.{start_answer, step_answer}
use Rattle.fade_line.specs.Text.{refused_text, bad_line_text}
use Rattle.fade_run.specs.declared.Fade.{Fade}
use Rattle.fade_run.specs.Run.{one_text, goes_on}

abbrev pub next_text : Fade → List ℕ
next_text Fade.BadLine = bad_line_text
next_text (Fade.Refused number) = refused_text number
next_text (Fade.Start s) = one_text (start_answer s.lamp s.task s.clock) s.clock
next_text (Fade.Step s) = one_text (step_answer s.lamp s.clock) s.clock
next_text Fade.Over = []

unfoldable pub step_of : Answer → ℕ → ℕ → Fade
step_of a clock left =
    cond (goes_on a && ltb 0 left) (Fade.Step (record {
      lamp = a.lamp;
      clock = clock + a.wait;
      left = left - 1;
    })) Fade.Over

abbrev pub rest : Fade → Fade
rest Fade.BadLine = Fade.Over
rest (Fade.Refused number) = Fade.Over
rest (Fade.Start s) = step_of (start_answer s.lamp s.task s.clock) s.clock s.left
rest (Fade.Step s) = step_of (step_answer s.lamp s.clock) s.clock s.left
rest Fade.Over = Fade.Over
