-- The fields, the first with no blank, then the end of the line.
use Rattle.std.proofs.Common.{arith}
use Rattle.std.proofs.lemmas.List.Sums.{fold-append}
use Rattle.lamp_lines.specs.Answers.{lamp_numbers}
use Rattle.row_lines.specs.RowAnswers.{lamp_text}
use Rattle.row_lines.proofs.Sums.{first-number}
use Rattle.row_lines.proofs.answers.lamp_line.Goals as goal

pub returns : goal.returns
unfolding lamp_text
returns g c =
    rw (c.byte.ensures, c.ending.ensures, c.spaced_all.ensures, c.decimal.ensures, c.lamp_numbers-list.ensures, first-number (lamp_numbers c.args.lamp) (omega arith))
    (simp fold-append)
