-- The lamps so far are written.
use Rattle.std.proofs.Common.{◌≡◌, take}
use Rattle.std.specs.List.{fold}
use Rattle.row_lines.specs.RowAnswers.{lamps_text}
use Rattle.row_lines.proofs.answers.all_lamps.Given as goal

abbrev pub invariant-loop-l : goal.invariant-loop-l
invariant-loop-l g l = l.out ≡ fold g.S.Sink.push l.initial.out (lamps_text (take l.l-index l.lamps))
