-- A lamp more.
use Rattle.std.proofs.lemmas.List.Sums.{fold-append}
use Rattle.row_lines.proofs.Sums.{lamps_more}
use Rattle.row_lines.proofs.answers.all_lamps.Goals as goal

pub loop-l-preserved : goal.loop-l-preserved
loop-l-preserved g c =
    let inside = c.loop-l-test.true in
    rw (c.lamp_line.ensures, c.loop-l.invariant, ← fold-append, ← lamps_more)
