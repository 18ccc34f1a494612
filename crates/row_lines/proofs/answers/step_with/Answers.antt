-- The status and the row, then what was lent.
use Rattle.std.proofs.Common.{refl}
use Rattle.std.proofs.lemmas.List.Sums.{fold-append}
use Rattle.row_lines.proofs.Turns.{step-turn}
use Rattle.row_lines.proofs.answers.step_with.Goals as goal

pub returns : goal.returns
returns g c =
    rw (step-turn c.args.row c.args.asked.fill c.args.asked.clock c.args.bytes.now _ _ _ c.fill.ensures c.step-stepped.ensures.answer c.step-stepped.ensures.slice)
    (refl, refl, rw (c.lent.ensures, c.then_row.ensures, c.status.ensures) (simp fold-append))
