-- A valid delta is within ±65,535, so that it is read as it is.
use Rattle.std.proofs.Common.{◌≡◌, w64, to_z, of_z, ap, ◌∙◌, rules}
use Rattle.std.proofs.Math.Facts.{to_z-of_z}
use borrow.Author.Rules.{sfits_of}
use Rattle.progress.specs.Progress.{limited}
use Rattle.lamp.proofs.Shared.{small_same}
use Rattle.lamp.proofs.passes.move_hue.Goals as goal

pub returns-in-Some : goal.returns-in-Some
returns-in-Some c =
    let read : to_z w64 (of_z w64 c.in-Some.way) ≡ c.in-Some.way = search rules in
    let same : limited (to_z w64 (of_z w64 c.in-Some.way)) ≡ c.in-Some.way = ap limited read ∙ small_same _ (rw c.in-Some.is at c.requires) in
    rw (c.set_hue.ensures, c.at_end.ensures, c.moved_hue-now.ensures, to_z-of_z {w = w64} (sfits_of c.part.type_inv), c.part.ensures, same, c.in-Some.is)
