-- Each call's contract is its part of the definition; a valid rate is read as it is.
use Rattle.std.proofs.Common.{arith, w64, ◌≤◌, leb-true}
use Rattle.std.proofs.Math.Facts.{to_z-of_z}
use borrow.Author.Rules.{sfits_of}
use Rattle.matter.proofs.Laws.{each}
use Rattle.tasks.specs.Valid.{hue_move_valid}
use Rattle.lamp.proofs.Shared.{signed_same}
use Rattle.lamp.specs.Passes.{hue_passed}
use Rattle.lamp.proofs.passes.Found.hue_move_transition.Goals as goal

pub returns : goal.returns
unfolding hue_passed hue_move_valid
returns c =
    let run = c.args.run in
    let small : run.task.rate ≤ 65535 = leb-true run.task.rate _ (each _ c.requires).1.0 in
    rw
    (c.passed.ensures, c.set_hue-set.ensures, c.moved_hue-now.ensures, to_z-of_z {w = w64} (sfits_of c.delta_at_rate.type_inv), c.delta_at_rate.ensures, c.elapsed.ensures, to_z-of_z {w = w64} (sfits_of c.signed-rate.type_inv), c.signed-rate.ensures, signed_same run.task.direction run.task.rate (omega (arith, small)))
