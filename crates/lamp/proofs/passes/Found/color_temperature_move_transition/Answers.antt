-- Each call's contract is its part of the definition; a valid rate is within ±65,535, so that it is read as it is.
use Rattle.std.proofs.Common.{◌≡◌, w64, to_z, of_z, ap, ◌∙◌, rules}
use Rattle.std.proofs.Math.Facts.{to_z-of_z}
use borrow.Author.Rules.{sfits_of}
use Rattle.progress.specs.Progress.{limited}
use Rattle.lamp.proofs.Shared.{rate-same}
use Rattle.lamp.specs.Passes.{temperature_passed}
use Rattle.lamp.proofs.passes.Found.color_temperature_move_transition.Goals as goal

pub returns : goal.returns
unfolding temperature_passed
returns c =
    let read : to_z w64 (of_z w64 c.args.run.rate) ≡ c.args.run.rate = search rules in
    let rate : limited (to_z w64 (of_z w64 c.args.run.rate)) ≡ c.args.run.rate = ap limited read ∙ rate-same _ c.requires in
    rw
    (c.passed.ensures, c.set_color_temperature-set.ensures, c.mireds_done-ends.ensures, c.clamped_sum-now.ensures, to_z-of_z {w = w64} (sfits_of c.delta_at_rate-way.type_inv), c.delta_at_rate-way.ensures, rate, read, c.elapsed.ensures)
