-- The test picks the definition's case, and each call's contract is its part of it.
use Rattle.std.proofs.Common.{arith, w64}
use Rattle.std.proofs.Math.Facts.{to_z-of_z}
use borrow.Author.Rules.{sfits_of}
use Rattle.lamp.proofs.Shared.{between-same}
use Rattle.lamp.proofs.passes.mireds_now.Goals as goal

pub returns : goal.returns
returns c =
    rw
    (c.clamped_sum.ensures, to_z-of_z {w = w64} (sfits_of c.part.type_inv), c.part.ensures, to_z-of_z {w = w64} (sfits_of c.delta_between.type_inv), c.delta_between.ensures, between-same c.args.start c.args.target (omega arith) (omega arith), ← c.at_end.ensures, c.if-at_end.false)
