-- `part`: the product fits, and so does its quotient, so that the machine reads back what it wrote.
use Rattle.std.proofs.Common.{pos, ◌*ℤ◌, w64, SFits, arith}
use Rattle.std.proofs.Math.Facts.{to_z-of_z, to_z_pos}
use borrow.Author.Rules.{sfits_of}
use Rattle.integers.proofs.Sizes.{quot_fits}
use Rattle.progress.specs.Progress.{limited}
use Rattle.progress.proofs.Laws.{limited-fits}
use Rattle.progress.proofs.part.Goals as goal

pub overflow_mul-result : goal.overflow_mul-result
overflow_mul-result c =
    rw
    (to_z-of_z {w = w64} {z = c.limited.result} (sfits_of c.limited.type_inv), c.limited.ensures, to_z-of_z {w = w64} c.ranges.way, to_z_pos w64 {n = c.args.permille} (omega arith))
    (limited-fits c.args.way c.args.permille (omega arith))

pub returns : goal.returns
returns c =
    let f : SFits w64 (limited c.args.way *ℤ pos c.args.permille) = limited-fits c.args.way c.args.permille (omega arith) in
    rw
    (to_z-of_z {w = w64} {z = c.limited.result} (sfits_of c.limited.type_inv), c.limited.ensures, to_z-of_z {w = w64} c.ranges.way, to_z_pos w64 {n = c.args.permille} (omega arith), to_z-of_z {w = w64} f, to_z-of_z {w = w64} (quot_fits 1000 f))
