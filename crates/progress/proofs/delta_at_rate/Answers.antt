-- `delta_at_rate`: as `part`, the time being within the limit of clocks.
use Rattle.std.proofs.Common.{pos, ◌*ℤ◌, w64, SFits, arith, min}
use Rattle.std.proofs.Math.Facts.{to_z-of_z, to_z_pos}
use borrow.Author.Rules.{sfits_of}
use Rattle.integers.proofs.Sizes.{quot_fits}
use Rattle.matter.specs.Limits.{clock_limit}
use Rattle.progress.specs.Progress.{limited}
use Rattle.progress.proofs.Laws.{limited-fits}
use Rattle.progress.proofs.delta_at_rate.Goals as goal

pub overflow_mul-result : goal.overflow_mul-result
overflow_mul-result c =
    let e = min c.args.elapsed clock_limit in
    rw
    (to_z-of_z {w = w64} {z = c.limited.result} (sfits_of c.limited.type_inv), c.limited.ensures, to_z-of_z {w = w64} c.ranges.rate, c.within_limit.ensures, to_z_pos w64 {n = e} (omega arith))
    (limited-fits c.args.rate e (omega arith))

pub returns : goal.returns
returns c =
    let e = min c.args.elapsed clock_limit in
    let f : SFits w64 (limited c.args.rate *ℤ pos e) = limited-fits c.args.rate e (omega arith) in
    rw
    (to_z-of_z {w = w64} {z = c.limited.result} (sfits_of c.limited.type_inv), c.limited.ensures, to_z-of_z {w = w64} c.ranges.rate, c.within_limit.ensures, to_z_pos w64 {n = e} (omega arith), to_z-of_z {w = w64} f, to_z-of_z {w = w64} (quot_fits 1000 f))
