-- `clamped_sum`: a sum between its bounds is itself.
use Rattle.std.proofs.Common.{◌≡◌, ◌+ℤ◌, false, pos, arith}
use lib.Signed.{lt_z}
use Rattle.std.proofs.lemmas.Int.{ints}
use Rattle.progress.proofs.Laws.{clamp-between}
use Rattle.progress.proofs.clamped_sum.Goals as goal

pub returns : goal.returns
returns c =
    let z = pos c.args.start +ℤ c.args.part in
    let low : lt_z z (pos c.args.lo) ≡ false = grind (arith, ints) in
    let high : lt_z (pos c.args.hi) z ≡ false = grind (arith, ints) in
    rw (clamp-between c.args.lo c.args.hi z low high) (omega (arith, ints))
