-- `moved_saturation`: what is clamped to 0 and 254 fits a byte.
use Rattle.std.proofs.Common.{arith, ◌+ℤ◌, pos, w64, to_z, of_z}
use Rattle.progress.proofs.Laws.{clamp-within}
use Rattle.progress.proofs.moved_saturation.Goals as goal

pub overflow_cast-result : goal.overflow_cast-result
overflow_cast-result c =
    omega (arith, c.clamped_sum.ensures, (clamp-within 0 254 (pos c.args.start +ℤ to_z w64 (of_z w64 c.args.part)) (omega arith)).1)
