-- Laws that the proofs of several functions cite: what validity says of an integer's size.
use Prim.Native.Nat.{ℕ, ◌≤◌, ◌<◌}
use mathlib.Core.Bool.{true, not}
use mathlib.Core.Path.{◌≡◌}
use native.Mathlib.Omega.{arith}
use lib.IntN.{ℤ, pos, negsuc, neg_ℤ, nat_abs, ◌-ℤ◌}
use lib.Dec.{eqb}
use lib.Signed.{le_z}
use borrow.Author.Tests.{leb-true}
use Rattle.integers.proofs.Sizes.{abs_neg, abs-difference}
use Rattle.matter.specs.declared.enums.MoveModeEnum.{MoveModeEnum}
use Rattle.matter.proofs.Laws.{and_left, and_right}
use Rattle.progress.specs.Progress.{limited}
use Rattle.progress.proofs.Laws.{limited-same}
use Rattle.tasks.specs.Valid.{small, rate_valid}
use Rattle.matter.specs.Rules.{signed}

-- ---- integers within ±65,535

small_size : (z : ℤ) → le_z (neg_ℤ (pos 65535)) z ≡ true → le_z z (pos 65535) ≡ true → nat_abs z ≤ 65535
small_size (pos n) h k = leb-true n 65535 k
small_size (negsuc n) h k = omega (arith, leb-true n 65534 h)

-- ways and rates valid are read as they are
pub small_same : (z : ℤ) → small z ≡ true → limited z ≡ z
small_same z h =
    let low : le_z (neg_ℤ (pos 65535)) z ≡ true = and_left (le_z (neg_ℤ (pos 65535)) z) (le_z z (pos 65535)) h in
    let high : le_z z (pos 65535) ≡ true = and_right (le_z (neg_ℤ (pos 65535)) z) (le_z z (pos 65535)) h in
    limited-same z (small_size z low high)

pub rate-same : (z : ℤ) → rate_valid z ≡ true → limited z ≡ z
rate-same z h = small_same z (and_right (not (eqb (nat_abs z) 0)) (small z) h)

signed-size : (mode : MoveModeEnum) (rate : ℕ) → nat_abs (signed mode rate) ≤ rate
signed-size MoveModeEnum.Stop rate = omega arith
signed-size MoveModeEnum.Up rate = omega arith
signed-size MoveModeEnum.Down rate = omega (arith, abs_neg (pos rate))

pub signed_same : (mode : MoveModeEnum) (rate : ℕ) → rate ≤ 65535 → limited (signed mode rate) ≡ signed mode rate
signed_same mode rate h = limited-same (signed mode rate) (omega (arith, signed-size mode rate))

-- and so is a way between two numbers of sixteen bits
pub between-same : (start target : ℕ) → start < 65536 → target < 65536 → limited (pos target -ℤ pos start) ≡ pos target -ℤ pos start
between-same start target h k = limited-same (pos target -ℤ pos start) (omega (arith, abs-difference target start))
