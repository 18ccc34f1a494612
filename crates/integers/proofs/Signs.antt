-- Integers by their signs: a product and a quotient of `neg_ℤ (pos n)`.
use mathlib.Core.Path.{◌≡◌, refl}
use Prim.Native.Nat.{ℕ, zero, suc, ◌*◌, ◌/◌}
use native.Mathlib.Nat.{zero-div, zero-mul}
use lib.IntN.{pos, neg_ℤ, ◌*ℤ◌}
use lib.Signed.{quot_z}

pub neg-mul : (n p : ℕ) → neg_ℤ (pos n) *ℤ pos p ≡ neg_ℤ (pos (n * p))
neg-mul zero p = rw zero-mul
neg-mul (suc n) p = refl

pub neg-quot : (n d : ℕ) → quot_z (neg_ℤ (pos n)) (pos d) ≡ neg_ℤ (pos (n / d))
neg-quot zero d = rw zero-div
neg-quot (suc n) d = refl
