-- A signed number of its sign and size, and back: the bits that the machine holds, and what fits 64 of them.
use Prim.Native.Nat.{ℕ, suc, ◌^◌, ◌<◌}
use mathlib.Core.Path.{◌≡◌, sym, ap, subst, subst⁻¹, ◌∙◌}
use mathlib.Core.Bool.{true, false}
use native.Mathlib.Omega.{arith}
use lib.Dec.{T}
use lib.IntN.{ℤ, pos, negsuc, neg_ℤ, nat_abs, ◌-ℤ◌, +ℤ_idl}
use lib.Signed.{lt_z, non_neg}
use borrow.Author.Tests.{ltb-true, ltb-false}
use mir.Syntax.{w64}
use mir.Val.{SFits, Fits, to_z, of_z}
use mir.ValLaws.{to_z-of_z}
use mir.Facts.{to_z_pos}
use Rattle.integers.proofs.Sizes.{small, size, abs_neg}

pub plus-back : (n : ℕ) → n < 2 ^ 63 → to_z w64 n ≡ pos n
plus-back n h = to_z_pos w64 {n = n} h

minus-read : (n : ℕ) → n < 2 ^ 63 → pos 0 -ℤ to_z w64 n ≡ neg_ℤ (pos n)
minus-read n h = rw (plus-back n h) (+ℤ_idl (neg_ℤ (pos n)))

pub minus-fits : (n : ℕ) → n < 2 ^ 63 → SFits w64 (pos 0 -ℤ to_z w64 n)
minus-fits n h = rw (minus-read n h) (small w64 _ (rw abs_neg h))

pub minus-back : (n : ℕ) → n < 2 ^ 63 → to_z w64 (of_z w64 (pos 0 -ℤ to_z w64 n)) ≡ neg_ℤ (pos n)
minus-back n h = to_z-of_z w64 _ (minus-fits n h) ∙ minus-read n h

-- a number below 0 is no natural
below-0 : {X : Type 0} (n : ℕ) → lt_z (pos n) (pos 0) ≡ true → X
below-0 n e = absurd (omega (arith, ltb-true n 0 e))

smallest : (z : ℤ) → SFits w64 z → lt_z z (negsuc 9223372036854775806) ≡ true → nat_abs z ≡ 9223372036854775808
smallest (pos n) f e = absurd (subst⁻¹ T e tt)
smallest (negsuc k) f e = omega (arith, f.sfits, ltb-true 9223372036854775806 k e)

others : (z : ℤ) → lt_z z (negsuc 9223372036854775806) ≡ false → lt_z z (pos 0) ≡ true → nat_abs z < 2 ^ 63
others (pos n) e l = below-0 n l
others (negsuc k) e l = omega (arith, ltb-false 9223372036854775806 k e)

negated : (z : ℤ) → lt_z z (pos 0) ≡ true → pos 0 -ℤ z ≡ pos (nat_abs z)
negated (pos n) e = below-0 n e
negated (negsuc k) e = +ℤ_idl (pos (suc k))

at_least_0 : (z : ℤ) → lt_z z (pos 0) ≡ false → T (non_neg z)
at_least_0 (pos n) e = tt
at_least_0 (negsuc k) e = absurd (subst T e tt)

-- the same of the bits that the machine tests, subtracts and casts
module _ (z : ℤ) (f : SFits w64 z) where
  pub read : to_z w64 (of_z w64 z) ≡ z
  read = to_z-of_z w64 z f

  pub smallest-size : lt_z (to_z w64 (of_z w64 z)) (negsuc 9223372036854775806) ≡ true → 9223372036854775808 ≡ nat_abs z
  smallest-size e = sym (smallest z f (rw read at e))

  pub size-cast : lt_z (to_z w64 (of_z w64 z)) (pos 0) ≡ false → T (non_neg (to_z w64 (of_z w64 z))) × Fits w64 (nat_abs (to_z w64 (of_z w64 z)))
  size-cast l = rw read (at_least_0 z (rw read at l), record { fits = omega (arith, size {w = w64} f) })

  module _ (e : lt_z (to_z w64 (of_z w64 z)) (negsuc 9223372036854775806) ≡ false) (l : lt_z (to_z w64 (of_z w64 z)) (pos 0) ≡ true) where
    turned : pos 0 -ℤ to_z w64 (of_z w64 z) ≡ pos (nat_abs z)
    turned = rw read (negated z (rw read at l))

    pub turned-fits : SFits w64 (pos 0 -ℤ to_z w64 (of_z w64 z))
    turned-fits = rw turned (record { sfits = others z (rw read at e) (rw read at l) })

    turned-back : to_z w64 (of_z w64 (pos 0 -ℤ to_z w64 (of_z w64 z))) ≡ pos (nat_abs z)
    turned-back = to_z-of_z w64 _ turned-fits ∙ turned

    pub turned-cast : T (non_neg (to_z w64 (of_z w64 (pos 0 -ℤ to_z w64 (of_z w64 z))))) × Fits w64 (nat_abs (to_z w64 (of_z w64 (pos 0 -ℤ to_z w64 (of_z w64 z)))))
    turned-cast = rw turned-back (tt, record { fits = omega (arith, size {w = w64} f) })

    pub turned-size : nat_abs (to_z w64 (of_z w64 (pos 0 -ℤ to_z w64 (of_z w64 z)))) ≡ nat_abs z
    turned-size = ap nat_abs turned-back
