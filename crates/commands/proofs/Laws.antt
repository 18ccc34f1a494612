-- Laws that the commands' proofs cite.
use Prim.Native.Nat.{ℕ, ◌<◌}
use mathlib.Core.Path.{◌≡◌, ◌∙◌}
use native.Mathlib.Omega.{arith}
use lib.IntN.{pos, neg_ℤ, ◌-ℤ◌, +ℤ_idl}
use mir.Syntax.{w64}
use mir.Val.{SFits, to_z, of_z}
use mir.ValLaws.{to_z-of_z}
use mir.Facts.{to_z_pos}
use Rattle.integers.proofs.Sizes.{small, abs_neg}

-- sixteen bits and their negation, in 64
pub plus-back : (n : ℕ) → n < 65536 → to_z w64 n ≡ pos n
plus-back n h = to_z_pos w64 {n = n} (omega arith)

minus-read : (n : ℕ) → n < 65536 → pos 0 -ℤ to_z w64 n ≡ neg_ℤ (pos n)
minus-read n h = rw (plus-back n h) (+ℤ_idl (neg_ℤ (pos n)))

pub minus-fits : (n : ℕ) → n < 65536 → SFits w64 (pos 0 -ℤ to_z w64 n)
minus-fits n h = rw (minus-read n h) (small w64 _ (rw abs_neg (omega arith)))

pub minus-back : (n : ℕ) → n < 65536 → to_z w64 (of_z w64 (pos 0 -ℤ to_z w64 n)) ≡ neg_ℤ (pos n)
minus-back n h = to_z-of_z w64 _ (minus-fits n h) ∙ minus-read n h
