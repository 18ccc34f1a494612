-- The sizes of integers: of a negation, a product, a quotient and a difference; and that an integer fits a width by its size.
-- Each law goes by the cases of the sign.
use mathlib.Core.Path.{◌≡◌, refl}
use mathlib.Core.Bool.{Bool, true, false, cond}
use Prim.Native.Nat.{ℕ, zero, suc, ◌-◌, ◌*◌, ◌/◌, ◌^◌, ◌≤◌, ◌<◌, max}
use native.Mathlib.Nat.{le_refl, lt_of_le_of_lt, div-le_self}
use native.Mathlib.Omega.{arith}
use lib.Dec.{ltb}
use lib.IntN.{ℤ, pos, negsuc, neg_ℤ, nat_abs, ◌-ℤ◌, ◌*ℤ◌}
use lib.Signed.{mag, quot_z, nat_abs-le}
use borrow.Author.Tests.{ltb-true}
use mir.Syntax.{Width}
use mir.Val.{SFits, hbits}
use mir.ValLaws.{sfits_le}

pub abs_neg : (z : ℤ) → nat_abs (neg_ℤ z) ≡ nat_abs z
abs_neg (pos zero) = refl
abs_neg (pos (suc n)) = refl
abs_neg (negsuc n) = refl

pub abs-mul : (z : ℤ) (p : ℕ) → nat_abs (z *ℤ pos p) ≡ nat_abs z * p
abs-mul (pos n) p = refl
abs-mul (negsuc n) p = abs_neg (pos (suc n * p))

pub abs-quot : (z : ℤ) (d : ℕ) → nat_abs (quot_z z (pos d)) ≡ nat_abs z / d
abs-quot (pos n) d = refl
abs-quot (negsuc n) d = abs_neg (pos (suc n / d))

-- a difference of naturals is no larger than the larger
difference-by : (a b : ℕ) (t : Bool) → ltb a (suc b) ≡ t → nat_abs (cond t (negsuc (suc b - suc a)) (pos (a - suc b))) ≤ max a (suc b)
difference-by a b true e = omega (arith, ltb-true a (suc b) e)
difference-by a b false e = omega arith

pub abs-difference : (a b : ℕ) → nat_abs (pos a -ℤ pos b) ≤ max a b
abs-difference a zero = omega arith
abs-difference a (suc b) = difference-by a b (ltb a (suc b)) refl

-- ---- fitting a width

mag-le : (z : ℤ) → mag z ≤ nat_abs z
mag-le (pos n) = le_refl n
mag-le (negsuc n) = omega arith

-- an integer whose size is below half the width's power fits
pub small : (w : Width) (z : ℤ) → nat_abs z < 2 ^ hbits w → SFits w z
small w z h = record { sfits = lt_of_le_of_lt (mag-le z) h }

-- and one that fits is no larger than that half
pub size : {w : Width} {z : ℤ} → SFits w z → nat_abs z ≤ 2 ^ hbits w
size {z = z} f = nat_abs-le z f.sfits

mag-neg : (r a : ℕ) → r ≤ suc a → mag (neg_ℤ (pos r)) ≤ a
mag-neg zero a h = omega arith
mag-neg (suc r) a h = omega arith

mag-quot : (z : ℤ) (d : ℕ) → mag (quot_z z (pos d)) ≤ mag z
mag-quot (pos n) d = div-le_self n d
mag-quot (negsuc n) d = mag-neg (suc n / d) n (div-le_self (suc n) d)

-- a quotient fits where the dividend does
pub quot_fits : {w : Width} {z : ℤ} (d : ℕ) → SFits w z → SFits w (quot_z z (pos d))
quot_fits {z = z} d f = sfits_le (mag-quot z d) f
