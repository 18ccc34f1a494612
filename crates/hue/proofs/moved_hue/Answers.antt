-- `moved_hue`: what is left of a part by whole turns is a natural below a turn.
use Rattle.std.proofs.Common.{◌≡◌, ℕ, suc, ◌+◌, ◌%◌, ℤ, pos, negsuc, nat_abs, refl, ap, arith, w64, to_z, of_z}
use Rattle.std.specs.Int.{int_rem_euclid}
use Rattle.std.proofs.Math.Facts.{to_z-of_z}
use Rattle.integers.proofs.Sizes.{small}
use Rattle.hue.specs.Hue.{modulo, moved_hue}
use Rattle.hue.proofs.Laws.{moved_up, moved_down, modulo-small}
use Rattle.hue.proofs.moved_hue.Goals as goal

left : (part : ℤ) → int_rem_euclid part (pos 65536) ≡ pos (modulo part)
left (pos n) = refl
left (negsuc n) = ap pos (omega arith)

-- the machine reads it back
read : (z : ℤ) → nat_abs (to_z w64 (of_z w64 (pos (modulo z)))) ≡ modulo z
read z = ap nat_abs (to_z-of_z {w = w64} (small w64 (pos (modulo z)) (omega (arith, modulo-small z))))

-- and whole turns move nothing
moved : (s : ℕ) (part : ℤ) → (s + modulo part) % 65536 ≡ moved_hue s part
moved s (pos n) = omega (arith, moved_up s n)
moved s (negsuc n) = omega (arith, moved_down s (suc n))

pub returns : goal.returns
returns c =
    let p = c.args.part in
    rw (c.rem_euclid.ensures.value, to_z-of_z {w = w64} c.ranges.part, left p, read p) (moved c.args.start p)
