-- One division for each byte is as good as one after the other.
use native.Mathlib.Nat.{div-div-eq-div-mul}
use Rattle.notices.specs.Numerals.{digits, placed}
use Rattle.notices.proofs.Numeral.notices.Goals as goal

pub returns : goal.returns
unfolding placed digits
returns c =
    rw (c.copy_from_slice.ensures.after, c.copy_from_slice-2.ensures.after, c.to_le_bytes.ensures, c.to_le_bytes-2.ensures)
    (simp div-div-eq-div-mul)
