-- What is put into a slice is written there.
use Rattle.std.specs.Prelude.{ℕ, ◌≡◌, ◌+◌, slice_set, Bool, true, false, cond, ltb, List, [], ◌∷◌, length, refl}
use Rattle.std.specs.List.{fold}
use Rattle.text.specs.declared.buffer.Buffer.{Buffer}
use Rattle.text.specs.Buffers.{with_byte}
use Rattle.text.specs.Written.{Written}
use Rattle.text.proofs.WriteLaws.{written_none, written_byte, written_outside, written_more}
use borrow.Author.Tests.{ltb-true, ltb-false}
use Rattle.std.proofs.Common.{◌∙◌}

pub written_push : (b : Buffer) (x : ℕ) → Written b.out.now b.at (x ∷ []) (with_byte b x).out.now (with_byte b x).at
unfolding with_byte
written_push b x = by_case (ltb b.at (length b.out.now)) refl
  where
    by_case : (t : Bool) → ltb b.at (length b.out.now) ≡ t → Written b.out.now b.at (x ∷ []) (with_byte b x).out.now (with_byte b x).at
    by_case true e = rw e (written_byte b.out.now b.at x (ltb-true _ _ e))
    by_case false e = rw e (written_outside b.out.now b.at (x ∷ []) (ltb-false _ _ e))

pub written : (b : Buffer) (s : List ℕ) → Written b.out.now b.at s (fold with_byte b s).out.now (fold with_byte b s).at
written b [] = written_none b.out.now b.at
written b (x ∷ s) = written_more b.out.now b.at (x ∷ []) s (written_push b x) (written (with_byte b x) s)

-- the slice stays the same one
name-by : (b : Buffer) (x : ℕ) (t : Bool) → (cond t (record { out = record { ref_ptr = b.out.ref_ptr; ghost_name = b.out.ghost_name; now = slice_set b.out.now b.at x }; at = b.at + 1 }) b).out.ghost_name ≡ b.out.ghost_name
name-by b x true = refl
name-by b x false = refl

pub same_slice : (b : Buffer) (s : List ℕ) → (fold with_byte b s).out.ghost_name ≡ b.out.ghost_name
unfolding with_byte
same_slice b [] = refl
same_slice b (x ∷ s) = same_slice (with_byte b x) s ∙ name-by b x (ltb b.at (length b.out.now))
