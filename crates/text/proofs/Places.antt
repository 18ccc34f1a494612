-- The words of a line by places in it: what the readers read of what is left behind a place, said of the whole line.
use Prim.Native.Nat.{ℕ, ◌+◌, ◌≤◌, ◌<◌}
use native.Mathlib.Omega.{arith}
use mathlib.Core.Path.{◌≡◌, refl, sym}
use mathlib.Core.Logic.{⊎_elim}
use mathlib.Core.Bool.{Bool, true, false, cond, not, ◌&&◌, false≢true}
use mathlib.Core.List.{List, [], ◌∷◌}
use borrow.Author.Tests.{eq-eqb, ne_eqb}
use lib.Dec.{eqb, leb}
use lib.ListN.{length, get_or, drop, drop_of_length-le, get_or-eq_default}
use lib.Seq.{drop-drop}
use Rattle.std.proofs.Common.{Some}
use Rattle.std.proofs.lemmas.List.{drop_more}
use Rattle.text.specs.Digits.{not_empty, digits_alone, value_from, value}
use Rattle.text.specs.Words.{up_to, first_word}
use Rattle.text.specs.Readers.{word, unknown}
use Rattle.text.proofs.WriteLaws.{side}

-- the place of the first such byte from a place on
abbrev pub find_from : List ℕ → ℕ → ℕ → ℕ
find_from s from x = from + length (up_to x (drop from s))

-- the word that begins at a place
abbrev pub word_at : List ℕ → ℕ → List ℕ
word_at line from = first_word (drop from line)

-- a byte of a word is at a place
abbrev pub in_word : List ℕ → ℕ → Bool
in_word line at = not_empty (word_at line at)

-- where the word ends that begins at a place
abbrev pub end_of : List ℕ → ℕ → ℕ
end_of line from = from + length (word_at line from)

-- behind a blank at a place, the next word is read, and what is left is what stands behind its end
pub read_at : (line : List ℕ) (at : ℕ)
    → word (drop at line) ≡ cond (eqb (get_or line at 0) 32) (record { value = Some (word_at line (at + 1)); rest = drop (end_of line (at + 1)) line }) (unknown (drop at line))
unfolding word
read_at line at =
    ⊎_elim
    (λ inside. rw (drop_more line at 0 inside, drop-drop (length (word_at line (at + 1))) (at + 1) line) refl)
    (λ outside. rw (drop_of_length-le line {i = at} outside, get_or-eq_default line 0 {n = at} outside) refl)
    (side at (length line))

-- the place of the first such byte from a place on: there, or as from the next
pub found_here : (x : ℕ) (s : List ℕ) (i : ℕ) → i < length s → get_or s i 0 ≡ x → i ≡ find_from s i x
unfolding up_to
found_here x s i h e = rw (drop_more s i 0 h) (simp (eq-eqb _ _ e) (omega arith))

pub found_next : (x : ℕ) (s : List ℕ) (i : ℕ) → i < length s → (get_or s i 0 ≡ x → ⊥) → find_from s (i + 1) x ≡ find_from s i x
unfolding up_to
found_next x s i h e = rw (drop_more s i 0 h) (simp (ne_eqb _ _ e) (omega arith))

-- behind the line there is none
pub word_outside : (line : List ℕ) (at : ℕ) → length line ≤ at → word_at line at ≡ []
unfolding up_to
word_outside line at h = rw (drop_of_length-le line {i = at} h)

-- a blank ends it
pub word_blank : (line : List ℕ) (at : ℕ) → at < length line → eqb (get_or line at 0) 32 ≡ true → word_at line at ≡ []
unfolding up_to
word_blank line at h e = rw (drop_more line at 0 h) (simp e)

-- any other byte is its next
pub word_next : (line : List ℕ) (at : ℕ) → at < length line → eqb (get_or line at 0) 32 ≡ false → word_at line at ≡ get_or line at 0 ∷ word_at line (at + 1)
unfolding up_to
word_next line at h e = rw (drop_more line at 0 h) (simp e)

pub in_by : (line : List ℕ) (at : ℕ) → at < length line → not (eqb (get_or line at 0) 32) ≡ in_word line at
in_by line at h = by-test (eqb (get_or line at 0) 32) refl
  where
    by-test : (t : Bool) → eqb (get_or line at 0) 32 ≡ t → not t ≡ in_word line at
    by-test true e = rw (word_blank line at h e)
    by-test false e = rw (word_next line at h e)

-- where a byte of a word is, the line has it
pub word_inside : (line : List ℕ) (at : ℕ) → in_word line at ≡ true → at < length line
word_inside line at e = ⊎_elim (λ h. h) (λ h. absurd (false≢true (rw (word_outside line at h) at e))) (side at (length line))

-- and the word goes on behind it
pub word_here : (line : List ℕ) (at : ℕ) → in_word line at ≡ true → word_at line at ≡ get_or line at 0 ∷ word_at line (at + 1)
word_here line at e = next (word_inside line at e) (eqb (get_or line at 0) 32) refl
  where
    next : at < length line → (t : Bool) → eqb (get_or line at 0) 32 ≡ t → word_at line at ≡ get_or line at 0 ∷ word_at line (at + 1)
    next h true f = absurd (false≢true (rw (word_blank line at h f) at e))
    next h false f = word_next line at h f

-- a minus is in the line
pub minus-inside : (line : List ℕ) (at : ℕ) → eqb (get_or line at 0) 45 ≡ true → at < length line
minus-inside line at e = ⊎_elim (λ h. h) (λ h. absurd (false≢true (rw (get_or-eq_default line 0 {n = at} h) at e))) (side at (length line))

-- and where there is none, the word is empty
pub word_over : (line : List ℕ) (at : ℕ) → in_word line at ≡ false → word_at line at ≡ []
word_over line at e = empty (word_at line at) e
  where
    empty : (w : List ℕ) → not_empty w ≡ false → w ≡ []
    empty [] e = refl
    empty (b ∷ w) e = absurd (false≢true (sym e))

-- ---- a number's word

-- what is left of a word is digits alone and stays within the bound
abbrev within : ℕ → ℕ → List ℕ → Bool
within most v w = digits_alone w && leb (value_from v w) most

-- the number so far is v, with the word read up to a place
abbrev pub Reading : List ℕ → ℕ → ℕ → ℕ → ℕ → Type 0
Reading line from most at v =
    (v ≤ most) × (within most v (word_at line at) ≡ within most 0 (word_at line from)) × (value_from v (word_at line at) ≡ value (word_at line from))
    × (end_of line at ≡ end_of line from)

pub reading-start : (line : List ℕ) (from most : ℕ) → Reading line from most from 0
reading-start line from most = (omega arith, refl, refl, refl)
