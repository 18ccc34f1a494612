-- Sums of texts, and the text of a row's lamps.
use Prim.Native.Nat.{ℕ, ◌+◌, ◌<◌, min}
use native.Mathlib.Nat.{not-suc-le-zero}
use native.Mathlib.Omega.{arith}
use mathlib.Core.Path.{◌≡◌, refl, sym, ◌∙◌}
use mathlib.Core.Logic.{⊎_elim}
use mathlib.Core.List.{List, [], ◌∷◌, ◌++◌, append_assoc, append-nil}
use lib.ListN.{length, take, drop, get_or}
use lib.Seq.{take_all}
use Rattle.text.specs.Digits.{decimal, spaced, spaced_all}
use Rattle.text.proofs.WriteLaws.{side}
use Rattle.std.specs.List.{fold}
use Rattle.std.proofs.lemmas.List.{take_more}
use Rattle.lamp.specs.declared.Lamp.{Lamp}
use Rattle.row_lines.specs.declared.sum.Sum.{Sum}
use Rattle.row_lines.specs.Sums.{with_byte}
use Rattle.row_lines.specs.RowAnswers.{summed, lamp_text, lamps_text}

-- what is put into a sum is summed
pub put_summed : (h : Sum) (s : List ℕ) → (fold with_byte h s).value ≡ summed h.value s
unfolding summed
put_summed h [] = refl
put_summed h (b ∷ s) = put_summed (with_byte h b) s

-- the first has no blank
pub first-number : (list : List ℕ) → 0 < length list → drop 1 (spaced_all list) ≡ decimal (get_or list 0 0) ++ spaced_all (drop 1 list)
unfolding spaced_all spaced
first-number [] h = absurd (not-suc-le-zero h)
first-number (n ∷ ns) h = refl

-- ---- the lamps of a row

lamps-join : (ms ns : List Lamp) → lamps_text (ms ++ ns) ≡ lamps_text ms ++ lamps_text ns
unfolding lamps_text
lamps-join [] ns = refl
lamps-join (m ∷ ms) ns = rw (lamps-join ms ns, append_assoc)

-- one lamp more
pub lamps_more : (ls : List Lamp) (i : ℕ) (d : Lamp) → i < length ls → lamps_text (take (i + 1) ls) ≡ lamps_text (take i ls) ++ lamp_text (get_or ls i d)
unfolding lamps_text
lamps_more ls i d h = rw (take_more ls i d h, lamps-join, append-nil)

-- a row has 32 lamps, so no more than 32 are in it
pub take_places : (xs : List Lamp) (count : ℕ) → length xs ≡ 32 → take (min count 32) xs ≡ take count xs
take_places xs count e =
    ⊎_elim
    (λ below. let e : min count 32 ≡ count = omega arith in rw e)
    (λ above. take_all (min count 32) xs (omega arith) ∙ sym (take_all count xs (omega arith)))
    (side count 32)
