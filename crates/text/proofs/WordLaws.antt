-- The bytes before the first such byte: where they end, and that they are the first of all.
use Prim.Native.Nat.{ℕ, suc, ◌+◌, ◌≤◌}
use native.Mathlib.Omega.{arith}
use mathlib.Core.Path.{◌≡◌, refl, ap}
use mathlib.Core.Bool.{Bool, true, false, cond}
use mathlib.Core.List.{List, [], ◌∷◌}
use lib.Dec.{eqb}
use lib.ListN.{length, take}
use Rattle.std.proofs.Common.{Some, unwrap_or}
use Rattle.std.specs.List.{position_from}
use Rattle.text.specs.Words.{up_to, first_word}

module _ (x : ℕ) where
  place-from : (i : ℕ) (s : List ℕ) → unwrap_or (position_from (λ b. eqb b x) i s) (i + length s) ≡ i + length (up_to x s)
  unfolding up_to
  place-from i [] = refl
  place-from i (b ∷ s) = by_test (eqb b x) (place-from (i + 1) s)
    where
      by_test : (t : Bool) → unwrap_or (position_from (λ b. eqb b x) (i + 1) s) (i + 1 + length s) ≡ i + 1 + length (up_to x s)
          → unwrap_or (cond t (Some i) (position_from (λ b. eqb b x) (i + 1) s)) (i + suc (length s)) ≡ i + length (cond t [] (b ∷ up_to x s))
      by_test true h = omega arith
      by_test false h = let next : i + suc (length s) ≡ i + 1 + length s = omega arith in rw next (omega (arith, h))

  -- what `position` finds
  pub place_up_to : (s : List ℕ) → unwrap_or (position_from (λ b. eqb b x) 0 s) (length s) ≡ length (up_to x s)
  place_up_to s =
      let none : 0 + length s ≡ length s = omega arith in
      let here = place-from 0 s in
      omega (arith, rw none at here)

  pub take_up_to : (s : List ℕ) → take (length (up_to x s)) s ≡ up_to x s
  unfolding up_to
  take_up_to [] = refl
  take_up_to (b ∷ s) = by_test (eqb b x) (take_up_to s)
    where
      by_test : (t : Bool) → take (length (up_to x s)) s ≡ up_to x s → take (length (cond t [] (b ∷ up_to x s))) (b ∷ s) ≡ cond t [] (b ∷ up_to x s)
      by_test true h = refl
      by_test false h = ap (λ (l : List ℕ). b ∷ l) h

  pub up_to-short : (s : List ℕ) → length (up_to x s) ≤ length s
  unfolding up_to
  up_to-short [] = omega arith
  up_to-short (b ∷ s) = by_test (eqb b x) (up_to-short s)
    where
      by_test : (t : Bool) → length (up_to x s) ≤ length s → length (cond t [] (b ∷ up_to x s)) ≤ suc (length s)
      by_test true h = omega arith
      by_test false h = omega arith

pub place_of_blank : (s : List ℕ) → unwrap_or (position_from (λ b. eqb b 32) 0 s) (length s) ≡ length (first_word s)
place_of_blank s = place_up_to 32 s

pub take_word : (s : List ℕ) → take (length (first_word s)) s ≡ first_word s
take_word s = take_up_to 32 s
