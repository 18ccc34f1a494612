-- A list that is put in front of the empty numeral, notice by notice, and then placed, is that list.
use Rattle.std.proofs.Common.{◌≡◌, ℕ, zero, suc, ◌+◌, ◌-◌, ◌*◌, ◌/◌, ◌%◌, ◌<◌, ◌≤◌, Bool, true, false, List, [], ◌∷◌, ◌++◌, length, get_or, take, replicate, refl, ap, ◌∙◌, lt_of_lt_of_le, arith}
use native.Mathlib.Nat.{div-div-eq-div-mul}
use lib.Arith.{mod-mul}
use Rattle.notices.specs.declared.Numeral.{Numeral}
use Rattle.notices.specs.Notices.{only, filled, noted}
use Rattle.notices.specs.Numerals.{last, empty, consed, in_front, digits, placed}

-- every number is below a bound
pub data Below (bound : ℕ) : List ℕ → Type 0 where
  none : Below bound []
  more : {x : ℕ} {xs : List ℕ} → x < bound → Below bound xs → Below bound (x ∷ xs)

pub below-later : {low high : ℕ} {xs : List ℕ} → low ≤ high → Below low xs → Below high xs
below-later h none = none
below-later h (more k b) = more (lt_of_lt_of_le k h) (below-later h b)

module _ {bound : ℕ} where
  pub below-append : {xs ys : List ℕ} → Below bound xs → Below bound ys → Below bound (xs ++ ys)
  below-append none b = b
  below-append (more h a) b = more h (below-append a b)

  pub below-only : (test : Bool) (number : ℕ) → number < bound → Below bound (only test number)
  below-only true number h = more h none
  below-only false number h = none

  -- so is every place of a list, and with zeros behind it
  module _ (positive : 0 < bound) where
    pub below_at : {xs : List ℕ} → Below bound xs → (place : ℕ) → get_or xs place 0 < bound
    below_at none place = positive
    below_at (more h b) zero = h
    below_at (more h b) (suc place) = below_at b place

    below-zeros : (n : ℕ) → Below bound (replicate n 0)
    below-zeros zero = none
    below-zeros (suc n) = more positive (below-zeros n)

    pub below-filled : {xs : List ℕ} → Below bound xs → Below bound (filled xs)
    unfolding filled
    below-filled {xs} b = below-append b (below-zeros (16 - length xs))

-- every number is a byte
abbrev pub Bytes : List ℕ → Type 0
Bytes xs = Below 256 xs

-- one list in front of another is the two in front
pub in-front-append : (xs ys : List ℕ) (l : Numeral) → in_front xs (in_front ys l) ≡ in_front (xs ++ ys) l
unfolding in_front
in-front-append [] ys l = refl
in-front-append (x ∷ xs) ys l = ap (λ m. consed m x) (in-front-append xs ys l)

-- ---- digits

-- a digit in front
digits-cons : (count w x : ℕ) → x < 256 → digits (suc count) (w * 256 + x) ≡ x ∷ digits count w
unfolding digits
digits-cons count w x h =
    let low : (w * 256 + x) % 256 ≡ x = omega arith in
    let rest : (w * 256 + x) / 256 ≡ w = omega arith in
    rw (low, rest)

-- the weight of the digit after so many
weight : ℕ → ℕ
weight zero = 1
weight (suc count) = weight count * 256

weight-more : (count : ℕ) → 0 < weight count
unfolding weight
weight-more zero = omega arith
weight-more (suc count) = omega (arith, weight-more count)

-- a word without what comes after so many digits has the same digits
digits_mod : (count w : ℕ) → digits count (w % weight count) ≡ digits count w
unfolding digits weight
digits_mod zero w = refl
digits_mod (suc count) w =
    let parts : w % (weight count * 256) ≡ (w / 256 % weight count) * 256 + w % 256 = mod-mul w (weight-more count) (omega arith) in
    let small : w % 256 < 256 = omega arith in
    rw parts (digits-cons count (w / 256 % weight count) (w % 256) small ∙ ap (λ ds. (w % 256) ∷ ds) (digits_mod count (w / 256)))

seven : (w : ℕ) → digits 7 (w % last) ≡ digits 7 w
unfolding weight
seven w = digits_mod 7 w

-- the eighth is the word's last
eighth : (w : ℕ) → w < 18_446_744_073_709_551_616 → digits 8 w ≡ digits 7 w ++ (w / last ∷ [])
unfolding digits
eighth w h =
    let e : w / last % 256 ≡ w / last = omega arith in
    simp div-div-eq-div-mul (rw e)

-- ---- places

take-zeros : (count : ℕ) → take {A = ℕ} count (replicate (suc count) 0) ≡ replicate count 0
take-zeros zero = refl
take-zeros (suc count) = ap (λ zs. 0 ∷ zs) (take-zeros count)

-- of a list with zeros behind it, all but the last place
take-filled : (count : ℕ) (xs : List ℕ) → length xs ≤ count →
    take count (xs ++ replicate (suc count - length xs) 0) ≡ xs ++ replicate (count - length xs) 0
take-filled count [] h =
    let e : suc count - 0 ≡ suc count = omega arith in
    let f : count - 0 ≡ count = omega arith in
    rw (e, f) (take-zeros count)
take-filled zero (x ∷ xs) h = absurd (omega arith)
take-filled (suc count) (x ∷ xs) h =
    let e : suc (suc count) - suc (length xs) ≡ suc count - length xs = omega arith in
    let f : suc count - suc (length xs) ≡ count - length xs = omega arith in
    rw (e, f) (ap (λ zs. x ∷ zs) (take-filled count xs (omega arith)))

-- two words' digits, without the last
both_words : (v w x y : ℕ) → digits 7 v ++ (x ∷ digits 7 w) ≡ take 15 ((digits 7 v ++ (x ∷ [])) ++ (digits 7 w ++ (y ∷ [])))
unfolding digits
both_words v w x y = refl

-- the places after a notice in front: that, and all but the last of those before
places-cons : (l : Numeral) (x : ℕ) → l.low < 18_446_744_073_709_551_616 → l.high < 18_446_744_073_709_551_616 → x < 256 →
    (placed (consed l x)).places ≡ x ∷ take 15 (placed l).places
unfolding placed consed
places-cons l x h k small =
    let digit : l.low / last < 256 = omega arith in
    rw (digits-cons 7 (l.low % last) x small, digits-cons 7 (l.high % last) (l.low / last) digit, seven l.low, seven l.high, eighth l.low h, eighth l.high k)
    (ap (λ ds. x ∷ ds) (both_words l.low l.high (l.low / last) (l.high / last)))

-- what is built and then placed: both words are words, and the places are the list's
pub record Built (xs : List ℕ) (l : Numeral) : Type 0 where
  pub low : l.low < 18_446_744_073_709_551_616
  pub high : l.high < 18_446_744_073_709_551_616
  pub same : placed l ≡ noted xs

-- a notice in front of what is built
built-more : (xs : List ℕ) (l : Numeral) (x : ℕ) → Built xs l → x < 256 → length xs < 16 → Built (x ∷ xs) (consed l x)
unfolding placed consed filled
built-more xs l x b small h =
    let digit : l.low / last < 256 = omega arith in
    let len : l.len ≡ length xs = ap (λ n. n.len) b.same in
    let sum : (l.len + 1) % 18_446_744_073_709_551_616 ≡ suc (length xs) = omega arith in
    let left : 16 - suc (length xs) ≡ 15 - length xs = omega arith in
    let places : (placed (consed l x)).places ≡ filled (x ∷ xs) =
    places-cons l x b.low b.high small
    ∙ rw (left, ap (λ n. n.places) b.same) (ap (λ zs. x ∷ zs) (take-filled 15 xs (omega arith)))
    in
    record { low = omega arith; high = omega arith; same = rw (places, sum) }

built : (xs : List ℕ) → Bytes xs → length xs ≤ 16 → Built xs (in_front xs empty)
unfolding in_front placed digits filled
built [] b h = record { low = omega arith; high = omega arith; same = refl }
built (x ∷ xs) (more small b) h = built-more xs (in_front xs empty) x (built xs b (omega arith)) small (omega arith)

-- a list of bytes that has room, built and then placed
pub placed-noted : (xs : List ℕ) → Bytes xs → length xs ≤ 16 → placed (in_front xs empty) ≡ noted xs
placed-noted xs b h = (built xs b h).same
