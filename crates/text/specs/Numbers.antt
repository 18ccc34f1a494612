-- Numbers that are words. What is no number within its width is none.
use Rattle.std.specs.Prelude.{ℕ, Bool, cond, List, [], ◌∷◌, eqb, ℤ, pos, neg_ℤ, Option, Some, None, option_map}
use Rattle.text.specs.Digits.{is_number, value}

-- a word as a number of at most `most`
unfoldable pub number_of : ℕ → List ℕ → Option ℕ
number_of most w = cond (is_number most w) (Some (value w)) None

abbrev pub flag_of : List ℕ → Option Bool
flag_of w = option_map (λ n. eqb n 1) (number_of 1 w)

abbrev pub negated : ℕ → ℤ
negated n = neg_ℤ (pos n)

-- with a minus or without
unfoldable pub signed_of : List ℕ → Option ℤ
signed_of [] = None
signed_of (b ∷ w) =
    cond (eqb b 45) (option_map negated (number_of 9223372036854775808 w))
    (option_map (λ n. pos n) (number_of 9223372036854775807 (b ∷ w)))
