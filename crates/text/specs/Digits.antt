-- Numbers and bytes as digits. A byte is a number: 48 to 57 are the digits, 97 to 102 `a` to `f`, 32 is the blank,
-- 45 the minus.
use Rattle.std.specs.Prelude.{ℕ, zero, suc, ◌+◌, ◌-◌, ◌*◌, ◌/◌, ◌%◌, Bool, true, false, cond, ◌&&◌, ◌||◌}
use Rattle.std.specs.Prelude.{List, [], ◌∷◌, ◌++◌, leb, ltb, ℤ, pos, negsuc, Option, Some, None}

-- ---- decimal

abbrev pub is_digit : ℕ → Bool
is_digit b = leb 48 b && leb b 57

abbrev pub not_empty : List ℕ → Bool
not_empty [] = false
not_empty (b ∷ bs) = true

abbrev pub digits_alone : List ℕ → Bool
digits_alone [] = true
digits_alone (b ∷ bs) = is_digit b && digits_alone bs

-- the number that digits mean, after digits of the number v
abbrev pub value_from : ℕ → List ℕ → ℕ
value_from v [] = v
value_from v (b ∷ bs) = value_from (v * 10 + (b - 48)) bs

abbrev pub value : List ℕ → ℕ
value w = value_from 0 w

-- digits alone, one at least, zeros in front as they come, and a number of at most `most`
unfoldable pub is_number : ℕ → List ℕ → Bool
is_number most w = not_empty w && digits_alone w && leb (value w) most

-- a number with one digit more, where the byte is a digit and the number is at most `most`
unfoldable pub grown : ℕ → ℕ → ℕ → Option ℕ
grown v b most = cond (is_digit b && leb (v * 10 + (b - 48)) most) (Some (v * 10 + (b - 48))) None

-- the last k digits of n, leading zeros left out; 0 has one digit
unfoldable pub decimal_in : ℕ → ℕ → List ℕ
decimal_in zero n = []
decimal_in (suc k) n = cond (ltb n 10) [] (decimal_in k (n / 10)) ++ ((48 + n % 10) ∷ [])

-- a number in decimal: twenty digits hold every 64-bit number
unfoldable pub decimal : ℕ → List ℕ
unfolding decimal_in
decimal n = decimal_in 20 n

-- below 0, a minus and the size
abbrev pub signed_decimal : ℤ → List ℕ
signed_decimal (pos n) = decimal n
signed_decimal (negsuc n) = 45 ∷ decimal (suc n)

-- a number behind a blank
unfoldable pub spaced : ℕ → List ℕ
spaced n = 32 ∷ decimal n

-- and a dash where there is none
unfoldable pub spaced_or_dash : Option ℕ → List ℕ
spaced_or_dash None = 32 ∷ 45 ∷ []
spaced_or_dash (Some n) = spaced n

-- numbers, each behind a blank
unfoldable pub spaced_all : List ℕ → List ℕ
spaced_all [] = []
spaced_all (n ∷ ns) = spaced n ++ spaced_all ns

-- ---- hexadecimal, small letters

abbrev pub is_small_letter : ℕ → Bool
is_small_letter b = leb 97 b && leb b 102

abbrev pub is_hex_digit : ℕ → Bool
is_hex_digit b = is_digit b || is_small_letter b

-- a digit's number; 0 for any other byte
unfoldable pub hex_value : ℕ → ℕ
hex_value b = cond (is_digit b) (b - 48) (cond (is_small_letter b) (b - 87) 0)

-- the digit of a number's last four bits
unfoldable pub hex_digit : ℕ → ℕ
hex_digit n = cond (ltb (n % 16) 10) (n % 16 + 48) (n % 16 + 87)

-- two digits a byte
unfoldable pub hex_text : List ℕ → List ℕ
hex_text [] = []
hex_text (b ∷ bs) = hex_digit (b / 16) ∷ hex_digit b ∷ hex_text bs
