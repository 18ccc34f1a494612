-- Words and numbers. A lamp, a call and an answer are lists of 64-bit words.
use Rattle.std.specs.Prelude.{ℕ, ◌%◌, ◌^◌, Bool, cond, List, get_or, eqb, ℤ, pos, neg_ℤ, nat_abs}
use Rattle.std.specs.Int.Signed.{lt_z}

-- the word at a place, 0 past the end
abbrev pub at : List ℕ → ℕ → ℕ
at w i = get_or w i 0

-- a number of a narrower field is read by the field's width
abbrev pub byte : ℕ → ℕ
byte x = x % 2 ^ 8

abbrev pub short : ℕ → ℕ
short x = x % 2 ^ 16

abbrev pub long : ℕ → ℕ
long x = x % 2 ^ 32

-- 1 is true, and true is 1
unfoldable pub flag : ℕ → Bool
flag x = eqb x 1

abbrev pub flag_number : Bool → ℕ
flag_number b = cond b 1 0

-- a signed number is its sign, 1 up or 2 down, and its size
unfoldable pub signed : ℕ → ℕ → ℤ
signed sign size = cond (eqb sign 2) (neg_ℤ (pos (size % 2 ^ 63))) (pos (size % 2 ^ 63))

unfoldable pub sign_of : ℤ → ℕ
sign_of n = cond (lt_z n (pos 0)) 2 1

abbrev pub size_of : ℤ → ℕ
size_of n = nat_abs n
