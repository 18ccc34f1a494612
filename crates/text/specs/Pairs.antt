-- Bytes that are a word of a line: two hexadecimal digits each.
use Rattle.std.specs.Prelude.{ℕ, ◌+◌, ◌*◌, Bool, true, false, cond, ◌&&◌, List, [], ◌∷◌, leb, length}
use Rattle.std.specs.Prelude.{Option, Some, None, unwrap_or, option_map}
use Rattle.text.specs.Digits.{not_empty, is_hex_digit, hex_value}
use Rattle.text.specs.Readers.{Reader, by_word}

unfoldable pub is_pairs : List ℕ → Bool
is_pairs [] = true
is_pairs (a ∷ []) = false
is_pairs (a ∷ b ∷ w) = is_hex_digit a && is_hex_digit b && is_pairs w

unfoldable pub bytes_of : List ℕ → List ℕ
bytes_of [] = []
bytes_of (a ∷ []) = []
bytes_of (a ∷ b ∷ w) = (hex_value a * 16 + hex_value b) ∷ bytes_of w

-- one pair at least, and no more bytes than there is room for
abbrev pub are_bytes : ℕ → List ℕ → Bool
are_bytes room w = not_empty w && is_pairs w && leb (length (bytes_of w)) room

-- the bytes of a word; none where it has another form or too many
unfoldable pub bytes_in : ℕ → List ℕ → Option (List ℕ)
bytes_in room w = cond (are_bytes room w) (Some (bytes_of w)) None

-- as a text
abbrev pub or_none : Option (List ℕ) → List ℕ
or_none bytes = unwrap_or bytes []

-- those of the next word
abbrev pub bytes_taken : ℕ → List ℕ → List ℕ
bytes_taken room line = or_none (by_word (bytes_in room) line).value

-- how many they are
abbrev pub bytes_read : ℕ → Reader ℕ
bytes_read room = by_word (λ w. option_map length (bytes_in room w))
