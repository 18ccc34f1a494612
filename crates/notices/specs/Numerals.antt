-- A notice list as a numeral: how it is built, from its last notice to its first. `Numerals.placed-noted` in proofs/
-- says that what is built so and then placed is the list.
use Rattle.std.specs.Prelude.{ℕ, zero, suc, ◌+◌, ◌*◌, ◌/◌, ◌%◌, List, [], ◌∷◌, ◌++◌}
use Rattle.notices.specs.declared.Notices.{Notices}
use Rattle.notices.specs.declared.Numeral.{Numeral}

-- the weight of a word's last digit: seven digits of 256
abbrev pub last : ℕ
last = 72_057_594_037_927_936

abbrev pub empty : Numeral
empty = record { low = 0; high = 0; len = 0 }

-- a notice in front: each word takes one digit more at its low end, and the low word's last digit goes to the high one
unfoldable pub consed : Numeral → ℕ → Numeral
consed l number =
    record {
      low = l.low % last * 256 + number;
      high = l.high % last * 256 + l.low / last;
      len = (l.len + 1) % 18_446_744_073_709_551_616;
    }

-- the notices of a list in front
unfoldable pub in_front : List ℕ → Numeral → Numeral
in_front [] l = l
in_front (x ∷ xs) l = consed (in_front xs l) x

-- so many digits of a word, the lowest first
unfoldable pub digits : ℕ → ℕ → List ℕ
digits zero word = []
digits (suc count) word = word % 256 ∷ digits count (word / 256)

-- the list in its places, with its length
unfoldable pub placed : Numeral → Notices
placed l = record { places = digits 8 l.low ++ digits 8 l.high; len = l.len }
