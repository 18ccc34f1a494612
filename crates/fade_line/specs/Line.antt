-- The line that `fade` reads: document 01, "The program `fade`". Bytes are numbers; 10 is the newline, 32 the blank,
-- 48 to 57 the digits.
use Rattle.std.specs.Prelude.{ℕ, Bool, true, cond, ◌&&◌, List, [], ◌∷◌, eqb, leb, length, get_or}
use Rattle.std.specs.Prelude.{Option, Some, None, option_map, Result, Ok, Err}
use Rattle.text.specs.Digits.{value, is_number}
use Rattle.text.specs.Words.{up_to}
use Rattle.matter.specs.Numbers.{direction_found}
use Rattle.matter.specs.declared.enums.Reserved.{Reserved}
use Rattle.matter.specs.declared.enums.DirectionEnum.{DirectionEnum}
use Rattle.fade_line.specs.declared.reader.Wanted.{Wanted}

-- "reads one line": the bytes before the first newline, or all of the input
abbrev pub line : List ℕ → List ℕ
line input = up_to 10 input

-- a byte put before the first word
abbrev pub longer : ℕ → List (List ℕ) → List (List ℕ)
longer b [] = (b ∷ []) ∷ []
longer b (w ∷ ws) = (b ∷ w) ∷ ws

-- "with one space between": each blank parts two words, so a blank first, last or doubled leaves an empty word
unfoldable pub words : List ℕ → List (List ℕ)
words [] = [] ∷ []
words (b ∷ bs) = cond (eqb b 32) ([] ∷ words bs) (longer b (words bs))

-- the largest number of 64 bits
abbrev pub largest : ℕ
largest = 18446744073709551615

-- "decimal numbers of digits alone": a digit at least, zeros in front as they come, and within 64 bits
abbrev pub all_numbers : List (List ℕ) → Bool
all_numbers [] = true
all_numbers (w ∷ ws) = is_number largest w && all_numbers ws

abbrev pub known : Result DirectionEnum Reserved → Option DirectionEnum
known (Ok direction) = Some direction
known (Err reserved) = None

-- "hue, direction (0 Shortest, 1 Longest, 2 Up, 3 Down), tenths, clock"; "a direction above 3, or a number past its
-- field (hue 255, tenths 65,535, clock 64 bits)" is a bad line, which asks for nothing
unfoldable pub wanted : ℕ → ℕ → ℕ → ℕ → Option Wanted
wanted hue direction tenths clock =
    cond (leb hue 255 && leb direction 3 && leb tenths 65535)
    (option_map (λ d. record { hue = hue; direction = d; tenths = tenths; clock = clock })
    (known (direction_found direction)))
    None

-- "four decimal numbers"
unfoldable pub asked_by_words : List (List ℕ) → Option Wanted
asked_by_words ws =
    cond (eqb (length ws) 4 && all_numbers ws)
    (wanted (value (get_or ws 0 [])) (value (get_or ws 1 [])) (value (get_or ws 2 [])) (value (get_or ws 3 [])))
    None

-- what an input asks for
abbrev pub asked_by : List ℕ → Option Wanted
asked_by input = asked_by_words (words (line input))
