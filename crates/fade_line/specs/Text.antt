-- What `fade` writes, as lists of bytes: "A line has clock, hue, remaining tenths and wait, a colon, then the notices";
-- "A refusal prints `refused`, a space and its number"; a line of another form "prints `bad line`". Every line ends
-- with a newline.
use Rattle.std.specs.Prelude.{ℕ, ◌+◌, Bool, cond, List, [], ◌∷◌, ◌++◌, leb, length, take}
use Rattle.text.specs.Digits.{decimal, spaced, spaced_all}
use Rattle.notices.specs.declared.Notices.{Notices}
use Rattle.fade_line.specs.declared.writer.Line.{Line}

-- the numbers that a list of notices holds
abbrev pub numbers : Notices → List ℕ
numbers list = take list.len list.places

-- clock, hue, remaining tenths and wait, and a colon: `5000 0 2 100:`
unfoldable pub state_text : Line → List ℕ
state_text line =
    decimal line.clock ++ spaced line.hue ++ spaced line.tenths ++ spaced line.wait ++ (58 ∷ [])

-- `5000 0 2 100: 15`
unfoldable pub line_text : Line → List ℕ
line_text line = state_text line ++ spaced_all (numbers line.notices) ++ (10 ∷ [])

-- `refused`
abbrev pub refused_word : List ℕ
refused_word = 114 ∷ 101 ∷ 102 ∷ 117 ∷ 115 ∷ 101 ∷ 100 ∷ []

-- `refused 4`
unfoldable pub refused_text : ℕ → List ℕ
refused_text number = refused_word ++ spaced number ++ (10 ∷ [])

-- `bad line`
abbrev pub bad_line_text : List ℕ
bad_line_text = 98 ∷ 97 ∷ 100 ∷ 32 ∷ 108 ∷ 105 ∷ 110 ∷ 101 ∷ 10 ∷ []

-- 512 places, more than a line takes, are left at `at`
unfoldable pub room_for : ℕ → ℕ → Bool
room_for at len = leb (at + 512) len

-- what is written of a line: all of it where there is room, else nothing
unfoldable pub fitting : List ℕ → ℕ → List ℕ → List ℕ
fitting old at text = cond (room_for at (length old)) text []
