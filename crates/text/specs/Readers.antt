-- Readers: what words of a line mean, one after the other. A word that is not as asked gives none, and nothing is read
-- behind it.
use Rattle.std.specs.Prelude.{ℕ, Bool, cond, List, [], ◌∷◌, ◌≡◌, ℤ, eqb, length, Option, Some, None, option_map}
use Rattle.std.specs.Option.{option_map_or}
use Rattle.std.specs.Str.{bytes_eq}
use Prim.Native.String.{String}
use Rattle.text.specs.Ascii.{ascii}
use Rattle.text.specs.Words.{first_word, behind_word}
use Rattle.text.specs.Numbers.{number_of, flag_of, signed_of}

-- a value, and what is left of the line behind the last word that was read
pub record Read (A : Type 0) : Type 0 where
  pub value : A
  pub rest : List ℕ

-- from what is left of a line behind the word before
abbrev pub Reader : Type 0 → Type 0
Reader A = List ℕ → Read (Option A)

-- what a function that reads gives, and what it leaves
abbrev pub Reads : {A : Type 0} → Read (Option A) → Option A → List ℕ → Type 0
Reads read result rest = read ≡ record { value = result; rest = rest }

-- nothing is read: a value, or none
abbrev pub give : {A : Type 0} → A → Reader A
give x line = record { value = Some x; rest = line }

abbrev pub unknown : {A : Type 0} → Reader A
unknown line = record { value = None; rest = line }

-- what is read behind a value; behind none, nothing
abbrev pub behind : {A B : Type 0} → (A → Reader B) → Read (Option A) → Read (Option B)
behind next read = option_map_or (λ x. next x read.rest) read.value (unknown read.rest)

-- a value of another
abbrev pub mapped : {A B : Type 0} → (A → B) → Read (Option A) → Read (Option B)
mapped f read = record { value = option_map f read.value; rest = read.rest }

infixl 75 ◌then◌
-- one reader behind another, whose value is applied to its own: `give f then number8 then flag` is f of the two
abbrev pub ◌then◌ : {A B : Type 0} → Reader (A → B) → Reader A → Reader B
◌then◌ f x line = behind (λ g rest. mapped g (x rest)) (f line)

-- the next word: it begins behind a blank
unfoldable pub word : Reader (List ℕ)
word [] = unknown []
word (b ∷ line) =
    cond (eqb b 32) (record { value = Some (first_word line); rest = behind_word line }) (unknown (b ∷ line))

-- the next word, by what it says
abbrev pub by_word : {A : Type 0} → (List ℕ → Option A) → Reader A
by_word of line = behind (λ w rest. record { value = of w; rest = rest }) (word line)

-- numbers, within their widths
abbrev pub number8 : Reader ℕ
number8 = by_word (number_of 255)

abbrev pub number16 : Reader ℕ
number16 = by_word (number_of 65535)

abbrev pub number32 : Reader ℕ
number32 = by_word (number_of 4294967295)

abbrev pub number64 : Reader ℕ
number64 = by_word (number_of 18446744073709551615)

abbrev pub flag : Reader Bool
flag = by_word flag_of

abbrev pub signed : Reader ℤ
signed = by_word signed_of

-- a row of a table: a name, and what is read behind it
pub record Row (A : Type 0) : Type 0 where
  pub name : String
  pub reads : Reader A

infix 70 ◌means◌
abbrev pub ◌means◌ : {A : Type 0} → String → Reader A → Row A
◌means◌ name reads = record { name = name; reads = reads }

-- by a name: its row, or else what is read by default
abbrev pub named : {A : Type 0} → List (Row A) → Reader A → List ℕ → Reader A
named [] other name line = other line
named (r ∷ rows) other name line = cond (bytes_eq name (ascii r.name)) (r.reads line) (named rows other name line)

-- the next word is a name; what is read behind it goes by that name
abbrev pub by_next : {A : Type 0} → (List ℕ → Reader A) → Reader A
by_next reads line = behind reads (word line)

abbrev pub by_name : {A : Type 0} → List (Row A) → Reader A
by_name rows = by_next (named rows unknown)

-- `-` for a value, or else what the word says
abbrev pub or_dash : {A : Type 0} → A → (List ℕ → Option A) → List ℕ → Option A
or_dash x of w = cond (bytes_eq w (ascii "-")) (Some x) (of w)

-- what is read, where nothing is left of the line behind it
abbrev pub at_end : {A : Type 0} → Read (Option A) → Option A
at_end read = cond (eqb (length read.rest) 0) read.value None

-- a line by its first word: what is read behind it, where its last word ends it
unfoldable pub line_of : {A : Type 0} → (List ℕ → Reader A) → List ℕ → Option A
line_of reads line = at_end (reads (first_word line) (behind_word line))
