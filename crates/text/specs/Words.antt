-- The words of a line, which single blanks part. What is left of a line begins at the blank behind the word read last.
use Rattle.std.specs.Prelude.{ℕ, cond, List, [], ◌∷◌, eqb, length, drop}

-- the bytes before the first such byte, or all
unfoldable pub up_to : ℕ → List ℕ → List ℕ
up_to x [] = []
up_to x (b ∷ bs) = cond (eqb b x) [] (b ∷ up_to x bs)

-- the word that a text begins with: the bytes up to the next blank
abbrev pub first_word : List ℕ → List ℕ
first_word line = up_to 32 line

-- what is left behind it
abbrev pub behind_word : List ℕ → List ℕ
behind_word line = drop (length (first_word line)) line
