-- An answer in 25 words: its number, the sixteen notices, the task it gives and the wait.
use Rattle.std.specs.Prelude.{ℕ, cond, List, [], ◌∷◌, ◌++◌, ltb}
use Rattle.matter.specs.Causes.{number_of}
use Rattle.notices.specs.declared.Notices.{Notices}
use Rattle.lamp.specs.declared.Answer.{Answer}
use Rattle.exports.specs.Words.{at}
use Rattle.exports.specs.Moves.{given_numbers}
use Rattle.exports.specs.Lamps.{task_words}

-- the notice in a place, 0 past the last one
abbrev pub place : List ℕ → ℕ → ℕ
place p i = cond (ltb i 16) (at p i) 0

-- the sixteen places of a list of notices
abbrev pub place_words : Notices → List ℕ
place_words n =
    let p : List ℕ = n.places in
    place p 0 ∷ place p 1 ∷ place p 2 ∷ place p 3 ∷ place p 4 ∷ place p 5 ∷ place p 6 ∷ place p 7 ∷ place p 8
    ∷ place p 9
    ∷ place p 10 ∷ place p 11 ∷ place p 12 ∷ place p 13 ∷ place p 14 ∷ place p 15 ∷ []

abbrev pub answer_words : Answer → List ℕ
answer_words r =
    (number_of r.verdict ∷ []) ++ place_words r.notices ++ task_words (given_numbers r.task) ++ (r.wait ∷ [])
