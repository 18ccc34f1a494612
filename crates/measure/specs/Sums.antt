-- A checksum over words: two sums that wrap at 64 bits, the second one of the first's values, so that the order counts.
use Rattle.std.specs.Prelude.{ℕ, ◌+◌, ◌%◌, ◌^◌, List, [], ◌∷◌, ◌++◌, fold}
use Rattle.lamp.specs.declared.Answer.{Answer}
use Rattle.lamp.specs.declared.Lamp.{Lamp}
use Rattle.exports.specs.Failures.{unreadable}
use Rattle.exports.specs.Lamps.{lamp_words, task_words}
use Rattle.exports.specs.Moves.{none}
use Rattle.notices.specs.Notices.{noted}
use Rattle.exports.specs.Answers.{answer_words, place_words}
use Rattle.measure.specs.declared.sums.Sums.{Sums}

unfoldable pub added : Sums → ℕ → Sums
added s x = record { a = (s.a + x) % 2 ^ 64; b = (s.b + (s.a + x) % 2 ^ 64) % 2 ^ 64 }

unfoldable pub added_all : Sums → List ℕ → Sums
added_all = fold added

-- every number of an answer: its own and those of its lamp
abbrev pub answer_added : Sums → Answer → Sums
answer_added s r = added_all (added_all s (lamp_words r.lamp)) (answer_words r)

-- the same where the words are no call: the lamp as it is, and the number of that, with no notices, no task and no wait
abbrev pub unread_words : List ℕ
unread_words = (unreadable ∷ []) ++ place_words (noted []) ++ task_words none ++ (0 ∷ [])

abbrev pub unread_added : Sums → Lamp → Sums
unread_added s l = added_all (added_all s (lamp_words l)) unread_words
