-- Why words from C are not taken, or what they ask is refused, each with the number that C reads.
use Rattle.std.specs.Prelude.{ℕ}
use Rattle.matter.specs.Causes.{refusal_number}
use Rattle.exports.specs.declared.failures.WordsError.{WordsError}

-- the number of an answer to words that are no call
abbrev pub unreadable : ℕ
unreadable = 100

-- the numbers of a lamp that is no lamp, and of an answer that has not its room
abbrev pub unreadable_lamp : ℕ
unreadable_lamp = 101

abbrev pub no_room : ℕ
no_room = 102

abbrev pub error_number : WordsError → ℕ
error_number WordsError.UnreadableCall = unreadable
error_number WordsError.UnreadableLamp = unreadable_lamp
error_number WordsError.NoRoom = no_room
error_number (WordsError.Refused refusal) = refusal_number refusal
