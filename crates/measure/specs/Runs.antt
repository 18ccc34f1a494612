-- Calls one after another, each of ten words, on one lamp, with the sums over every number of every answer.
use Rattle.std.specs.Prelude.{ℕ, Option, Some, None, zero, suc, ◌*◌, ◌/◌, List, length, take, drop}
use Rattle.lamp.specs.declared.Lamp.{Lamp}
use Rattle.lamp.specs.declared.Answer.{Answer}
use Rattle.measure.specs.declared.Ran.{Ran}
use Rattle.exports.specs.Lamps.{lamp_of}
use Rattle.exports.specs.Calls.{called}
use Rattle.measure.specs.Sums.{answer_added, unread_added}

-- the words of the call k
abbrev pub call_at : List ℕ → ℕ → List ℕ
call_at calls k = take 10 (drop (k * 10) calls)

-- one call more: its answer, or, of a kind past the last one, none
abbrev pub after : Ran → Option Answer → Ran
after r (Some a) = record { lamp = a.lamp; sums = answer_added r.sums a }
after r None = record { lamp = r.lamp; sums = unread_added r.sums r.lamp }

-- the lamp and the sums after the first k calls
unfoldable pub ran : Lamp → List ℕ → ℕ → Ran
ran l calls zero = record { lamp = l; sums = record { a = 0; b = 0 } }
ran l calls (suc k) = after (ran l calls k) (called (ran l calls k).lamp (call_at calls k))

-- after all of them; words at the end that make no whole call are skipped
abbrev pub ran_all : Lamp → List ℕ → Ran
ran_all l calls = ran l calls (length calls / 10)

-- the checksum over the answers to the calls, from a lamp in words
abbrev pub checksum : List ℕ → List ℕ → ℕ
checksum w calls = (ran_all (lamp_of w) calls).sums.b
