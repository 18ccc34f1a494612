-- What the answers of all calls share: document 01, "Why a call is turned away".
use Rattle.std.specs.Prelude.{ℕ, Bool, not, cond, ◌||◌, [], ltb, None, Err}
use Rattle.matter.specs.Causes.{Verdict, accepted, clock_refused, invalid_lamp, number_of}
use Rattle.matter.specs.declared.refusals.Refusal.{Refusal}
use Rattle.matter.specs.Limits.{clock_limit}
use Rattle.notices.specs.Notices.{noted}
use Rattle.lamp.specs.declared.Lamp.{Lamp}
use Rattle.lamp.specs.declared.Answer.{Answer}
use Rattle.lamp.specs.declared.NumberedAnswer.{NumberedAnswer}
use Rattle.lamp.specs.Valid.{lamp_valid}

-- the lamp at another clock
abbrev pub at_clock : Lamp → ℕ → Lamp
at_clock l clock =
    record {
      clock = clock;
      bounds = l.bounds;
      color = l.color;
      looping = l.looping;
      remaining = l.remaining;
      options = l.options;
      running = l.running;
    }

-- "clock earlier than the lamp's, or above 1,099,511,627,776"
abbrev pub bad_clock : Lamp → ℕ → Bool
bad_clock l clock = ltb clock l.clock || ltb clock_limit clock

-- 8, then 4: what a halt checks, and a command and a start before all else
unfoldable pub first_cause : Lamp → ℕ → Verdict
first_cause l clock = cond (not (lamp_valid l)) invalid_lamp (cond (bad_clock l clock) clock_refused accepted)

-- the lamp as it was, with a verdict: an empty list, no task, wait 0
abbrev pub unchanged : Lamp → Verdict → Answer
unchanged l verdict = record { verdict = verdict; lamp = l; notices = noted []; task = None; wait = 0 }

-- "the number", the lamp as it was, "list empty"; "A refusal has no task and wait 0"
abbrev pub refusal : Lamp → Refusal → Answer
refusal l cause = unchanged l (Err cause)

-- the lamp as it was, with a number, whichever it is: an empty list, no task, wait 0
abbrev pub numbered : Lamp → ℕ → NumberedAnswer
numbered l number = record { number = number; lamp = l; notices = noted []; task = None; wait = 0 }

-- an answer by its number
abbrev pub numbered_answer : Answer → NumberedAnswer
numbered_answer a = record { number = number_of a.verdict; lamp = a.lamp; notices = a.notices; task = a.task; wait = a.wait }
