-- What the exported functions leave: their number, and the words of the slices that they may change.
use Rattle.std.specs.Prelude.{ℕ, cond, not, List, eqb, length}
use Rattle.matter.specs.declared.limits.Bounds.{Bounds}
use Rattle.lamp.specs.declared.Answer.{Answer}
use Rattle.lamp.specs.declared.Lamp.{Lamp}
use Rattle.std.specs.Prelude.{Result, Ok, Err}
use Rattle.matter.specs.declared.refusals.Refusal.{Refusal}
use Rattle.lamp.specs.Making.{making}
use Rattle.exports.specs.Lamps.{lamp_of, lamp_known, lamp_words}
use Rattle.matter.specs.Causes.{refusal_number, number_of}
use Rattle.commands.specs.Answers as C
use Rattle.exports.specs.Failures.{unreadable, unreadable_lamp, no_room}
use Rattle.exports.specs.Calls.{call_of, call_known}
use Rattle.exports.specs.Answers.{answer_words}

-- a lamp's words and a number
pub record Left : Type 0 where
  pub number : ℕ
  pub lamp : List ℕ

-- the same and an answer's words
pub record Answered : Type 0 where
  pub number : ℕ
  pub lamp : List ℕ
  pub answer : List ℕ

-- ---- a lamp is made

abbrev pub laid : List ℕ → Result Lamp Refusal → Left
laid w (Ok l) = record { number = 0; lamp = lamp_words l }
laid w (Err refusal) = record { number = refusal_number refusal; lamp = w }

unfoldable pub made : List ℕ → Bounds → ℕ → ℕ → ℕ → Left
made w bounds features options clock =
    cond (eqb (length w) 28) (laid w (making bounds features options clock)) (record {
      number = unreadable_lamp;
      lamp = w;
    })

-- ---- a call is answered

abbrev pub taken : Answer → Answered
taken r = record { number = number_of r.verdict; lamp = lamp_words r.lamp; answer = answer_words r }

-- nothing changes
abbrev pub away : ℕ → List ℕ → List ℕ → Answered
away number w answer = record { number = number; lamp = w; answer = answer }

unfoldable pub answered : List ℕ → List ℕ → List ℕ → Answered
answered w call answer =
    cond (not (eqb (length w) 28)) (away unreadable_lamp w answer)
    (cond (not (eqb (length answer) 25)) (away no_room w answer)
    (cond (not (lamp_known w)) (away unreadable_lamp w answer)
    (cond (not (call_known call)) (away unreadable w answer) (taken (C.answer (lamp_of w) (call_of call))))))
