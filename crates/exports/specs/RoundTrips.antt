-- What is written for C and Rust is read back, and a lamp is carried in words through any calls: the statements.
use Rattle.std.specs.Prelude.{ℕ, Bool, true, cond, not, ◌&&◌, List, [], ◌∷◌, ◌≡◌, eqb, length}
use Rattle.matter.specs.declared.limits.Bounds.{Bounds}
use Rattle.matter.specs.InRange.{Byte, Clock, InRangeBounds}
use Rattle.lamp.specs.declared.Lamp.{Lamp}
use Rattle.lamp.specs.Valid.{lamp_valid}
use Rattle.lamp.specs.InRange.{InRangeLamp}
use Rattle.exports.specs.Words.{at}
use Rattle.exports.specs.Lamps.{lamp_of, lamp_known, lamp_words}
use Rattle.commands.specs.Answers as C
use Rattle.exports.specs.Failures.{unreadable, unreadable_lamp, no_room}
use Rattle.exports.specs.Calls.{call_of, call_known}
use Rattle.exports.specs.Exported.{Answered, made, taken, away, answered}

-- what is written of a thing is known, and is read as the thing
pub record Back {A N : Type 0} (read : N → A) (known : N → Bool) (written : N) (thing : A) : Type 0 where
  pub same : read written ≡ thing
  pub taken : known written ≡ true

-- a valid lamp in range
pub record Good (l : Lamp) : Type 0 where
  pub validity : lamp_valid l ≡ true
  pub in_range : InRangeLamp l

-- what a call of these words, with this room for its answer, leaves of a lamp; and what is left of the lamp
unfoldable pub replied : Lamp → List ℕ → List ℕ → Answered
replied l call answer =
    cond (not (eqb (length answer) 25)) (away no_room (lamp_words l) answer)
    (cond (not (call_known call)) (away unreadable (lamp_words l) answer) (taken (C.answer l (call_of call))))

unfoldable pub left : Lamp → List ℕ → List ℕ → Lamp
left l call answer = cond (eqb (length answer) 25 && call_known call) (C.answer l (call_of call)).lamp l

-- a call's words, and those that stand where its answer is to go
pub record Sending : Type 0 where
  pub call : List ℕ
  pub answer : List ℕ

-- the words that are left, and the lamp that is
abbrev pub words_after : List ℕ → List Sending → List ℕ
words_after w [] = w
words_after w (x ∷ xs) = words_after (answered w x.call x.answer).lamp xs

abbrev pub lamp_after : Lamp → List Sending → Lamp
lamp_after l [] = l
lamp_after l (x ∷ xs) = lamp_after (left l x.call x.answer) xs

abbrev pub Clocks : List Sending → Type 0
Clocks [] = Unit
Clocks (x ∷ xs) = Clock (at x.call 1) × Clocks xs

pub record RoundTrips : Type 0 where
  pub lamp-back : (l : Lamp) → lamp_valid l ≡ true → InRangeLamp l → Back lamp_of lamp_known (lamp_words l) l
  -- a call on the words of a lamp is the call on the lamp
  pub answered-is : (l : Lamp) → Good l → (call answer : List ℕ) →
      answered (lamp_words l) call answer ≡ replied l call answer
  -- and so it stays over a list of calls
  pub carried : (l : Lamp) (xs : List Sending) → Good l → Clocks xs →
      Good (lamp_after l xs) × (words_after (lamp_words l) xs ≡ lamp_words (lamp_after l xs))
  -- a lamp that was made and went through these calls alone is a lamp to the next one
  pub never-unreadable : (w : List ℕ) (bounds : Bounds) (features options clock : ℕ) (xs : List Sending)
      (call answer : List ℕ) → InRangeBounds bounds → Byte options → (made w bounds features options clock).number ≡ 0 →
      Clocks xs →
      (answered (words_after (made w bounds features options clock).lamp xs) call answer).number ≡ unreadable_lamp → ⊥
