-- A lamp carried in words: from one that was made, through any list of calls, the words are those of the lamp that the
-- lamp's own definitions leave, and no call finds them to be no lamp. Whatever the words of a call are, and whether its
-- answer has room or not; a call's clock is a word of 64 bits.
use Rattle.std.specs.Prelude.{Some, None}
use Rattle.matter.specs.Causes.{number_of}
use Prim.Native.Nat.{ℕ, zero, suc, ◌%◌, ◌^◌, ◌<◌, ◌≤◌}
use mathlib.Core.Bool.{Bool, true, false, ◌&&◌}
use mathlib.Core.List.{List, [], ◌∷◌}
use mathlib.Core.Logic.{⊎_elim}
use mathlib.Core.Path.{◌≡◌, refl, sym, ap, ◌∙◌}
use native.Mathlib.Omega.{arith}
use lib.Dec.{leb, ltb, eqb}
use lib.IntN.{pos, neg_ℤ}
use lib.ListN.{length}
use lib.Signed.{mag}
use borrow.Author.Tests.{ltb-false}
use Rattle.matter.specs.declared.limits.Bounds.{Bounds}
use Rattle.matter.proofs.Laws.{cond_both}
use Rattle.matter.specs.Limits.{clock_limit}
use Rattle.matter.specs.InRange.{Byte, Clock, InRangeBounds, InRangeCommand, InRangeRequest}
use Rattle.tasks.specs.declared.Task.{Task}
use Rattle.tasks.specs.InRange.{Signed64, InRangeDelta, InRangeTarget, InRangeTask}
use Rattle.lamp.specs.declared.Lamp.{Lamp}
use Rattle.lamp.proofs.Laws.{fresh-valid}
use Rattle.lamp.specs.Making.{fresh_lamp, making}
use Rattle.lamp.specs.InRange.{InRangeCall}
use Rattle.lamp.proofs.InRangeKept.{in-range-of}
use Rattle.commands.specs.Answers as C
use Rattle.commands.proofs.Table.{cause-small}
use Rattle.lamp.specs.declared.Call.{Call}
use Rattle.commands.proofs.Kept.{number-is-cause, valid-kept, in-range-kept}
use Rattle.exports.specs.declared.moves.TaskNumbers.{TaskNumbers}
use Rattle.exports.specs.declared.calls.CommandNumbers.{CommandNumbers}
use Rattle.exports.specs.Kinds as K
use Rattle.exports.specs.Words.{at, signed}
use Rattle.exports.specs.Moves.{delta_of, target_of, move_to_of, hue_move_of, saturation_move_of, mireds_to_of, mireds_move_of, color_loop_of, task_of}
use Rattle.exports.specs.Lamps.{lamp_words}
use Rattle.exports.specs.Calls.{hue_command, saturation_command, enhanced_command, mireds_command, loop_command, command_of, request_of, command_numbers, start_numbers, call_of, call_known}
use Rattle.exports.specs.Failures.{unreadable_lamp}
use Rattle.exports.specs.Exported.{Answered, made, answered}
use Rattle.exports.specs.RoundTrips.{Good, replied, left, Sending, words_after, lamp_after, Clocks, RoundTrips}
use Rattle.exports.proofs.Laws.{lamp-back}

-- ---- a call that is read has its numbers within their types, if its clock has

-- a size below 2 ^ 63, turned
turned : (n : ℕ) → n < 2 ^ 63 → mag (neg_ℤ (pos n)) < 2 ^ 63
turned zero h = h
turned (suc n) h = omega arith

signed-in-range : (sign size : ℕ) → Signed64 (signed sign size)
unfolding signed
signed-in-range sign size =
    cond_both Signed64 (eqb sign 2) _ (pos (size % 2 ^ 63)) (λ e. turned (size % 2 ^ 63) (omega arith)) (λ e. omega arith)

delta-in-range : (sign size : ℕ) → InRangeDelta (delta_of sign size)
unfolding delta_of
delta-in-range sign size = cond_both InRangeDelta (eqb sign 0) None (Some (signed sign size)) (λ e. tt) (λ e. signed-in-range sign size)

target-in-range : (given saturation : ℕ) → InRangeTarget (target_of given saturation)
unfolding target_of
target-in-range given saturation = cond_both InRangeTarget (eqb given 0) None _ (λ e. tt) (λ e. omega arith)

task-in-range : (n : TaskNumbers) → InRangeTask (task_of n)
unfolding task_of move_to_of hue_move_of saturation_move_of mireds_to_of mireds_move_of color_loop_of
task-in-range n =
    cond_both InRangeTask (eqb n.kind 1) _ _
    (λ e. record { delta = delta-in-range n.a n.b; saturation = target-in-range n.c n.d; ms = omega arith })
    (λ e. cond_both InRangeTask (eqb n.kind 2) _ _ (λ e. omega arith)
    (λ e. cond_both InRangeTask (eqb n.kind 3) _ _ (λ e. omega arith)
    (λ e. cond_both InRangeTask (eqb n.kind 4) _ _ (λ e. record { target = omega arith; ms = omega arith })
    (λ e. cond_both InRangeTask (eqb n.kind 5) _ _ (λ e. record { rate = signed-in-range n.a n.b; min = omega arith; max = omega arith })
    (λ e. cond_both InRangeTask (eqb n.kind 6) _ Task.Stop (λ e. omega arith) (λ e. tt))))))

hue-in-range : (n : CommandNumbers) → InRangeCommand (hue_command n)
unfolding hue_command
hue-in-range n =
    cond_both InRangeCommand (eqb n.kind K.move_to_hue) _ _ (λ e. (omega arith, omega arith))
    (λ e. cond_both InRangeCommand (eqb n.kind K.move_hue) _ _ (λ e. omega arith) (λ e. (omega arith, omega arith)))

saturation-in-range : (n : CommandNumbers) → InRangeCommand (saturation_command n)
unfolding saturation_command
saturation-in-range n =
    cond_both InRangeCommand (eqb n.kind K.move_to_saturation) _ _ (λ e. (omega arith, omega arith))
    (λ e. cond_both InRangeCommand (eqb n.kind K.move_saturation) _ _ (λ e. omega arith)
    (λ e. cond_both InRangeCommand (eqb n.kind K.step_saturation) _ _ (λ e. (omega arith, omega arith))
    (λ e. (omega arith, omega arith, omega arith, omega arith))))

enhanced-in-range : (n : CommandNumbers) → InRangeCommand (enhanced_command n)
unfolding enhanced_command
enhanced-in-range n =
    cond_both InRangeCommand (eqb n.kind K.enhanced_move_to_hue) _ _ (λ e. (omega arith, omega arith))
    (λ e. cond_both InRangeCommand (eqb n.kind K.enhanced_move_hue) _ _ (λ e. omega arith) (λ e. (omega arith, omega arith)))

mireds-in-range : (n : CommandNumbers) → InRangeCommand (mireds_command n)
unfolding mireds_command
mireds-in-range n =
    cond_both InRangeCommand (eqb n.kind K.move_to_color_temperature) _ _ (λ e. (omega arith, omega arith))
    (λ e. cond_both InRangeCommand (eqb n.kind K.move_color_temperature) _ _ (λ e. (omega arith, omega arith, omega arith))
    (λ e. (omega arith, omega arith, omega arith, omega arith)))

command-in-range : (n : CommandNumbers) → InRangeCommand (command_of n)
unfolding command_of loop_command
command-in-range n =
    cond_both InRangeCommand (leb n.kind K.step_hue) _ _ (λ e. hue-in-range n)
    (λ e. cond_both InRangeCommand (leb n.kind K.move_to_hue_and_saturation) _ _ (λ e. saturation-in-range n)
    (λ e. cond_both InRangeCommand (eqb n.kind K.color_loop_set) _ _ (λ e. (omega arith, omega arith, omega arith))
    (λ e. cond_both InRangeCommand (eqb n.kind K.stop_move_step) _ _ (λ e. tt)
    (λ e. cond_both InRangeCommand (leb K.enhanced_move_to_hue n.kind && leb n.kind K.enhanced_step_hue) _ _ (λ e. enhanced-in-range n) (λ e. mireds-in-range n)))))

request-in-range : (n : CommandNumbers) → InRangeRequest (request_of n)
unfolding request_of
request-in-range n = record { options = record { mask = omega arith; overrides = omega arith }; command = command-in-range n }

pub call-in-range : (call : List ℕ) → Clock (at call 1) → InRangeCall (call_of call)
unfolding call_of
call-in-range call clock =
    cond_both InRangeCall (eqb (at call 0) K.step) _ _ (λ e. clock)
    (λ e. cond_both InRangeCall (eqb (at call 0) K.start) _ _ (λ e. (task-in-range (start_numbers call), clock))
    (λ e. cond_both InRangeCall (eqb (at call 0) K.halt) _ _ (λ e. clock)
    (λ e. cond_both InRangeCall (eqb (at call 0) K.set_bounds) _ _ (λ e. (record { min = omega arith; max = omega arith }, clock))
    (λ e. (request-in-range (command_numbers call), clock)))))

-- ---- the number of an answer to a call that is read

answer-small : (l : Lamp) (x : Call) → number_of (C.answer l x).verdict ≤ 18
answer-small l x = rw (number-is-cause l x) (⊎_elim (λ h. omega (arith, h)) (λ h. omega (arith, h.1)) (cause-small l x))

-- ---- one call

module _ (l : Lamp) (good : Good l) (call answer : List ℕ) where
  -- the words of a valid lamp in range are taken for that lamp
  pub answered-is : answered (lamp_words l) call answer ≡ replied l call answer
  unfolding answered replied
  answered-is = let b = lamp-back l good.validity good.in_range in simp (b.taken, b.same)

  -- and the call leaves the words of the lamp that it leaves
  pub words_left : (answered (lamp_words l) call answer).lamp ≡ lamp_words (left l call answer)
  unfolding replied left
  words_left = ap (λ (r : Answered). r.lamp) answered-is ∙ by_tests (eqb (length answer) 25) (call_known call) refl refl
    where
      by_tests : (p q : Bool) → eqb (length answer) 25 ≡ p → call_known call ≡ q → (replied l call answer).lamp ≡ lamp_words (left l call answer)
      by_tests true true e f = simp (e, f)
      by_tests true false e f = simp (e, f)
      by_tests false q e f = simp e

  -- which is a valid lamp in range again
  pub good_left : Clock (at call 1) → Good (left l call answer)
  unfolding left
  good_left clock =
      cond_both Good (eqb (length answer) 25 && call_known call) _ l
      (λ e. record { validity = valid-kept l (call_of call) good.validity; in_range = in-range-kept l (call_of call) good.validity good.in_range (call-in-range call clock) })
      (λ e. good)

  -- it is not answered as one to no lamp
  pub readable : (answered (lamp_words l) call answer).number ≡ unreadable_lamp → ⊥
  unfolding replied
  readable z = by_tests (eqb (length answer) 25) (call_known call) refl refl (sym (ap (λ (r : Answered). r.number) answered-is) ∙ z)
    where
      by_tests : (p q : Bool) → eqb (length answer) 25 ≡ p → call_known call ≡ q → (replied l call answer).number ≡ 101 → ⊥
      by_tests true true e f z = omega (arith, simp (e, f) at z, answer-small l (call_of call))
      by_tests true false e f z = omega (arith, simp (e, f) at z)
      by_tests false q e f z = omega (arith, simp e at z)

-- ---- a lamp that is made

module _ (w : List ℕ) (bounds : Bounds) (features options clock : ℕ) where
  -- its words are those of a fresh lamp, which is a valid lamp in range
  pub made-good : InRangeBounds bounds → Byte options → (made w bounds features options clock).number ≡ 0 → Good (fresh_lamp bounds features options clock) × ((made w bounds features options clock).lamp ≡ lamp_words (fresh_lamp bounds features options clock))
  unfolding made making
  made-good b o z = by_tests (eqb (length w) 28) (ltb clock_limit clock) (ltb bounds.max bounds.min) refl refl refl z
    where
      by_tests : (p q r : Bool) → eqb (length w) 28 ≡ p → ltb clock_limit clock ≡ q → ltb bounds.max bounds.min ≡ r → (made w bounds features options clock).number ≡ 0 → Good (fresh_lamp bounds features options clock) × ((made w bounds features options clock).lamp ≡ lamp_words (fresh_lamp bounds features options clock))
      by_tests true false false e f g z =
          let validity = fresh-valid bounds features options clock (ltb-false _ _ g) (ltb-false _ _ f) in
          (record { validity = validity; in_range = in-range-of _ validity b (omega arith) (omega arith) (omega arith) (omega arith) (omega arith) o tt }, simp (e, f, g))
      by_tests true false true e f g z = absurd (omega (arith, simp (e, f, g) at z))
      by_tests true true r e f g z = absurd (omega (arith, simp (e, f) at z))
      by_tests false q r e f g z = absurd (omega (arith, simp e at z))

-- ---- calls one after another

pub carried : (l : Lamp) (xs : List Sending) → Good l → Clocks xs → Good (lamp_after l xs) × (words_after (lamp_words l) xs ≡ lamp_words (lamp_after l xs))
carried l [] good c = (good, refl)
carried l (x ∷ xs) good c =
    let r = carried (left l x.call x.answer) xs (good_left l good x.call x.answer c.0) c.1 in
    (r.0, ap (λ (w : List ℕ). words_after w xs) (words_left l good x.call x.answer) ∙ r.1)

-- a lamp that was made and went through these calls alone is a lamp to the next one
pub never-unreadable : (w : List ℕ) (bounds : Bounds) (features options clock : ℕ) (xs : List Sending) (call answer : List ℕ) → InRangeBounds bounds → Byte options → (made w bounds features options clock).number ≡ 0 → Clocks xs → (answered (words_after (made w bounds features options clock).lamp xs) call answer).number ≡ unreadable_lamp → ⊥
never-unreadable w bounds features options clock xs call answer b o z c e =
    let m = made-good w bounds features options clock b o z in
    let r = carried (fresh_lamp bounds features options clock) xs m.0 c in
    readable (lamp_after (fresh_lamp bounds features options clock) xs) r.0 call answer
    (ap (λ (v : List ℕ). (answered v call answer).number) (sym (ap (λ (v : List ℕ). words_after v xs) m.1 ∙ r.1)) ∙ e)

pub round-trips : RoundTrips
round-trips =
    record {
      lamp-back = lamp-back;
      answered-is = answered-is;
      carried = carried;
      never-unreadable = never-unreadable;
    }
