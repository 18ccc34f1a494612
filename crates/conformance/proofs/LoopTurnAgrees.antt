-- The port's turn of the loop is the text's outside the snap, and less than 385 places from it there.
use Prim.Native.Nat.{ℕ, zero, suc, ◌+◌, ◌*◌, ◌%◌, ◌≤◌, ◌<◌, min}
use mathlib.Core.Logic.{◌⊎◌, inr}
use mathlib.Core.Path.{◌≡◌, refl, ap, ◌∙◌}
use native.Mathlib.Nat.{div-mul-le_self, lt-div-mul-add, div-lt_iff_lt-mul, mul-div_cancel, mul_assoc}
use native.Mathlib.Omega.{arith}
use borrow.Author.Tests.{ne_eqb}
use Rattle.matter.specs.Limits.{clock_limit}
use Rattle.progress.specs.Progress.{loop_ms, snapped, loop_turn}
use Rattle.progress.proofs.Laws.{snapped-kept, snapped-below, snapped-near}
use Rattle.conformance.specs.LoopTurn.{turned}

module _ (elapsed seconds : ℕ) (timely : elapsed ≤ clock_limit) (some : 0 < seconds) where
  -- the port's turn is the text's, snapped
  turn_is : loop_turn elapsed seconds ≡ snapped (turned elapsed seconds)
  unfolding loop_turn
  turn_is =
      let e : min elapsed clock_limit ≡ elapsed = omega arith in
      rw (ne_eqb seconds 0 (λ z. omega arith), e)

  -- it is the text's where no whole turn is near: in the first turn below 65,152, later between 384 and 65,152 past one
  pub loop-agrees : turned elapsed seconds % 65536 < 65152 → (384 < turned elapsed seconds % 65536) ⊎ (turned elapsed seconds < 65536) → loop_turn elapsed seconds ≡ turned elapsed seconds
  loop-agrees h k = turn_is ∙ snapped-kept (turned elapsed seconds) h k

  -- and everywhere less than 385 places from it
  pub loop-near : (turned elapsed seconds < loop_turn elapsed seconds + 385) × (loop_turn elapsed seconds < turned elapsed seconds + 385)
  loop-near = rw turn_is (snapped-near (turned elapsed seconds))

  -- no elapsed time below 995 ms differs, whatever the loop's time
  pub loop-first : elapsed < 995 → loop_turn elapsed seconds ≡ turned elapsed seconds
  loop-first h =
      let b : turned elapsed seconds < 65152 = (div-lt_iff_lt-mul {k = seconds * 1000} {x = 65536 * elapsed} {y = 65152} (omega arith)).1 (omega arith) in
      loop-agrees (omega arith) (inr (omega arith))

-- the text's whole places: with the circle in so many seconds, they are behind and one more is not
pub turned-exact : (elapsed seconds : ℕ) → 0 < seconds → (turned elapsed seconds * (seconds * 1000) ≤ 65536 * elapsed) × (65536 * elapsed < turned elapsed seconds * (seconds * 1000) + seconds * 1000)
turned-exact elapsed seconds h = (div-mul-le_self (65536 * elapsed) (seconds * 1000), lt-div-mul-add (omega arith))

-- 995 ms of a loop of a second is the smallest that does
pub loop-differs : (loop_turn 995 1 ≡ 65536) × (turned 995 1 ≡ 65208)
unfolding loop_turn snapped
loop-differs = (refl, refl)

-- whole turns are shown as they are
whole-turns : (turns : ℕ) → snapped (65536 * turns) ≡ 65536 * turns
whole-turns zero = snapped-kept (65536 * 0) (omega arith) (inr (omega arith))
whole-turns (suc n) = snapped-below (65536 * suc n) (omega arith) (omega arith) ∙ omega arith

-- after so many times its time, the loop has made so many turns, in both
pub loop-turns : (turns seconds : ℕ) → 0 < seconds → turns * (seconds * 1000) ≤ clock_limit → (turned (turns * (seconds * 1000)) seconds ≡ 65536 * turns) × (loop_turn (turns * (seconds * 1000)) seconds ≡ 65536 * turns)
loop-turns turns seconds h k =
    let e : turned (turns * (seconds * 1000)) seconds ≡ 65536 * turns = rw (← mul_assoc 65536 turns (seconds * 1000)) (mul-div_cancel (65536 * turns) (omega arith)) in
    (e, turn_is (turns * (seconds * 1000)) seconds k h ∙ ap snapped e ∙ whole-turns turns)

-- a time of 0, of which the text says nothing, is read as 25 seconds
pub loop-zero : loop_ms 0 ≡ 25 * 1000
loop-zero = refl
