-- Making and refusals: each number in its cause and in no other, and a lamp that is made is valid.
use Prim.Native.Nat.{ℕ, ◌≤◌, ◌<◌}
use Rattle.std.specs.Prelude.{Some, None}
use lib.Dec.{ltb}
use lib.ListN.{replicate}
use Rattle.matter.specs.Causes.{unless_refused, number_of, refusal_number, accepted, clock_refused, crossed_bounds, invalid_lamp}
use mathlib.Core.Bool.{Bool, true, false, cond}
use mathlib.Core.Path.{◌≡◌, refl, ap}
use native.Mathlib.Omega.{arith}
use lib.IntN.{pos}
use borrow.Author.Tests.{lt-ltb, le-ltb, le-leb}
use Rattle.matter.specs.declared.limits.Bounds.{Bounds}
use Rattle.matter.specs.declared.enums.EnhancedColorModeEnum.{EnhancedColorModeEnum}
use Rattle.matter.proofs.Laws.{all_of}
use Rattle.matter.specs.Limits.{clock_limit}
use Rattle.notices.specs.Notices.{filled}
use Rattle.matter.specs.Rules.{color_mode_of, default_color_mode}
use Rattle.progress.specs.Progress.{clamp}
use Rattle.progress.proofs.Laws.{clamp-within}
use Rattle.color.specs.Valid.{modes_agree, color_valid}
use Rattle.color.specs.Making.{new_color}
use Rattle.tasks.specs.Valid.{running_valid}
use Rattle.lamp.specs.declared.Lamp.{Lamp}
use Rattle.lamp.specs.Answers.{bad_clock, first_cause, refusal, numbered, numbered_answer}
use Rattle.lamp.specs.declared.Answer.{Answer}
use Rattle.matter.specs.declared.refusals.Refusal.{Refusal}
use Rattle.lamp.specs.Valid.{lamp_valid}
use Rattle.lamp.specs.Making.{fresh_lamp, making_cause, making, made_values, making_values}

-- ---- making: 4 exactly above the limit, whatever the bounds; 5 exactly at a good clock with crossed bounds

module _ (bounds : Bounds) (clock : ℕ) where
  pub making-clock : clock_limit < clock →
      (making_cause bounds clock ≡ clock_refused) × (number_of (making_cause bounds clock) ≡ 4)
  making-clock h = (simp (lt-ltb _ _ h), simp (lt-ltb _ _ h))

  pub making-crossed : clock ≤ clock_limit → bounds.max < bounds.min →
      (making_cause bounds clock ≡ crossed_bounds) × (number_of (making_cause bounds clock) ≡ 5)
  making-crossed h k = (simp (le-ltb _ _ h, lt-ltb _ _ k), simp (le-ltb _ _ h, lt-ltb _ _ k))

  pub making-accepted : clock ≤ clock_limit → bounds.min ≤ bounds.max → making_cause bounds clock ≡ accepted
  making-accepted h k = simp (le-ltb _ _ h, le-ltb _ _ k)

-- the answer's number is the cause's, and its lamp the fresh one exactly where there is none
values-by : (l : Lamp) (late crossed : Bool) →
    made_values (unless_refused (cond late clock_refused (cond crossed crossed_bounds accepted)) l)
    ≡ cond late (record { number = 4; lamp = None }) (cond crossed (record { number = 5; lamp = None }) (record { number = 0; lamp = Some l }))
values-by l true crossed = refl
values-by l false true = refl
values-by l false false = refl

pub made-values : (bounds : Bounds) (features options clock : ℕ) →
    made_values (making bounds features options clock) ≡ making_values bounds features options clock
unfolding making making_values
made-values bounds features options clock = values-by (fresh_lamp bounds features options clock) (ltb clock_limit clock) (ltb bounds.max bounds.min)

-- ---- a lamp that is made is valid

own-mode : (e : EnhancedColorModeEnum) → modes_agree (color_mode_of e) e ≡ true
own-mode EnhancedColorModeEnum.CurrentHueAndCurrentSaturation = refl
own-mode EnhancedColorModeEnum.CurrentXAndCurrentY = refl
own-mode EnhancedColorModeEnum.ColorTemperatureMireds = refl
own-mode EnhancedColorModeEnum.EnhancedCurrentHueAndCurrentSaturation = refl

module _ (bounds : Bounds) (features options clock : ℕ) (ordered : bounds.min ≤ bounds.max) (timely : clock ≤ clock_limit) where
  new-color-valid : color_valid (new_color features bounds) bounds clock ≡ true
  unfolding color_valid
  new-color-valid =
      let within : (bounds.min ≤ clamp bounds.min bounds.max (pos 250)) × (clamp bounds.min bounds.max (pos 250) ≤ bounds.max) = clamp-within bounds.min bounds.max (pos 250) ordered in
      all_of _
      (refl, (le-leb _ _ within.0, (le-leb _ _ within.1, (le-leb _ _ ordered, (own-mode (default_color_mode features), (le-leb 0 clock (omega arith), (le-leb 0 clock (omega arith), (le-leb 0 clock (omega arith), tt))))))))

  pub fresh-valid : lamp_valid (fresh_lamp bounds features options clock) ≡ true
  unfolding lamp_valid running_valid
  fresh-valid = all_of _ (le-leb clock clock_limit timely, (new-color-valid, (refl, tt)))

-- ---- "clock earlier than the lamp's, or above 1,099,511,627,776": the limit itself is good, the number above it is not

pub clock-limit : (l : Lamp) → l.clock ≤ 1099511627776 → (bad_clock l 1099511627776 ≡ false) × (bad_clock l 1099511627777 ≡ true)
clock-limit l h = (simp (le-ltb _ _ h), simp (le-ltb 1099511627777 l.clock (omega arith)))

-- the lamp's own clock is good, the number below it is not
pub clock-own : (l : Lamp) (before : ℕ) → l.clock ≤ 1099511627776 → before < l.clock →
    (bad_clock l l.clock ≡ false) × (bad_clock l before ≡ true)
clock-own l before h k =
    (simp (le-ltb l.clock l.clock (omega arith), le-ltb 1099511627776 l.clock h), simp (lt-ltb before l.clock k))

-- ---- 8 exactly invalid, whatever the clock; 4 exactly valid at a bad clock

module _ (l : Lamp) (clock : ℕ) where
  pub valid-first : lamp_valid l ≡ false →
      (first_cause l clock ≡ invalid_lamp) × (number_of (first_cause l clock) ≡ 8)
  unfolding first_cause
  valid-first h = (simp h, simp h)

  pub clock-second : lamp_valid l ≡ true → bad_clock l clock ≡ true →
      (first_cause l clock ≡ clock_refused) × (number_of (first_cause l clock) ≡ 4)
  unfolding first_cause
  clock-second h k = (simp (h, k), simp (h, k))

  pub neither : lamp_valid l ≡ true → bad_clock l clock ≡ false → first_cause l clock ≡ accepted
  unfolding first_cause
  neither h k = simp (h, k)

-- ---- an answer by its number

-- a lamp as it was, with a number, whichever it is: "list empty"; "A refusal has no task and wait 0"
pub numbered-as-was : (l : Lamp) (number : ℕ) →
    numbered l number ≡ record { number = number; lamp = l; notices = record { places = replicate 16 0; len = 0 }; task = None; wait = 0 }
unfolding filled
numbered-as-was l number = refl

-- a refusal by its number, and an accepted call's answer by 0
pub numbered-refusal : (l : Lamp) (cause : Refusal) → numbered_answer (refusal l cause) ≡ numbered l (refusal_number cause)
numbered-refusal l cause = refl

pub numbered-accepted : (a : Answer) → a.verdict ≡ accepted → (numbered_answer a).number ≡ 0
numbered-accepted a e = ap number_of e
