-- Laws of the vocabulary: a choice, a list of tests that hold, and numbers looked up.
use Prim.Native.Nat.{ℕ, ◌≤◌, ◌<◌}
use mathlib.Core.Bool.{Bool, true, false, cond, ◌&&◌, ◌||◌, true≢false}
use mathlib.Core.List.{List, [], ◌∷◌}
use Rattle.std.specs.Prelude.{Ok, Err, is_ok}
use mathlib.Core.Path.{◌≡◌, refl, sym, ap, ◌∙◌}
use native.Mathlib.Omega.{arith}
use lib.Dec.{eqb, leb}
use borrow.Author.Tests.{eqb-true, leb-true, le-leb}
use Rattle.matter.specs.All.{all_true, all_from}
use Rattle.matter.specs.Causes.{Verdict, accepted, number_of, refusal_number}
use Rattle.matter.specs.declared.refusals.Refusal.{Refusal}
use Rattle.matter.specs.Numbers.{case_numbered, direction_number, direction_found, move_mode_number, move_mode_found, step_mode_number, step_mode_found, loop_action_number, loop_action_found, loop_direction_number, loop_direction_found, color_mode_number, color_mode_found, enhanced_color_mode_number, enhanced_color_mode_found, on_off_number, on_off_found}
use Rattle.matter.specs.declared.enums.DirectionEnum.{DirectionEnum}
use Rattle.matter.specs.declared.enums.MoveModeEnum.{MoveModeEnum}
use Rattle.matter.specs.declared.enums.StepModeEnum.{StepModeEnum}
use Rattle.matter.specs.declared.enums.ColorLoopActionEnum.{ColorLoopActionEnum}
use Rattle.matter.specs.declared.enums.ColorLoopDirectionEnum.{ColorLoopDirectionEnum}
use Rattle.matter.specs.declared.enums.ColorModeEnum.{ColorModeEnum}
use Rattle.matter.specs.declared.enums.EnhancedColorModeEnum.{EnhancedColorModeEnum}
use Rattle.matter.specs.declared.enums.OnOff.{OnOff}

-- ---- both parts of a conjunction that holds

pub and_left : (a b : Bool) → (a && b) ≡ true → a ≡ true
and_left true b e = refl
and_left false b e = e

pub and_right : (a b : Bool) → (a && b) ≡ true → b ≡ true
and_right true b e = e
and_right false true e = refl
and_right false false e = e

-- ---- neither part of a disjunction that fails holds

pub or_left : (a b : Bool) → (a || b) ≡ false → a ≡ false
or_left true b e = e
or_left false b e = refl

pub or_right : (a b : Bool) → (a || b) ≡ false → b ≡ false
or_right true b e = absurd (true≢false e)
or_right false b e = e

-- ---- what holds of both sides of a choice, where each is chosen, holds of the choice

pub cond_both : {A : Type 0} (P : A → Type 0) (t : Bool) (a b : A) → (t ≡ true → P a) → (t ≡ false → P b) → P (cond t a b)
cond_both P true a b h k = h refl
cond_both P false a b h k = k refl

-- ---- verdicts

-- one that is accepted, and one that is not
pub accepted-of : (v : Verdict) → is_ok v ≡ true → v ≡ accepted
accepted-of (Ok u) e = refl
accepted-of (Err refusal) e = absurd (true≢false (sym e))

pub refused-of : (v : Verdict) → is_ok v ≡ false → v ≡ accepted → ⊥
refused-of v e z = true≢false (sym (ap is_ok z) ∙ e)

-- 0 is the number of no refusal
refusal-some : (refusal : Refusal) → 0 < refusal_number refusal
refusal-some Refusal.ConstraintError = omega arith
refusal-some Refusal.InvalidCommand = omega arith
refusal-some Refusal.Clock = omega arith
refusal-some Refusal.CrossedBounds = omega arith
refusal-some Refusal.InvalidTask = omega arith
refusal-some Refusal.StepWhileIdle = omega arith
refusal-some Refusal.InvalidLamp = omega arith
refusal-some Refusal.ShortSlice = omega arith
refusal-some Refusal.NoPlace = omega arith
refusal-some Refusal.MiredTaskRuns = omega arith

pub number-0 : (v : Verdict) → number_of v ≡ 0 → v ≡ accepted
number-0 (Ok u) e = refl
number-0 (Err refusal) e = absurd (omega (arith, refusal-some refusal, e))

pub not-ok : (v : Verdict) → (v ≡ accepted → ⊥) → is_ok v ≡ false
not-ok (Ok u) n = absurd (n refl)
not-ok (Err refusal) n = refl

-- no two verdicts have one number
of_number : ℕ → Verdict
of_number =
    case_numbered refusal_number Err accepted
    (Refusal.ConstraintError ∷ Refusal.InvalidCommand ∷ Refusal.Clock ∷ Refusal.CrossedBounds ∷ Refusal.InvalidTask ∷ Refusal.StepWhileIdle
    ∷ Refusal.InvalidLamp ∷ Refusal.ShortSlice ∷ Refusal.NoPlace ∷ Refusal.MiredTaskRuns ∷ [])

back : (v : Verdict) → of_number (number_of v) ≡ v
unfolding of_number
back (Ok u) = refl
back (Err Refusal.ConstraintError) = refl
back (Err Refusal.InvalidCommand) = refl
back (Err Refusal.Clock) = refl
back (Err Refusal.CrossedBounds) = refl
back (Err Refusal.InvalidTask) = refl
back (Err Refusal.StepWhileIdle) = refl
back (Err Refusal.InvalidLamp) = refl
back (Err Refusal.ShortSlice) = refl
back (Err Refusal.NoPlace) = refl
back (Err Refusal.MiredTaskRuns) = refl

pub same_number : (v w : Verdict) → number_of v ≡ number_of w → v ≡ w
same_number v w e = sym (back v) ∙ ap of_number e ∙ back w

-- ---- what is at most a number is at most a later one

pub leb-later : (n a b : ℕ) → leb n a ≡ true → a ≤ b → leb n b ≡ true
leb-later n a b e h = le-leb n b (omega (arith, leb-true n a e))

-- ---- a list of tests: all hold exactly where each does

abbrev pub Each : List Bool → Type 0
Each [] = Unit
Each (b ∷ bs) = (b ≡ true) × Each bs

from : (t : Bool) (bs : List Bool) → all_from t bs ≡ true → (t ≡ true) × Each bs
from t [] e = (e, tt)
from t (b ∷ bs) e =
    let r : ((t && b) ≡ true) × Each bs = from (t && b) bs e in
    (and_left t b r.0, (and_right t b r.0, r.1))

pub each : (bs : List Bool) → all_true bs ≡ true → Each bs
unfolding all_true
each [] e = tt
each (b ∷ bs) e = from b bs e

to : (t : Bool) (bs : List Bool) → t ≡ true → Each bs → all_from t bs ≡ true
to t [] h e = h
to t (b ∷ bs) h e = to (t && b) bs (rw (h, e.0)) e.1

pub all_of : (bs : List Bool) → Each bs → all_true bs ≡ true
unfolding all_true
all_of [] e = refl
all_of (b ∷ bs) e = to b bs e.0 e.1

-- ---- what is looked up has the number it was looked up by, or nothing has it

pub data Looked {A B : Type 0} (number : A → ℕ) (known : A → B) (none : B) (n : ℕ) (r : B) : Type 0 where
  found : (a : A) → number a ≡ n → r ≡ known a → Looked number known none n r
  missing : r ≡ none → Looked number known none n r

module _ {A B : Type 0} (number : A → ℕ) (known : A → B) (none : B) (n : ℕ) where
  pick : (x : A) (r : B) (t : Bool) → eqb n (number x) ≡ t → Looked number known none n r → Looked number known none n (cond t (known x) r)
  pick x r true e l = found x (sym (eqb-true n (number x) e)) refl
  pick x r false e l = l

  pub looked : (xs : List A) → Looked number known none n (case_numbered number known none xs n)
  looked [] = missing refl
  looked (x ∷ xs) = pick x (case_numbered number known none xs n) (eqb n (number x)) refl (looked xs)

-- ---- every case is found by its number

pub direction-back : (d : DirectionEnum) → direction_found (direction_number d) ≡ Ok d
direction-back DirectionEnum.Shortest = refl
direction-back DirectionEnum.Longest = refl
direction-back DirectionEnum.Up = refl
direction-back DirectionEnum.Down = refl

pub move-mode-back : (m : MoveModeEnum) → move_mode_found (move_mode_number m) ≡ Ok m
move-mode-back MoveModeEnum.Stop = refl
move-mode-back MoveModeEnum.Up = refl
move-mode-back MoveModeEnum.Down = refl

pub step-mode-back : (m : StepModeEnum) → step_mode_found (step_mode_number m) ≡ Ok m
step-mode-back StepModeEnum.Up = refl
step-mode-back StepModeEnum.Down = refl

pub loop-action-back : (a : ColorLoopActionEnum) → loop_action_found (loop_action_number a) ≡ Ok a
loop-action-back ColorLoopActionEnum.Deactivate = refl
loop-action-back ColorLoopActionEnum.ActivateFromColorLoopStartEnhancedHue = refl
loop-action-back ColorLoopActionEnum.ActivateFromEnhancedCurrentHue = refl

pub loop-direction-back : (d : ColorLoopDirectionEnum) → loop_direction_found (loop_direction_number d) ≡ Ok d
loop-direction-back ColorLoopDirectionEnum.Decrement = refl
loop-direction-back ColorLoopDirectionEnum.Increment = refl

pub color-mode-back : (m : ColorModeEnum) → color_mode_found (color_mode_number m) ≡ Ok m
color-mode-back ColorModeEnum.CurrentHueAndCurrentSaturation = refl
color-mode-back ColorModeEnum.CurrentXAndCurrentY = refl
color-mode-back ColorModeEnum.ColorTemperatureMireds = refl

pub enhanced-color-mode-back : (m : EnhancedColorModeEnum) → enhanced_color_mode_found (enhanced_color_mode_number m) ≡ Ok m
enhanced-color-mode-back EnhancedColorModeEnum.CurrentHueAndCurrentSaturation = refl
enhanced-color-mode-back EnhancedColorModeEnum.CurrentXAndCurrentY = refl
enhanced-color-mode-back EnhancedColorModeEnum.ColorTemperatureMireds = refl
enhanced-color-mode-back EnhancedColorModeEnum.EnhancedCurrentHueAndCurrentSaturation = refl

pub on-off-back : (o : OnOff) → on_off_found (on_off_number o) ≡ Ok o
on-off-back OnOff.Off = refl
on-off-back OnOff.On = refl
on-off-back OnOff.NoHandler = refl
