-- Laws that the proofs of several functions cite.
use Prim.Native.Nat.{ℕ, ◌+◌, ◌-◌, ◌≤◌, ◌<◌}
use mathlib.Core.Bool.{Bool, true, false, not, cond, ◌&&◌}
use mathlib.Core.Path.{◌≡◌, refl, sym}
use mathlib.Core.List.{[], ◌∷◌, ◌++◌}
use native.Mathlib.Omega.{arith}
use lib.Dec.{leb}
use borrow.Author.Tests.{leb-true, leb-false, le-leb, lt-leb}
use Rattle.std.specs.Prelude.{Option, Some, None}
use Rattle.notices.specs.declared.Notice.{Notice}
use Rattle.notices.specs.declared.Numeral.{Numeral}
use Rattle.notices.specs.Notices.{only}
use Rattle.notices.specs.Numerals.{consed, in_front}
use Rattle.notices.specs.Names.{EnhancedCurrentHue, ColorMode, EnhancedColorMode, marked_dirty, notice_number}
use Rattle.notices.proofs.Numerals.{Below, none, more, below-append, below-only}
use Rattle.color.specs.declared.Change.{Change}
use Rattle.color.specs.Setters.{change_notices, change_reported}

-- a second or more from the stamp to the clock, by the difference or by the sum
by : (stamp clock : ℕ) (b : Bool) → stamp ≤ clock → leb 1000 (clock - stamp) ≡ b → leb (stamp + 1000) clock ≡ b
by stamp clock true h e = le-leb (stamp + 1000) clock (omega (arith, leb-true 1000 (clock - stamp) e))
by stamp clock false h e = lt-leb (stamp + 1000) clock (omega (arith, leb-false 1000 (clock - stamp) e))

pub second-old : (stamp clock : ℕ) → stamp ≤ clock → leb 1000 (clock - stamp) ≡ leb (stamp + 1000) clock
second-old stamp clock h = sym (by stamp clock (leb 1000 (clock - stamp)) h refl)

-- a change's notices, one after the other in front of a list
pub change-in-front : (active due enhanced : Bool) (attribute : ℕ) (l : Numeral) →
    in_front (only (not active) 13)
    (in_front (only due attribute) (in_front (only (due && enhanced) 3) (in_front (only due 6) (in_front (only due 7) (consed l 14)))))
    ≡ in_front (change_notices active due (attribute ∷ only enhanced 3)) l
unfolding in_front
change-in-front true true true attribute l = refl
change-in-front true true false attribute l = refl
change-in-front true false enhanced attribute l = refl
change-in-front false true true attribute l = refl
change-in-front false true false attribute l = refl
change-in-front false false enhanced attribute l = refl

-- an attribute whose number is below a bound, where there is a change
abbrev pub AttributeBelow : ℕ → Option Change → Type 0
AttributeBelow bound None = Unit
AttributeBelow bound (Some change) = notice_number change.attribute < bound

-- every notice's number is a byte
pub notice-small : (notice : Notice) → notice_number notice < 19
notice-small Notice.RemainingTime = omega arith
notice-small Notice.CurrentHue = omega arith
notice-small Notice.EnhancedCurrentHue = omega arith
notice-small Notice.CurrentSaturation = omega arith
notice-small Notice.ColorTemperatureMireds = omega arith
notice-small Notice.ColorMode = omega arith
notice-small Notice.EnhancedColorMode = omega arith
notice-small Notice.ColorLoopActive = omega arith
notice-small Notice.ColorLoopDirection = omega arith
notice-small Notice.ColorLoopTime = omega arith
notice-small Notice.ColorLoopStartEnhancedHue = omega arith
notice-small Notice.ColorLoopStoredEnhancedHue = omega arith
notice-small Notice.MarkedDirty = omega arith
notice-small Notice.ScenesNotified = omega arith
notice-small Notice.DeviceHueSaturation = omega arith
notice-small Notice.DeviceMireds = omega arith
notice-small Notice.TaskGiven = omega arith
notice-small Notice.HueTie = omega arith

pub attribute-byte : (change : Option Change) → AttributeBelow 256 change
attribute-byte None = tt
attribute-byte (Some change) = omega (arith, notice-small change.attribute)

-- a change's notices are below every bound that is above 14 and above the attribute
module _ (bound : ℕ) (high : 14 < bound) where
  attribute-below : (enhanced : Bool) (attribute : ℕ) → attribute < bound → Below bound (attribute ∷ only enhanced EnhancedCurrentHue)
  attribute-below enhanced attribute h = more h (below-only enhanced EnhancedCurrentHue (omega arith))

  due_below : (d enhanced : Bool) (attribute : ℕ) → attribute < bound →
      Below bound (cond d ((attribute ∷ only enhanced EnhancedCurrentHue) ++ (ColorMode ∷ EnhancedColorMode ∷ [])) [])
  due_below true enhanced attribute h = below-append (attribute-below enhanced attribute h) (more (omega arith) (more (omega arith) none))
  due_below false enhanced attribute h = none

  pub change-below : (change : Option Change) (active : Bool) → AttributeBelow bound change → Below bound (change_reported change active)
  change-below None active h = none
  change-below (Some change) active h =
      below-append (below-only (not active) marked_dirty (omega arith))
      (below-append (due_below change.due change.enhanced (notice_number change.attribute) h) (more (omega arith) none))
