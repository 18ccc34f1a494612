-- What document 01, leaf 5, says of a setter, as a statement over a colour before and after it and the notices it
-- reported.
use Rattle.std.specs.Prelude.{ℕ, ◌+◌, ◌≤◌, ◌<◌, Bool, true, false, not, List, [], ◌∷◌, ◌++◌, ◌⊎◌, ◌≡◌}
use Rattle.matter.specs.declared.enums.ColorModeEnum.{ColorModeEnum}
use Rattle.matter.specs.declared.enums.EnhancedColorModeEnum.{EnhancedColorModeEnum}
use Rattle.notices.specs.Notices.{only}
use Rattle.color.specs.declared.Color.{Color}
use Rattle.color.specs.Setters.{hue_set, hue_reported, saturation_set, saturation_reported, mireds_set, mireds_reported}

-- the number that a setter sets, its stamp, the numbers and stamps of the other two, and its attribute's notices; the
-- color mode that it sets, and what it makes of the enhanced one
pub record Attribute : Type 1 where
  pub number : Color → ℕ
  pub stamp : Color → ℕ
  pub others : Color → List ℕ
  pub notices : List ℕ
  pub mode : ColorModeEnum
  pub EnhancedMode : EnhancedColorModeEnum → EnhancedColorModeEnum → Type 0

-- from a colour to another with these notices, of a new number, at an end or not, at a clock, with the loop active or
-- not
pub record Changes (a : Attribute) (c : Color) (new : ℕ) (end : Bool) (clock : ℕ) (active : Bool)
    (after : Color) (reported : List ℕ) : Type 0 where
  -- "An equal number, not at the end of a transition, changes nothing and notifies nothing, modes included"
  pub equal : a.number c ≡ new → end ≡ false → (after ≡ c) × (reported ≡ [])
  -- "Otherwise number and modes are set"
  pub set : (a.number c ≡ new → ⊥) ⊎ (end ≡ true) →
      (a.number after ≡ new) × (after.mode ≡ a.mode) × (a.EnhancedMode c.emode after.emode)
  -- "With every such change 13 comes first and 14 last", 13 "withheld in the setters while the loop is active";
  -- "Between them, notices of the attribute and of both modes come at an end": then the clock is its stamp
  pub at-end : end ≡ true →
      (reported ≡ only (not active) 13 ++ a.notices ++ (6 ∷ 7 ∷ 14 ∷ [])) × (a.stamp after ≡ clock)
  -- "or one second or more after its last"
  pub after-a-second : (a.number c ≡ new → ⊥) → a.stamp c + 1000 ≤ clock →
      (reported ≡ only (not active) 13 ++ a.notices ++ (6 ∷ 7 ∷ 14 ∷ [])) × (a.stamp after ≡ clock)
  -- and not before: then its stamp stays
  pub within-a-second : (a.number c ≡ new → ⊥) → end ≡ false → clock < a.stamp c + 1000 →
      (reported ≡ only (not active) 13 ++ (14 ∷ [])) × (a.stamp after ≡ a.stamp c)
  -- the other two, with their stamps, stay in any case
  pub rest : a.others after ≡ a.others c

-- a hue mode, plain or enhanced
abbrev pub is_hue_mode : EnhancedColorModeEnum → Bool
is_hue_mode EnhancedColorModeEnum.CurrentHueAndCurrentSaturation = true
is_hue_mode EnhancedColorModeEnum.CurrentXAndCurrentY = false
is_hue_mode EnhancedColorModeEnum.ColorTemperatureMireds = false
is_hue_mode EnhancedColorModeEnum.EnhancedCurrentHueAndCurrentSaturation = true

-- the hue: CurrentHue, and as enhanced EnhancedCurrentHue and the enhanced mode
abbrev pub hue_attribute : Bool → Attribute
hue_attribute enhanced =
    record {
      number = λ c. c.hue;
      stamp = λ c. c.stamps.hue;
      others = λ c. c.saturation ∷ c.mireds ∷ c.stamps.saturation ∷ c.stamps.mireds ∷ [];
      notices = 2 ∷ only enhanced 3;
      mode = ColorModeEnum.CurrentHueAndCurrentSaturation;
      EnhancedMode =
          λ old new.
          (enhanced ≡ true → new ≡ EnhancedColorModeEnum.EnhancedCurrentHueAndCurrentSaturation)
          × (enhanced ≡ false → new ≡ EnhancedColorModeEnum.CurrentHueAndCurrentSaturation);
    }

-- the saturation: "`set_saturation` keeps an enhanced mode that is already a hue one"
abbrev pub saturation_attribute : Attribute
saturation_attribute =
    record {
      number = λ c. c.saturation;
      stamp = λ c. c.stamps.saturation;
      others = λ c. c.hue ∷ c.mireds ∷ c.stamps.hue ∷ c.stamps.mireds ∷ [];
      notices = 4 ∷ [];
      mode = ColorModeEnum.CurrentHueAndCurrentSaturation;
      EnhancedMode =
          λ old new.
          (is_hue_mode old ≡ true → new ≡ old)
          × (is_hue_mode old ≡ false → new ≡ EnhancedColorModeEnum.CurrentHueAndCurrentSaturation);
    }

abbrev pub mireds_attribute : Attribute
mireds_attribute =
    record {
      number = λ c. c.mireds;
      stamp = λ c. c.stamps.mireds;
      others = λ c. c.hue ∷ c.saturation ∷ c.stamps.hue ∷ c.stamps.saturation ∷ [];
      notices = 5 ∷ [];
      mode = ColorModeEnum.ColorTemperatureMireds;
      EnhancedMode = λ old new. new ≡ EnhancedColorModeEnum.ColorTemperatureMireds;
    }

pub record SettersChange (c : Color) (new : ℕ) (end : Bool) (clock : ℕ) (active : Bool) : Type 0 where
  pub hue : (enhanced : Bool) →
      Changes (hue_attribute enhanced) c new end clock active
      (hue_set c new end enhanced clock) (hue_reported c new end enhanced clock active)
  pub saturation :
      Changes saturation_attribute c new end clock active
      (saturation_set c new end clock) (saturation_reported c new end clock active)
  pub mireds :
      Changes mireds_attribute c new end clock active
      (mireds_set c new end clock) (mireds_reported c new end clock active)
