-- What of a lamp's form its colour, its bounds and its clock decide: document 01, "Lamp out of form".
use Rattle.std.specs.Prelude.{ℕ, Bool, [], ◌∷◌, leb, eqb}
use Rattle.matter.specs.declared.enums.ColorModeEnum.{ColorModeEnum}
use Rattle.matter.specs.declared.enums.EnhancedColorModeEnum.{EnhancedColorModeEnum}
use Rattle.matter.specs.All.{all_true}
use Rattle.matter.specs.Limits.{saturation_limit}
use Rattle.matter.specs.Numbers.{color_mode_number}
use Rattle.matter.specs.Rules.{color_mode_of}
use Rattle.matter.specs.declared.limits.Bounds.{Bounds}
use Rattle.color.specs.declared.Color.{Color}

-- the two modes agree: the one is the other's
abbrev pub modes_agree : ColorModeEnum → EnhancedColorModeEnum → Bool
modes_agree mode emode = eqb (color_mode_number mode) (color_mode_number (color_mode_of emode))

unfoldable pub color_valid : Color → Bounds → ℕ → Bool
color_valid c bounds clock =
    all_true
    ( -- "saturation above 254"
    leb c.saturation saturation_limit
    -- "mireds outside the bounds"
    ∷ leb bounds.min c.mireds
    ∷ leb c.mireds bounds.max
    -- "bounds crossed"
    ∷ leb bounds.min bounds.max
    -- "the two modes disagree"
    ∷ modes_agree c.mode c.emode
    -- "a notice stamp after the clock"
    ∷ leb c.stamps.hue clock
    ∷ leb c.stamps.saturation clock
    ∷ leb c.stamps.mireds clock
    ∷ [])
