-- When a command may execute (document 01, leaf 3), a rate with its sign, and which mode goes with which (leaf 4).
use Rattle.std.specs.Prelude.{ℕ, Bool, true, cond, ℤ, pos, neg_ℤ}
use Rattle.matter.specs.declared.enums.MoveModeEnum.{MoveModeEnum}
use Rattle.matter.specs.declared.enums.OnOff.{OnOff}
use Rattle.matter.specs.declared.enums.ColorModeEnum.{ColorModeEnum}
use Rattle.matter.specs.declared.enums.EnhancedColorModeEnum.{EnhancedColorModeEnum}
use Rattle.matter.specs.Flags.{has_flag, execute_if_off, xy, hue_and_saturation, color_temperature}

-- "Leave to run", document 01: "No handler, or lamp on: yes. Lamp off: if the options mask has ExecuteIfOff (bit 0),
-- the override's bit decides, else the lamp's own option." From the lamp's options, the mask and the override
abbrev pub may_execute : OnOff → ℕ → ℕ → ℕ → Bool
may_execute OnOff.NoHandler options mask overrides = true
may_execute OnOff.On options mask overrides = true
may_execute OnOff.Off options mask overrides =
    cond (has_flag mask execute_if_off) (has_flag overrides execute_if_off) (has_flag options execute_if_off)

-- a rate with the sign of its direction
abbrev pub signed : MoveModeEnum → ℕ → ℤ
signed MoveModeEnum.Stop rate = pos 0
signed MoveModeEnum.Up rate = pos rate
signed MoveModeEnum.Down rate = neg_ℤ (pos rate)

-- the ColorMode that matches an EnhancedColorMode: the same, and the enhanced hue is a hue
abbrev pub color_mode_of : EnhancedColorModeEnum → ColorModeEnum
color_mode_of EnhancedColorModeEnum.CurrentHueAndCurrentSaturation = ColorModeEnum.CurrentHueAndCurrentSaturation
color_mode_of EnhancedColorModeEnum.CurrentXAndCurrentY = ColorModeEnum.CurrentXAndCurrentY
color_mode_of EnhancedColorModeEnum.ColorTemperatureMireds = ColorModeEnum.ColorTemperatureMireds
color_mode_of EnhancedColorModeEnum.EnhancedCurrentHueAndCurrentSaturation =
    ColorModeEnum.CurrentHueAndCurrentSaturation

-- the mode at making: the first that the features have, XY, then hue and saturation, then mireds; else XY
unfoldable pub default_color_mode : ℕ → EnhancedColorModeEnum
default_color_mode features =
    cond (has_flag features xy) EnhancedColorModeEnum.CurrentXAndCurrentY
    (cond (has_flag features hue_and_saturation) EnhancedColorModeEnum.CurrentHueAndCurrentSaturation
    (cond (has_flag features color_temperature) EnhancedColorModeEnum.ColorTemperatureMireds
    EnhancedColorModeEnum.CurrentXAndCurrentY))
