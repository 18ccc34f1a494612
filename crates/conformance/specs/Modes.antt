-- ColorMode and EnhancedColorMode: Matter Application Cluster Specification, Color Control, the attributes of these
-- names, "Note on change of ColorMode" and "Effect on receipt" of each command. Written from that text as known, what
-- stands in quotes too: no copy was at hand.
use Rattle.std.specs.Prelude.{cond}
use Rattle.matter.specs.declared.commands.Command.{Command}
use Rattle.matter.specs.declared.enums.ColorModeEnum.{ColorModeEnum}
use Rattle.matter.specs.declared.enums.EnhancedColorModeEnum.{EnhancedColorModeEnum}

pub record Modes : Type 0 where
  pub color : ColorModeEnum
  pub enhanced : EnhancedColorModeEnum

abbrev pub hue_modes : Modes
hue_modes =
    record {
      color = ColorModeEnum.CurrentHueAndCurrentSaturation;
      enhanced = EnhancedColorModeEnum.CurrentHueAndCurrentSaturation;
    }

-- "the original ColorMode attribute SHALL indicate CurrentHue and CurrentSaturation when the light uses the
-- EnhancedCurrentHue"
abbrev pub enhanced_hue_modes : Modes
enhanced_hue_modes =
    record {
      color = ColorModeEnum.CurrentHueAndCurrentSaturation;
      enhanced = EnhancedColorModeEnum.EnhancedCurrentHueAndCurrentSaturation;
    }

abbrev pub temperature_modes : Modes
temperature_modes =
    record {
      color = ColorModeEnum.ColorTemperatureMireds;
      enhanced = EnhancedColorModeEnum.ColorTemperatureMireds;
    }

-- a saturation needs the hue's ColorMode; "If the ColorMode attribute is changed, its new value SHALL be copied to the
-- EnhancedColorMode attribute": where it is the hue's already, EnhancedColorMode stays
abbrev pub saturation_modes : Modes → Modes
saturation_modes modes = elim modes.color [
  | ColorModeEnum.CurrentHueAndCurrentSaturation ↦ modes
  | ColorModeEnum.CurrentXAndCurrentY ↦ hue_modes
  | ColorModeEnum.ColorTemperatureMireds ↦ hue_modes
]

-- "The first action taken when any one of these commands is received is to change the ColorMode attribute to the
-- appropriate value for the command"
unfoldable pub received : Modes → Command → Modes
received modes (Command.MoveToHue hue direction time) = hue_modes
received modes (Command.MoveHue mode rate enhanced) = cond enhanced enhanced_hue_modes hue_modes
received modes (Command.StepHue mode size time) = hue_modes
received modes (Command.MoveToSaturation saturation time) = saturation_modes modes
received modes (Command.MoveSaturation mode rate) = saturation_modes modes
received modes (Command.StepSaturation mode size time) = saturation_modes modes
received modes (Command.MoveToHueAndSaturation hue saturation time enhanced enhanced_hue) =
    cond enhanced enhanced_hue_modes hue_modes
received modes (Command.EnhancedMoveToHue hue direction time) = enhanced_hue_modes
received modes (Command.EnhancedMoveHue mode rate) = enhanced_hue_modes
received modes (Command.EnhancedStepHue mode size time) = enhanced_hue_modes
received modes (Command.MoveToColorTemperature mireds time) = temperature_modes
received modes (Command.MoveColorTemperature mode rate min max) = temperature_modes
received modes (Command.StepColorTemperature mode size time min max) = temperature_modes
received modes (Command.ColorLoopSet flags action direction time start_hue) = modes
received modes Command.StopMoveStep = modes
