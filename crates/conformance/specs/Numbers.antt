-- The numbers of the enums, and the bits of the bitmaps: Matter Application Cluster Specification, Color Control, "Data
-- types" and "Features". Written from that text as known, what stands in quotes too: no copy was at hand. A number that
-- is not in a table is reserved.
use Rattle.std.specs.Prelude.{ℕ, List, [], ◌∷◌, ◌≡◌, eqb}
use Rattle.matter.specs.Flags.{has_flag, execute_if_off, update_action, update_direction, update_time, update_start_hue}
use Rattle.matter.specs.Flags.{hue_and_saturation, enhanced_hue, color_loop, xy, color_temperature}
use Rattle.matter.specs.declared.enums.ColorLoopActionEnum.{ColorLoopActionEnum}
use Rattle.matter.specs.declared.enums.ColorLoopDirectionEnum.{ColorLoopDirectionEnum}
use Rattle.matter.specs.declared.enums.ColorModeEnum.{ColorModeEnum}
use Rattle.matter.specs.declared.enums.DirectionEnum.{DirectionEnum}
use Rattle.matter.specs.declared.enums.EnhancedColorModeEnum.{EnhancedColorModeEnum}
use Rattle.matter.specs.declared.enums.MoveModeEnum.{MoveModeEnum}
use Rattle.matter.specs.declared.enums.StepModeEnum.{StepModeEnum}
use Rattle.conformance.specs.Options.{bit}

-- a line of a table: a number and what it means
pub record Line (A : Type 0) : Type 0 where
  pub number : ℕ
  pub means : A

abbrev line : {A : Type 0} → ℕ → A → Line A
line number means = record { number = number; means = means }

abbrev pub direction_table : List (Line DirectionEnum)
direction_table =
    line 0 DirectionEnum.Shortest ∷ line 1 DirectionEnum.Longest ∷ line 2 DirectionEnum.Up ∷ line 3 DirectionEnum.Down
    ∷ []

abbrev pub move_mode_table : List (Line MoveModeEnum)
move_mode_table = line 0 MoveModeEnum.Stop ∷ line 1 MoveModeEnum.Up ∷ line 3 MoveModeEnum.Down ∷ []

abbrev pub step_mode_table : List (Line StepModeEnum)
step_mode_table = line 1 StepModeEnum.Up ∷ line 3 StepModeEnum.Down ∷ []

abbrev pub action_table : List (Line ColorLoopActionEnum)
action_table =
    line 0 ColorLoopActionEnum.Deactivate
    ∷ line 1 ColorLoopActionEnum.ActivateFromColorLoopStartEnhancedHue
    ∷ line 2 ColorLoopActionEnum.ActivateFromEnhancedCurrentHue
    ∷ []

abbrev pub loop_direction_table : List (Line ColorLoopDirectionEnum)
loop_direction_table = line 0 ColorLoopDirectionEnum.Decrement ∷ line 1 ColorLoopDirectionEnum.Increment ∷ []

abbrev pub color_mode_table : List (Line ColorModeEnum)
color_mode_table =
    line 0 ColorModeEnum.CurrentHueAndCurrentSaturation ∷ line 1 ColorModeEnum.CurrentXAndCurrentY
    ∷ line 2 ColorModeEnum.ColorTemperatureMireds ∷ []

abbrev pub enhanced_color_mode_table : List (Line EnhancedColorModeEnum)
enhanced_color_mode_table =
    line 0 EnhancedColorModeEnum.CurrentHueAndCurrentSaturation
    ∷ line 1 EnhancedColorModeEnum.CurrentXAndCurrentY
    ∷ line 2 EnhancedColorModeEnum.ColorTemperatureMireds
    ∷ line 3 EnhancedColorModeEnum.EnhancedCurrentHueAndCurrentSaturation
    ∷ []

-- whether a bitmap has the port's flag is its bit
abbrev pub IsBit : ℕ → ℕ → Type 0
IsBit flag k = (bits : ℕ) → has_flag bits flag ≡ eqb (bit k bits) 1

pub record FlagsAreBits : Type 0 where
  -- OptionsBitmap
  pub option_0 : IsBit execute_if_off 0
  -- UpdateFlagsBitmap
  pub update_0 : IsBit update_action 0
  pub update_1 : IsBit update_direction 1
  pub update_2 : IsBit update_time 2
  pub update_3 : IsBit update_start_hue 3
  -- Feature
  pub feature_0 : IsBit hue_and_saturation 0
  pub feature_1 : IsBit enhanced_hue 1
  pub feature_2 : IsBit color_loop 2
  pub feature_3 : IsBit xy 3
  pub feature_4 : IsBit color_temperature 4
