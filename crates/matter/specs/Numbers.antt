-- The numbers of the cluster's enums: Matter Application Cluster Specification, Color Control, data types.
-- Each enum's numbers are stated once; the case that a number means is looked up in them.
use Rattle.std.specs.Prelude.{ℕ, cond, List, [], ◌∷◌, eqb, Result, Ok, Err}
use Rattle.matter.specs.declared.enums.DirectionEnum.{DirectionEnum}
use Rattle.matter.specs.declared.enums.MoveModeEnum.{MoveModeEnum}
use Rattle.matter.specs.declared.enums.StepModeEnum.{StepModeEnum}
use Rattle.matter.specs.declared.enums.ColorLoopActionEnum.{ColorLoopActionEnum}
use Rattle.matter.specs.declared.enums.ColorLoopDirectionEnum.{ColorLoopDirectionEnum}
use Rattle.matter.specs.declared.enums.ColorModeEnum.{ColorModeEnum}
use Rattle.matter.specs.declared.enums.EnhancedColorModeEnum.{EnhancedColorModeEnum}
use Rattle.matter.specs.declared.enums.OnOff.{OnOff}
use Rattle.matter.specs.declared.enums.Reserved.{Reserved}

-- the first of the cases whose number is n, or none
abbrev pub case_numbered : {A B : Type 0} → (A → ℕ) → (A → B) → B → List A → ℕ → B
case_numbered number known none [] n = none
case_numbered number known none (x ∷ xs) n = cond (eqb n (number x)) (known x) (case_numbered number known none xs n)

-- and for a conversion
abbrev pub found_in : {E : Type 0} → (E → ℕ) → List E → ℕ → Result E Reserved
found_in number cases n = case_numbered number Ok (Err (record { number = n })) cases n

-- DirectionEnum
abbrev pub direction_number : DirectionEnum → ℕ
direction_number DirectionEnum.Shortest = 0
direction_number DirectionEnum.Longest = 1
direction_number DirectionEnum.Up = 2
direction_number DirectionEnum.Down = 3

abbrev pub directions : List DirectionEnum
directions = DirectionEnum.Shortest ∷ DirectionEnum.Longest ∷ DirectionEnum.Up ∷ DirectionEnum.Down ∷ []

abbrev pub direction_found : ℕ → Result DirectionEnum Reserved
direction_found = found_in direction_number directions

-- MoveModeEnum
abbrev pub move_mode_number : MoveModeEnum → ℕ
move_mode_number MoveModeEnum.Stop = 0
move_mode_number MoveModeEnum.Up = 1
move_mode_number MoveModeEnum.Down = 3

abbrev pub move_modes : List MoveModeEnum
move_modes = MoveModeEnum.Stop ∷ MoveModeEnum.Up ∷ MoveModeEnum.Down ∷ []

abbrev pub move_mode_found : ℕ → Result MoveModeEnum Reserved
move_mode_found = found_in move_mode_number move_modes

-- StepModeEnum
abbrev pub step_mode_number : StepModeEnum → ℕ
step_mode_number StepModeEnum.Up = 1
step_mode_number StepModeEnum.Down = 3

abbrev pub step_modes : List StepModeEnum
step_modes = StepModeEnum.Up ∷ StepModeEnum.Down ∷ []

abbrev pub step_mode_found : ℕ → Result StepModeEnum Reserved
step_mode_found = found_in step_mode_number step_modes

-- ColorLoopActionEnum
abbrev pub loop_action_number : ColorLoopActionEnum → ℕ
loop_action_number ColorLoopActionEnum.Deactivate = 0
loop_action_number ColorLoopActionEnum.ActivateFromColorLoopStartEnhancedHue = 1
loop_action_number ColorLoopActionEnum.ActivateFromEnhancedCurrentHue = 2

abbrev pub loop_actions : List ColorLoopActionEnum
loop_actions =
    ColorLoopActionEnum.Deactivate ∷ ColorLoopActionEnum.ActivateFromColorLoopStartEnhancedHue
    ∷ ColorLoopActionEnum.ActivateFromEnhancedCurrentHue ∷ []

abbrev pub loop_action_found : ℕ → Result ColorLoopActionEnum Reserved
loop_action_found = found_in loop_action_number loop_actions

-- ColorLoopDirectionEnum
abbrev pub loop_direction_number : ColorLoopDirectionEnum → ℕ
loop_direction_number ColorLoopDirectionEnum.Decrement = 0
loop_direction_number ColorLoopDirectionEnum.Increment = 1

abbrev pub loop_directions : List ColorLoopDirectionEnum
loop_directions = ColorLoopDirectionEnum.Decrement ∷ ColorLoopDirectionEnum.Increment ∷ []

abbrev pub loop_direction_found : ℕ → Result ColorLoopDirectionEnum Reserved
loop_direction_found = found_in loop_direction_number loop_directions

-- ColorModeEnum
abbrev pub color_mode_number : ColorModeEnum → ℕ
color_mode_number ColorModeEnum.CurrentHueAndCurrentSaturation = 0
color_mode_number ColorModeEnum.CurrentXAndCurrentY = 1
color_mode_number ColorModeEnum.ColorTemperatureMireds = 2

abbrev pub color_modes : List ColorModeEnum
color_modes =
    ColorModeEnum.CurrentHueAndCurrentSaturation ∷ ColorModeEnum.CurrentXAndCurrentY
    ∷ ColorModeEnum.ColorTemperatureMireds ∷ []

abbrev pub color_mode_found : ℕ → Result ColorModeEnum Reserved
color_mode_found = found_in color_mode_number color_modes

-- EnhancedColorModeEnum
abbrev pub enhanced_color_mode_number : EnhancedColorModeEnum → ℕ
enhanced_color_mode_number EnhancedColorModeEnum.CurrentHueAndCurrentSaturation = 0
enhanced_color_mode_number EnhancedColorModeEnum.CurrentXAndCurrentY = 1
enhanced_color_mode_number EnhancedColorModeEnum.ColorTemperatureMireds = 2
enhanced_color_mode_number EnhancedColorModeEnum.EnhancedCurrentHueAndCurrentSaturation = 3

abbrev pub enhanced_color_modes : List EnhancedColorModeEnum
enhanced_color_modes =
    EnhancedColorModeEnum.CurrentHueAndCurrentSaturation ∷ EnhancedColorModeEnum.CurrentXAndCurrentY
    ∷ EnhancedColorModeEnum.ColorTemperatureMireds ∷ EnhancedColorModeEnum.EnhancedCurrentHueAndCurrentSaturation ∷ []

abbrev pub enhanced_color_mode_found : ℕ → Result EnhancedColorModeEnum Reserved
enhanced_color_mode_found = found_in enhanced_color_mode_number enhanced_color_modes

-- OnOff: the on/off attribute's numbers, and 2 where there is no on/off cluster (ours)
abbrev pub on_off_number : OnOff → ℕ
on_off_number OnOff.Off = 0
on_off_number OnOff.On = 1
on_off_number OnOff.NoHandler = 2

abbrev pub on_offs : List OnOff
on_offs = OnOff.Off ∷ OnOff.On ∷ OnOff.NoHandler ∷ []

abbrev pub on_off_found : ℕ → Result OnOff Reserved
on_off_found = found_in on_off_number on_offs
