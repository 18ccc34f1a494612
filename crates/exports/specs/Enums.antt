-- The cluster's enums by their numbers, which `matter` states: the case that a number has, and whether one has it. A
-- number that no case has is read as the case that stands here.
use Rattle.std.specs.Prelude.{ℕ, Bool, List, is_ok}
use Rattle.std.specs.Result.{result_unwrap_or}
use Rattle.matter.specs.Numbers.{found_in, direction_number, directions, move_mode_number, move_modes, step_mode_number}
use Rattle.matter.specs.Numbers.{step_modes, loop_action_number, loop_actions, loop_direction_number, loop_directions}
use Rattle.matter.specs.Numbers.{color_mode_number, color_modes, enhanced_color_mode_number, enhanced_color_modes}
use Rattle.matter.specs.Numbers.{on_off_number, on_offs}
use Rattle.matter.specs.declared.enums.DirectionEnum.{DirectionEnum}
use Rattle.matter.specs.declared.enums.MoveModeEnum.{MoveModeEnum}
use Rattle.matter.specs.declared.enums.StepModeEnum.{StepModeEnum}
use Rattle.matter.specs.declared.enums.ColorLoopActionEnum.{ColorLoopActionEnum}
use Rattle.matter.specs.declared.enums.ColorLoopDirectionEnum.{ColorLoopDirectionEnum}
use Rattle.matter.specs.declared.enums.ColorModeEnum.{ColorModeEnum}
use Rattle.matter.specs.declared.enums.EnhancedColorModeEnum.{EnhancedColorModeEnum}
use Rattle.matter.specs.declared.enums.OnOff.{OnOff}

-- of the cases with these numbers, the one that has the number, or the reserved one
unfoldable pub read_of : {E : Type 0} → (E → ℕ) → List E → E → ℕ → E
read_of number cases reserved n = result_unwrap_or (found_in number cases n) reserved

-- whether one has it
unfoldable pub known_of : {E : Type 0} → (E → ℕ) → List E → ℕ → Bool
known_of number cases n = is_ok (found_in number cases n)

-- DirectionEnum
abbrev pub direction_read : ℕ → DirectionEnum
direction_read = read_of direction_number directions DirectionEnum.Shortest

abbrev pub direction_known : ℕ → Bool
direction_known = known_of direction_number directions

-- MoveModeEnum
abbrev pub move_mode_read : ℕ → MoveModeEnum
move_mode_read = read_of move_mode_number move_modes MoveModeEnum.Stop

abbrev pub move_mode_known : ℕ → Bool
move_mode_known = known_of move_mode_number move_modes

-- StepModeEnum
abbrev pub step_mode_read : ℕ → StepModeEnum
step_mode_read = read_of step_mode_number step_modes StepModeEnum.Down

abbrev pub step_mode_known : ℕ → Bool
step_mode_known = known_of step_mode_number step_modes

-- ColorLoopActionEnum
abbrev pub loop_action_read : ℕ → ColorLoopActionEnum
loop_action_read = read_of loop_action_number loop_actions ColorLoopActionEnum.Deactivate

abbrev pub loop_action_known : ℕ → Bool
loop_action_known = known_of loop_action_number loop_actions

-- ColorLoopDirectionEnum
abbrev pub loop_direction_read : ℕ → ColorLoopDirectionEnum
loop_direction_read = read_of loop_direction_number loop_directions ColorLoopDirectionEnum.Decrement

abbrev pub loop_direction_known : ℕ → Bool
loop_direction_known = known_of loop_direction_number loop_directions

-- ColorModeEnum
abbrev pub color_mode_read : ℕ → ColorModeEnum
color_mode_read = read_of color_mode_number color_modes ColorModeEnum.CurrentHueAndCurrentSaturation

abbrev pub color_mode_known : ℕ → Bool
color_mode_known = known_of color_mode_number color_modes

-- EnhancedColorModeEnum
abbrev pub enhanced_mode_read : ℕ → EnhancedColorModeEnum
enhanced_mode_read =
    read_of enhanced_color_mode_number enhanced_color_modes EnhancedColorModeEnum.CurrentHueAndCurrentSaturation

abbrev pub enhanced_mode_known : ℕ → Bool
enhanced_mode_known = known_of enhanced_color_mode_number enhanced_color_modes

-- OnOff
abbrev pub on_off_read : ℕ → OnOff
on_off_read = read_of on_off_number on_offs OnOff.Off

abbrev pub on_off_known : ℕ → Bool
on_off_known = known_of on_off_number on_offs
