-- The cluster's enums by their numbers, which `matter` states, and the on/off words.
use Rattle.std.specs.Prelude.{ℕ, List, [], ◌∷◌, Option, Some, None, option_and_then}
use Rattle.matter.specs.Numbers.{case_numbered, direction_number, directions, move_mode_number, move_modes}
use Rattle.matter.specs.Numbers.{step_mode_number, step_modes, loop_action_number, loop_actions, loop_direction_number}
use Rattle.matter.specs.Numbers.{loop_directions, color_mode_number, color_modes, enhanced_color_mode_number}
use Rattle.matter.specs.Numbers.{enhanced_color_modes}
use Rattle.matter.specs.declared.enums.ColorLoopActionEnum.{ColorLoopActionEnum}
use Rattle.matter.specs.declared.enums.ColorLoopDirectionEnum.{ColorLoopDirectionEnum}
use Rattle.matter.specs.declared.enums.ColorModeEnum.{ColorModeEnum}
use Rattle.matter.specs.declared.enums.DirectionEnum.{DirectionEnum}
use Rattle.matter.specs.declared.enums.EnhancedColorModeEnum.{EnhancedColorModeEnum}
use Rattle.matter.specs.declared.enums.MoveModeEnum.{MoveModeEnum}
use Rattle.matter.specs.declared.enums.OnOff.{OnOff}
use Rattle.matter.specs.declared.enums.StepModeEnum.{StepModeEnum}
use Rattle.text.specs.Numbers.{number_of}
use Rattle.text.specs.Readers.{Reader, Row, give, by_word, ◌means◌, by_name}

-- the case whose number is n, where one has it
abbrev pub case_of : {E : Type 0} → (E → ℕ) → List E → ℕ → Option E
case_of number cases n = case_numbered number (λ x. Some x) None cases n

-- the next word, as the number of a case
abbrev pub enum : {E : Type 0} → (ℕ → Option E) → Reader E
enum numbered = by_word (λ w. option_and_then numbered (number_of 255 w))

abbrev pub direction_at : Reader DirectionEnum
direction_at = enum (case_of direction_number directions)

abbrev pub move_mode_at : Reader MoveModeEnum
move_mode_at = enum (case_of move_mode_number move_modes)

abbrev pub step_mode_at : Reader StepModeEnum
step_mode_at = enum (case_of step_mode_number step_modes)

abbrev pub loop_action_at : Reader ColorLoopActionEnum
loop_action_at = enum (case_of loop_action_number loop_actions)

abbrev pub loop_direction_at : Reader ColorLoopDirectionEnum
loop_direction_at = enum (case_of loop_direction_number loop_directions)

abbrev pub color_mode_at : Reader ColorModeEnum
color_mode_at = enum (case_of color_mode_number color_modes)

abbrev pub enhanced_mode_at : Reader EnhancedColorModeEnum
enhanced_mode_at = enum (case_of enhanced_color_mode_number enhanced_color_modes)

-- `none`: no on/off handler
abbrev pub on_offs : List (Row OnOff)
on_offs = "on" means give OnOff.On ∷ "off" means give OnOff.Off ∷ "none" means give OnOff.NoHandler ∷ []

unfoldable pub on_off_at : Reader OnOff
on_off_at = by_name on_offs
