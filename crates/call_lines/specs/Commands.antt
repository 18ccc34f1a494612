-- The commands by their names, each with its arguments.
use Rattle.std.specs.Prelude.{ℕ, List, [], ◌∷◌}
use Rattle.matter.specs.declared.commands.Command.{Command}
use Rattle.matter.specs.declared.commands.CommandOptions.{CommandOptions}
use Rattle.text.specs.Readers.{Reader, give, ◌then◌, number8, number16, flag, Row, ◌means◌, named, unknown}
use Rattle.lamp_lines.specs.Enums.{direction_at, move_mode_at, step_mode_at, loop_action_at, loop_direction_at}

-- <mask> <override>
unfoldable pub options_at : Reader CommandOptions
options_at = give (λ mask overrides. record { mask = mask; overrides = overrides }) then number8 then number8

-- <hue> <direction> <tenths>
unfoldable pub move_to_hue_at : Reader Command
move_to_hue_at = give Command.MoveToHue then number8 then direction_at then number16

-- <mode> <rate> <enhanced>
unfoldable pub move_hue_at : Reader Command
move_hue_at = give Command.MoveHue then move_mode_at then number8 then flag

-- <mode> <step> <tenths>
unfoldable pub step_hue_at : Reader Command
step_hue_at = give Command.StepHue then step_mode_at then number8 then number16

-- <hue> <direction> <tenths>
unfoldable pub enhanced_move_to_hue_at : Reader Command
enhanced_move_to_hue_at = give Command.EnhancedMoveToHue then number16 then direction_at then number16

-- <mode> <rate>
unfoldable pub enhanced_move_hue_at : Reader Command
enhanced_move_hue_at = give Command.EnhancedMoveHue then move_mode_at then number16

-- <mode> <step> <tenths>
unfoldable pub enhanced_step_hue_at : Reader Command
enhanced_step_hue_at = give Command.EnhancedStepHue then step_mode_at then number16 then number16

-- <saturation> <tenths>
unfoldable pub move_to_saturation_at : Reader Command
move_to_saturation_at = give Command.MoveToSaturation then number8 then number16

-- <mode> <rate>
unfoldable pub move_saturation_at : Reader Command
move_saturation_at = give Command.MoveSaturation then move_mode_at then number8

-- <mode> <step> <tenths>
unfoldable pub step_saturation_at : Reader Command
step_saturation_at = give Command.StepSaturation then step_mode_at then number8 then number16

-- <hue> <saturation> <tenths> <enhanced> <enhanced_hue>
unfoldable pub move_to_hue_and_saturation_at : Reader Command
move_to_hue_and_saturation_at =
    give Command.MoveToHueAndSaturation then number8 then number8 then number16 then flag then number16

-- <mireds> <tenths>
unfoldable pub move_to_color_temperature_at : Reader Command
move_to_color_temperature_at = give Command.MoveToColorTemperature then number16 then number16

-- <mode> <rate> <min> <max>
unfoldable pub move_color_temperature_at : Reader Command
move_color_temperature_at =
    give Command.MoveColorTemperature then move_mode_at then number16 then number16 then number16

-- <mode> <step> <tenths> <min> <max>
unfoldable pub step_color_temperature_at : Reader Command
step_color_temperature_at =
    give Command.StepColorTemperature then step_mode_at then number16 then number16 then number16 then number16

-- <flags> <action> <direction> <seconds> <start_hue>
unfoldable pub color_loop_set_at : Reader Command
color_loop_set_at =
    give Command.ColorLoopSet then number8 then loop_action_at then loop_direction_at then number16 then number16

abbrev pub commands : List (Row Command)
commands =
    "move_to_hue" means move_to_hue_at
    ∷ "move_hue" means move_hue_at
    ∷ "step_hue" means step_hue_at
    ∷ "enhanced_move_to_hue" means enhanced_move_to_hue_at
    ∷ "enhanced_move_hue" means enhanced_move_hue_at
    ∷ "enhanced_step_hue" means enhanced_step_hue_at
    ∷ "move_to_hue_and_saturation" means move_to_hue_and_saturation_at
    ∷ "move_to_saturation" means move_to_saturation_at
    ∷ "move_saturation" means move_saturation_at
    ∷ "step_saturation" means step_saturation_at
    ∷ "move_to_color_temperature" means move_to_color_temperature_at
    ∷ "move_color_temperature" means move_color_temperature_at
    ∷ "step_color_temperature" means step_color_temperature_at
    ∷ "color_loop_set" means color_loop_set_at
    ∷ "stop_move_step" means give Command.StopMoveStep
    ∷ []

-- the command of a name, with its arguments behind it
unfoldable pub command_at : List ℕ → Reader Command
command_at = named commands unknown
