-- What a command's fields may hold, and which commands are invalid: Matter Application Cluster Specification, Color
-- Control, the tables of fields of the commands, and their "Effect on receipt". Written from that text as known, what
-- stands in quotes too: no copy was at hand. A field out of its constraint is answered with CONSTRAINT_ERROR.
use Rattle.std.specs.Prelude.{ℕ, Bool, true, false, cond, ◌&&◌, List, [], ◌∷◌, leb, eqb}
use Rattle.matter.specs.declared.commands.Command.{Command}
use Rattle.matter.specs.declared.enums.MoveModeEnum.{MoveModeEnum}

-- a number's smallest and largest
abbrev pub between : ℕ → ℕ → ℕ → Bool
between least most n = leb least n && leb n most

-- Hue and Saturation, uint8: "max 254"
abbrev pub hue_field : ℕ → Bool
hue_field n = between 0 254 n

abbrev pub saturation_field : ℕ → Bool
saturation_field n = between 0 254 n

-- EnhancedHue, StartHue, Time and the sizes and rates of two bytes: any uint16
abbrev pub word_field : ℕ → Bool
word_field n = between 0 65535 n

-- rates and sizes of one byte: any uint8
abbrev pub byte_field : ℕ → Bool
byte_field n = between 0 255 n

-- TransitionTime, uint16: "max 65534"
abbrev pub time_field : ℕ → Bool
time_field n = between 0 65534 n

-- TransitionTime of StepHue and StepSaturation: uint8
abbrev pub step_time_field : ℕ → Bool
step_time_field n = between 0 255 n

-- ColorTemperatureMireds: 1 to 65,279 (0 and what lies above are reserved)
abbrev pub mireds_field : ℕ → Bool
mireds_field n = between 1 65279 n

-- ColorTemperatureMinimumMireds, ColorTemperatureMaximumMireds: "max 65279", and 0 stands for the physical bound
abbrev pub limit_field : ℕ → Bool
limit_field n = between 0 65279 n

-- every field is as its table has it
abbrev pub every : List Bool → Bool
every [] = true
every (b ∷ bs) = b && every bs

-- the fields of each command. The two commands MoveToHueAndSaturation and EnhancedMoveToHueAndSaturation are one here,
-- as in the port: the first has the field Hue, the second EnhancedHue
unfoldable pub fields_good : Command → Bool
fields_good (Command.MoveToHue hue direction time) = every (hue_field hue ∷ time_field time ∷ [])
fields_good (Command.MoveHue mode rate enhanced) = every (byte_field rate ∷ [])
fields_good (Command.StepHue mode size time) = every (byte_field size ∷ step_time_field time ∷ [])
fields_good (Command.MoveToSaturation saturation time) = every (saturation_field saturation ∷ time_field time ∷ [])
fields_good (Command.MoveSaturation mode rate) = every (byte_field rate ∷ [])
fields_good (Command.StepSaturation mode size time) = every (byte_field size ∷ step_time_field time ∷ [])
fields_good (Command.MoveToHueAndSaturation hue saturation time enhanced enhanced_hue) =
    every (cond enhanced (word_field enhanced_hue) (hue_field hue) ∷ saturation_field saturation ∷ time_field time ∷ [])
fields_good (Command.EnhancedMoveToHue hue direction time) = every (word_field hue ∷ time_field time ∷ [])
fields_good (Command.EnhancedMoveHue mode rate) = every (word_field rate ∷ [])
fields_good (Command.EnhancedStepHue mode size time) = every (word_field size ∷ time_field time ∷ [])
fields_good (Command.MoveToColorTemperature mireds time) = every (mireds_field mireds ∷ time_field time ∷ [])
fields_good (Command.MoveColorTemperature mode rate min max) =
    every (word_field rate ∷ limit_field min ∷ limit_field max ∷ [])
fields_good (Command.StepColorTemperature mode size time min max) =
    every (word_field size ∷ time_field time ∷ limit_field min ∷ limit_field max ∷ [])
fields_good (Command.ColorLoopSet flags action direction time start_hue) =
    every (byte_field flags ∷ word_field time ∷ word_field start_hue ∷ [])
fields_good Command.StopMoveStep = every []

-- ---- INVALID_COMMAND

-- "If the MoveMode field is set to Up or Down and the Rate field has a value of zero, the command has no effect and a
-- response [..] with the status code set to INVALID_COMMAND. If the MoveMode field is set to Stop the Rate field SHALL
-- be ignored"
abbrev pub invalid_move : MoveModeEnum → ℕ → Bool
invalid_move MoveModeEnum.Stop rate = false
invalid_move MoveModeEnum.Up rate = eqb rate 0
invalid_move MoveModeEnum.Down rate = eqb rate 0

-- "A value of 0 [in StepSize] SHALL result in the command having no effect and INVALID_COMMAND"
abbrev pub invalid_step : ℕ → Bool
invalid_step size = eqb size 0

unfoldable pub invalid : Command → Bool
invalid (Command.MoveToHue hue direction time) = false
invalid (Command.MoveHue mode rate enhanced) = invalid_move mode rate
invalid (Command.StepHue mode size time) = invalid_step size
invalid (Command.MoveToSaturation saturation time) = false
invalid (Command.MoveSaturation mode rate) = invalid_move mode rate
invalid (Command.StepSaturation mode size time) = invalid_step size
invalid (Command.MoveToHueAndSaturation hue saturation time enhanced enhanced_hue) = false
invalid (Command.EnhancedMoveToHue hue direction time) = false
invalid (Command.EnhancedMoveHue mode rate) = invalid_move mode rate
invalid (Command.EnhancedStepHue mode size time) = invalid_step size
invalid (Command.MoveToColorTemperature mireds time) = false
invalid (Command.MoveColorTemperature mode rate min max) = invalid_move mode rate
invalid (Command.StepColorTemperature mode size time min max) = invalid_step size
invalid (Command.ColorLoopSet flags action direction time start_hue) = false
invalid Command.StopMoveStep = false
