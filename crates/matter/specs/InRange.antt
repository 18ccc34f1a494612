-- Numbers of a declared type fit its width, which a definition over ℕ does not know. These facts say so of a
-- command with its options; every one that a program holds has them.
use Rattle.std.specs.Prelude.{ℕ, ◌<◌, ◌^◌}
use Rattle.matter.specs.declared.limits.Bounds.{Bounds}
use Rattle.matter.specs.declared.commands.Command.{Command}
use Rattle.matter.specs.declared.commands.CommandOptions.{CommandOptions}
use Rattle.matter.specs.declared.commands.Request.{Request}

abbrev pub Byte : ℕ → Type 0
Byte n = n < 2 ^ 8

abbrev pub Short : ℕ → Type 0
Short n = n < 2 ^ 16

abbrev pub Long : ℕ → Type 0
Long n = n < 2 ^ 32

abbrev pub Clock : ℕ → Type 0
Clock n = n < 2 ^ 64

pub record InRangeBounds (bounds : Bounds) : Type 0 where
  pub min : Short bounds.min
  pub max : Short bounds.max

pub record InRangeOptions (options : CommandOptions) : Type 0 where
  pub mask : Byte options.mask
  pub overrides : Byte options.overrides

abbrev pub InRangeCommand : Command → Type 0
InRangeCommand (Command.MoveToHue hue direction time) = Byte hue × Short time
InRangeCommand (Command.MoveHue mode rate enhanced) = Byte rate
InRangeCommand (Command.StepHue mode size time) = Byte size × Short time
InRangeCommand (Command.MoveToSaturation saturation time) = Byte saturation × Short time
InRangeCommand (Command.MoveSaturation mode rate) = Byte rate
InRangeCommand (Command.StepSaturation mode size time) = Byte size × Short time
InRangeCommand (Command.MoveToHueAndSaturation hue saturation time enhanced enhanced_hue) =
    Byte hue × Byte saturation × Short time × Short enhanced_hue
InRangeCommand (Command.EnhancedMoveToHue hue direction time) = Short hue × Short time
InRangeCommand (Command.EnhancedMoveHue mode rate) = Short rate
InRangeCommand (Command.EnhancedStepHue mode size time) = Short size × Short time
InRangeCommand (Command.MoveToColorTemperature mireds time) = Short mireds × Short time
InRangeCommand (Command.MoveColorTemperature mode rate min max) = Short rate × Short min × Short max
InRangeCommand (Command.StepColorTemperature mode size time min max) =
    Short size × Short time × Short min × Short max
InRangeCommand (Command.ColorLoopSet flags action direction time start_hue) =
    Byte flags × Short time × Short start_hue
InRangeCommand Command.StopMoveStep = Unit {0}

pub record InRangeRequest (request : Request) : Type 0 where
  pub options : InRangeOptions request.options
  pub command : InRangeCommand request.command
