-- What stops a movement, and what does not stop a colour loop: Matter Application Cluster Specification, Color Control,
-- StopMoveStep, the Stop mode of the Move commands, and "Generic usage notes". Written from that text as known, what
-- stands in quotes too: no copy was at hand.
use Rattle.std.specs.Prelude.{Bool, true, false, not, cond, ◌≡◌}
use Rattle.tasks.specs.declared.Running.{Running}
use Rattle.tasks.specs.Runs.{runs}
use Rattle.lamp.specs.declared.Lamp.{Lamp}

-- "any [..] command currently in process SHALL be terminated. The values of the CurrentHue, EnhancedCurrentHue and
-- CurrentSaturation attributes SHALL be left at their present value upon receipt"
pub record Terminated (before after : Lamp) : Type 0 where
  pub still : runs after.running ≡ false
  pub hue : after.color.hue ≡ before.color.hue
  pub saturation : after.color.saturation ≡ before.color.saturation
  pub mireds : after.color.mireds ≡ before.color.mireds

-- ", and the RemainingTime attribute SHALL be set to zero"
abbrev pub NoTimeLeft : Lamp → Type 0
NoTimeLeft after = after.remaining.tenths ≡ 0

-- "This command has no effect on an active color loop": whether it stops anything
abbrev pub stop_takes_effect : Bool → Bool
stop_takes_effect color_loop_active = not color_loop_active

-- "If a color loop is active [..], it SHALL only be stopped by sending a specific ColorLoopSet command": whether the
-- loop turns
abbrev pub loop_turns : Running → Bool
loop_turns Running.Idle = false
loop_turns (Running.HueSaturationMoveTo run) = false
loop_turns (Running.HueMove run) = false
loop_turns (Running.SaturationMove run) = false
loop_turns (Running.ColorTemperatureMoveTo run) = false
loop_turns (Running.ColorTemperatureMove run) = false
loop_turns (Running.ColorLoop direction hue seconds start) = true

-- whether it turns after a stop
abbrev pub turns_after_stop : Bool → Bool → Bool
turns_after_stop color_loop_active turns = cond (stop_takes_effect color_loop_active) false turns
