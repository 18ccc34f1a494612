-- Steps and moves, by one unit at a time: Matter Application Cluster Specification, Color Control, "Effect on receipt"
-- of MoveHue, StepHue, MoveSaturation, StepSaturation, EnhancedMoveHue, EnhancedStepHue, MoveColorTemperature,
-- StepColorTemperature. Written from that text as known, what stands in quotes too: no copy was at hand.
use Rattle.std.specs.Prelude.{ℕ, zero, suc, ◌+◌, ◌-◌, ◌*◌, ◌/◌, cond, leb, eqb}
use Rattle.matter.specs.declared.enums.MoveModeEnum.{MoveModeEnum}
use Rattle.matter.specs.declared.enums.StepModeEnum.{StepModeEnum}

-- so many times
abbrev pub times : ℕ → (ℕ → ℕ) → ℕ → ℕ
times zero change n = n
times (suc k) change n = change (times k change n)

-- "If the saturation reaches the maximum allowed for the device, stop", and so for the mireds
unfoldable pub unit_up : ℕ → ℕ → ℕ
unit_up maximum n = cond (leb maximum n) n (n + 1)

-- "If the saturation reaches the minimum allowed for the device, stop"
unfoldable pub unit_down : ℕ → ℕ → ℕ
unit_down minimum n = cond (leb n minimum) n (n - 1)

-- "If the hue reaches the maximum allowed for the device, then wrap": it goes on from the minimum
unfoldable pub hue_up : ℕ → ℕ → ℕ
hue_up maximum n = cond (eqb n maximum) 0 (n + 1)

unfoldable pub hue_down : ℕ → ℕ → ℕ
hue_down maximum n = cond (eqb n 0) maximum (n - 1)

-- the largest EnhancedCurrentHue, CurrentHue, CurrentSaturation
abbrev pub enhanced_hue_maximum : ℕ
enhanced_hue_maximum = 65535

abbrev pub hue_maximum : ℕ
hue_maximum = 254

abbrev pub saturation_maximum : ℕ
saturation_maximum = 254

-- "Rate: the rate of movement in steps per second. A step is a change of one unit": the steps made in so many
-- milliseconds
abbrev pub steps_made : ℕ → ℕ → ℕ
steps_made rate elapsed = rate * elapsed / 1000

-- so many units of saturation or mireds, between these bounds
abbrev pub step_to : StepModeEnum → ℕ → ℕ → ℕ → ℕ → ℕ
step_to StepModeEnum.Up minimum maximum units n = times units (unit_up maximum) n
step_to StepModeEnum.Down minimum maximum units n = times units (unit_down minimum) n

-- "Stop: If moving, stop", "Up: increase [..] at the rate given in the Rate field", "Down: decrease"
abbrev pub move_to : MoveModeEnum → ℕ → ℕ → ℕ → ℕ → ℕ
move_to MoveModeEnum.Stop minimum maximum units n = n
move_to MoveModeEnum.Up minimum maximum units n = times units (unit_up maximum) n
move_to MoveModeEnum.Down minimum maximum units n = times units (unit_down minimum) n

-- the same of a hue, which wraps
abbrev pub hue_step_to : StepModeEnum → ℕ → ℕ → ℕ → ℕ
hue_step_to StepModeEnum.Up maximum units n = times units (hue_up maximum) n
hue_step_to StepModeEnum.Down maximum units n = times units (hue_down maximum) n

abbrev pub hue_move_to : MoveModeEnum → ℕ → ℕ → ℕ → ℕ
hue_move_to MoveModeEnum.Stop maximum units n = n
hue_move_to MoveModeEnum.Up maximum units n = times units (hue_up maximum) n
hue_move_to MoveModeEnum.Down maximum units n = times units (hue_down maximum) n
