-- What a command asks of the hue, the saturation and the mireds: Matter Application Cluster Specification, Color
-- Control, "Effect on receipt" of the commands that move a number. Written from that text as known, what stands in
-- quotes too: no copy was at hand. A hue is EnhancedCurrentHue's; a time that has passed is in milliseconds.
use Rattle.std.specs.Prelude.{ℕ, ◌*◌, ◌≤◌, ◌<◌, Bool, true, false, cond, ◌≡◌, ℤ, pos, negsuc, nat_abs}
use Rattle.matter.specs.declared.limits.Bounds.{Bounds}
use Rattle.matter.specs.declared.commands.Command.{Command}
use Rattle.matter.specs.declared.enums.DirectionEnum.{DirectionEnum}
use Rattle.matter.specs.declared.enums.StepModeEnum.{StepModeEnum}
use Rattle.color.specs.declared.Color.{Color}
use Rattle.conformance.specs.Directions.{enhanced_circle, Goes}
use Rattle.conformance.specs.Limits.{Allowed, Closest}
use Rattle.conformance.specs.Steps.{enhanced_hue_maximum, saturation_maximum, steps_made, step_to, move_to, hue_step_to}
use Rattle.conformance.specs.Steps.{hue_move_to}
use Rattle.conformance.specs.Transition.{milliseconds}

-- a unit of CurrentHue, the upper byte, is 256 of EnhancedCurrentHue's, in a hue, in a size and in a rate
abbrev pub places : Bool → ℕ → ℕ
places enhanced units = units * cond enhanced 1 256

-- ---- "the time taken to move to the new [..] SHALL be equal to the TransitionTime field"

-- a number that goes from one to another in this time: at its start it is the first, and from its time on the second
pub record Reaches (from to time elapsed now : ℕ) : Type 0 where
  pub begins : elapsed ≡ 0 → 0 < time → now ≡ from
  pub ends : time ≤ elapsed → now ≡ to

-- a hue that goes so many places up or down: it is on this way all the time
pub record Goes-by (mode : StepModeEnum) (size time elapsed from now : ℕ) : Type 0 where
  pub units : ℕ
  pub on : now ≡ hue_step_to mode enhanced_hue_maximum units from
  pub within : units ≤ size
  pub reaches : Reaches 0 size time elapsed units

-- a way is up or down
abbrev pub sense : ℤ → StepModeEnum
sense (pos n) = StepModeEnum.Up
sense (negsuc n) = StepModeEnum.Down

-- a hue that goes the way that leads from the hue on receipt to the new one, as the direction says
pub record Goes-to (direction : DirectionEnum) (received to time elapsed from now : ℕ) : Type 0 where
  pub way : ℤ
  pub goes : Goes enhanced_circle direction received to way
  pub moves : Goes-by (sense way) (nat_abs way) time elapsed from now

-- ---- mireds

-- the smallest and the largest that a move or a step may reach
pub record Ends (bounds : Bounds) (minimum maximum least most : ℕ) : Type 0 where
  pub smallest : Allowed bounds minimum maximum least
  pub largest : Allowed bounds minimum maximum most
  pub between : (n : ℕ) → Allowed bounds minimum maximum n → (least ≤ n) × (n ≤ most)

-- from within them, so
abbrev pub Within : Bounds → ℕ → ℕ → ℕ → (ℕ → ℕ → Type 0) → Type 0
Within bounds minimum maximum mireds So =
    (least most : ℕ) → Ends bounds minimum maximum least most → Allowed bounds minimum maximum mireds → So least most

-- "as close as possible to that requested"
pub record Goes-near (bounds : Bounds) (requested time elapsed from now : ℕ) : Type 0 where
  pub selected : ℕ
  pub closest : Closest bounds.min bounds.max requested selected
  pub reaches : Reaches from selected time elapsed now

-- ---- the commands

-- what becomes of each of the three numbers
pub record Each (Hue Saturation Mireds : Type 0) : Type 0 where
  pub hue : Hue
  pub saturation : Saturation
  pub mireds : Mireds

-- one of them moves, and the others stay
abbrev pub HueAlone : Color → Color → (ℕ → ℕ → Type 0) → Type 0
HueAlone from now So =
    Each (So from.hue now.hue) (now.saturation ≡ from.saturation) (now.mireds ≡ from.mireds)

abbrev pub SaturationAlone : Color → Color → (ℕ → ℕ → Type 0) → Type 0
SaturationAlone from now So =
    Each (now.hue ≡ from.hue) (So from.saturation now.saturation) (now.mireds ≡ from.mireds)

abbrev pub MiredsAlone : Color → Color → (ℕ → ℕ → Type 0) → Type 0
MiredsAlone from now So =
    Each (now.hue ≡ from.hue) (now.saturation ≡ from.saturation) (So from.mireds now.mireds)

-- the commands that move a number
abbrev pub moves : Command → Bool
moves (Command.MoveToHue hue direction time) = true
moves (Command.MoveHue mode rate enhanced) = true
moves (Command.StepHue mode size time) = true
moves (Command.MoveToSaturation saturation time) = true
moves (Command.MoveSaturation mode rate) = true
moves (Command.StepSaturation mode size time) = true
moves (Command.MoveToHueAndSaturation hue saturation time enhanced enhanced_hue) = true
moves (Command.EnhancedMoveToHue hue direction time) = true
moves (Command.EnhancedMoveHue mode rate) = true
moves (Command.EnhancedStepHue mode size time) = true
moves (Command.MoveToColorTemperature mireds time) = true
moves (Command.MoveColorTemperature mode rate min max) = true
moves (Command.StepColorTemperature mode size time min max) = true
moves (Command.ColorLoopSet flags action direction time start_hue) = false
moves Command.StopMoveStep = false

-- the device's bounds, the numbers on receipt, the command; the time since its movement began, the numbers then, and
-- now. In the text it begins on receipt. MoveToHueAndSaturation has no Direction field: the text does not fix its way,
-- and recommends the shortest path. The moves at a rate are not in Stop mode
abbrev pub OnReceipt : Bounds → Color → Command → ℕ → Color → Color → Type 0
OnReceipt bounds received (Command.MoveToHue hue direction time) elapsed from now =
    HueAlone from now (Goes-to direction received.hue (places false hue) (milliseconds time) elapsed)
OnReceipt bounds received (Command.MoveHue mode rate enhanced) elapsed from now =
    HueAlone from now (λ a b. b ≡ hue_move_to mode enhanced_hue_maximum (steps_made (places enhanced rate) elapsed) a)
OnReceipt bounds received (Command.StepHue mode size time) elapsed from now =
    HueAlone from now (Goes-by mode (places false size) (milliseconds time) elapsed)
OnReceipt bounds received (Command.MoveToSaturation saturation time) elapsed from now =
    SaturationAlone from now (λ a b. Reaches a saturation (milliseconds time) elapsed b)
OnReceipt bounds received (Command.MoveSaturation mode rate) elapsed from now =
    SaturationAlone from now (λ a b. b ≡ move_to mode 0 saturation_maximum (steps_made rate elapsed) a)
OnReceipt bounds received (Command.StepSaturation mode size time) elapsed from now =
    SaturationAlone from now
    (λ a b. Reaches a (step_to mode 0 saturation_maximum size received.saturation) (milliseconds time) elapsed b)
OnReceipt bounds received (Command.MoveToHueAndSaturation hue saturation time enhanced enhanced_hue) elapsed from now =
    Each
    (Goes-to DirectionEnum.Shortest received.hue (cond enhanced enhanced_hue (places false hue))
    (milliseconds time) elapsed from.hue now.hue)
    (Reaches from.saturation saturation (milliseconds time) elapsed now.saturation)
    (now.mireds ≡ from.mireds)
OnReceipt bounds received (Command.EnhancedMoveToHue hue direction time) elapsed from now =
    HueAlone from now (Goes-to direction received.hue hue (milliseconds time) elapsed)
OnReceipt bounds received (Command.EnhancedMoveHue mode rate) elapsed from now =
    HueAlone from now (λ a b. b ≡ hue_move_to mode enhanced_hue_maximum (steps_made rate elapsed) a)
OnReceipt bounds received (Command.EnhancedStepHue mode size time) elapsed from now =
    HueAlone from now (Goes-by mode size (milliseconds time) elapsed)
OnReceipt bounds received (Command.MoveToColorTemperature mireds time) elapsed from now =
    MiredsAlone from now (Goes-near bounds mireds (milliseconds time) elapsed)
OnReceipt bounds received (Command.MoveColorTemperature mode rate min max) elapsed from now =
    Within bounds min max from.mireds
    (λ least most. MiredsAlone from now (λ a b. b ≡ move_to mode least most (steps_made rate elapsed) a))
OnReceipt bounds received (Command.StepColorTemperature mode size time min max) elapsed from now =
    Within bounds min max received.mireds
    (λ least most. MiredsAlone from now
    (λ a b. Reaches a (step_to mode least most size received.mireds) (milliseconds time) elapsed b))
OnReceipt bounds received (Command.ColorLoopSet flags action direction time start_hue) elapsed from now = Unit
OnReceipt bounds received Command.StopMoveStep elapsed from now = Unit
