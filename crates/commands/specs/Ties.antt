-- Document 02, A.6: where notice 18 is reported, as statements about every call.
use Rattle.std.specs.Prelude.{ℕ, Bool, true, false, cond, ◌&&◌, ◌∷◌, ◌≡◌, get_or}
use Rattle.matter.specs.declared.commands.Command.{Command}
use Rattle.matter.specs.declared.enums.DirectionEnum.{DirectionEnum}
use Rattle.std.specs.Prelude.{is_ok}
use Rattle.notices.specs.Names.{task_given, hue_tie}
use Rattle.notices.specs.Notices.{only, noted}
use Rattle.hue.specs.Hue.{is_tie}
use Rattle.lamp.specs.declared.Call.{Call}
use Rattle.lamp.specs.declared.Lamp.{Lamp}
use Rattle.commands.specs.Commands.{stored}
use Rattle.commands.specs.Answers.{allowed, cause, answer}

-- to a stored hue by a direction, or to no hue
pub data Aim : Type 0 where
  toward : ℕ → DirectionEnum → Aim
  nowhere : Aim

-- "All move-to-hue commands, those with saturation too" (which go by Shortest)
abbrev pub aim_of : Command → Aim
aim_of (Command.MoveToHue hue direction time) = toward (stored hue) direction
aim_of (Command.MoveHue mode rate enhanced) = nowhere
aim_of (Command.StepHue mode size time) = nowhere
aim_of (Command.MoveToSaturation saturation time) = nowhere
aim_of (Command.MoveSaturation mode rate) = nowhere
aim_of (Command.StepSaturation mode size time) = nowhere
aim_of (Command.MoveToHueAndSaturation hue saturation time enhanced enhanced_hue) =
    toward (cond enhanced enhanced_hue (stored hue)) DirectionEnum.Shortest
aim_of (Command.EnhancedMoveToHue hue direction time) = toward hue direction
aim_of (Command.EnhancedMoveHue mode rate) = nowhere
aim_of (Command.EnhancedStepHue mode size time) = nowhere
aim_of (Command.MoveToColorTemperature mireds time) = nowhere
aim_of (Command.MoveColorTemperature mode rate min max) = nowhere
aim_of (Command.StepColorTemperature mode size time min max) = nowhere
aim_of (Command.ColorLoopSet flags action direction time start_hue) = nowhere
aim_of Command.StopMoveStep = nowhere

-- the aim of a command that is accepted and may execute; no other call has one
abbrev pub aim : Lamp → Call → Aim
aim l (Call.Command r on_off clock) =
    cond (is_ok (cause l (Call.Command r on_off clock)) && allowed l r on_off) (aim_of r.command) nowhere
aim l (Call.Start task clock) = nowhere
aim l (Call.Step clock) = nowhere
aim l (Call.Halt clock) = nowhere
aim l (Call.SetBounds bounds clock) = nowhere

abbrev pub aim_ties : ℕ → Aim → Bool
aim_ties current (toward target direction) = is_tie current target direction
aim_ties current nowhere = false

pub record Ties (l : Lamp) (x : Call) : Type 0 where
  -- "notice 18 follows 17": where the aim ties; else the list is 17, as it was before
  pub follows :
      (target : ℕ) (direction : DirectionEnum) → aim l x ≡ toward target direction
      → (answer l x).notices ≡ noted (task_given ∷ only (is_tie l.color.hue target direction) hue_tie)
  -- "and comes in no other case": whichever of the sixteen places has 18
  pub alone :
      (place : ℕ) → get_or (answer l x).notices.places place 0 ≡ hue_tie → aim_ties l.color.hue (aim l x) ≡ true
