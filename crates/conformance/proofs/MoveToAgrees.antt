-- The task of a move to a hue does what the text asks, for all hues, directions and times. What a lamp shows in a
-- move-to stands in ShownAgrees.
use Rattle.std.specs.Prelude.{Option, Some, None}
use Prim.Native.Nat.{ℕ, ◌*◌, ◌-◌, ◌≤◌, ◌<◌}
use mathlib.Core.Bool.{Bool, true, false}
use mathlib.Core.Path.{◌≡◌, refl}
use native.Mathlib.Omega.{arith}
use lib.IntN.{ℤ}
use Rattle.matter.specs.declared.commands.CommandOptions.{CommandOptions}
use Rattle.matter.specs.declared.commands.Command.{Command}
use Rattle.matter.specs.declared.enums.DirectionEnum.{DirectionEnum}
use Rattle.hue.specs.Hue.{path_delta, moved_hue}
use Rattle.hue.proofs.Laws.{arrives}
use Rattle.tasks.specs.declared.Task.{Task}
use Rattle.lamp.specs.declared.Lamp.{Lamp}
use Rattle.remaining_time.specs.RemainingTime.{new_tenths}
use Rattle.commands.specs.Commands.{command_effect, stored}
use Rattle.conformance.specs.Directions.{enhanced_circle}
use Rattle.conformance.proofs.DirectionsAgree.{directions-agree}
use Rattle.conformance.specs.MoveTo.{MovesToHue}

-- what a task moves to: its way leads there, as asked, and it ends there
pub record Does (circle from to : ℕ) (direction : DirectionEnum) (transition_time : ℕ) (enhanced : Bool) (task : Option Task) : Type 0 where
  pub way : ℤ
  pub time : ℕ
  pub given : task ≡ Some (Task.HueSaturationMoveTo (record { delta = Some way; saturation = None; ms = time; enhanced = enhanced }))
  pub asked : MovesToHue circle from to direction transition_time way time
  pub arrived : moved_hue from way ≡ to

module _ (l : Lamp) (direction : DirectionEnum) (time : ℕ) (options : CommandOptions) (hf : l.color.hue < 65536) where
  pub enhanced-move-agrees : (hue : ℕ) → hue < 65536 → Does enhanced_circle l.color.hue hue direction time true (command_effect l (Command.EnhancedMoveToHue hue direction time)).task
  unfolding command_effect
  enhanced-move-agrees hue h =
      record {
        way = path_delta l.color.hue hue direction;
        time = time * 100;
        given = refl;
        asked = record { goes = directions-agree l.color.hue hue hf h direction; takes = refl };
        arrived = arrives l.color.hue hue direction hf h;
      }

  -- a plain hue is moved to on the same circle, 256 places for each of its own
  pub plain-move-agrees : (hue : ℕ) → hue ≤ 254 → Does enhanced_circle l.color.hue (stored hue) direction time false (command_effect l (Command.MoveToHue hue direction time)).task
  unfolding command_effect
  plain-move-agrees hue h =
      record {
        way = path_delta l.color.hue (stored hue) direction;
        time = time * 100;
        given = refl;
        asked = record { goes = directions-agree l.color.hue (stored hue) hf (omega arith) direction; takes = refl };
        arrived = arrives l.color.hue (stored hue) direction hf (omega arith);
      }

-- ---- the remaining time

-- a time that the text has leaves a remaining time that it has: "max 65534"
pub remaining-in-range : (time e : ℕ) → time ≤ 65534 → new_tenths (time * 100 - e) ≤ 65534
remaining-in-range time e h = omega arith

-- and the port's longest does not: the smallest is 65,535 tenths
pub remaining-differs : new_tenths (65535 * 100) ≡ 65535
remaining-differs = refl
