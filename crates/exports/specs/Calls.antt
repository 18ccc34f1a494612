-- A call in ten words: its kind, the clock, the on/off number; then a command's mask, override and five arguments, a
-- task's kind and six numbers, or a new minimum and maximum.
use Rattle.std.specs.Prelude.{ℕ, Option, Some, None, Bool, cond, not, ◌&&◌, ◌||◌, List, leb, ltb, eqb, length}
use Rattle.matter.specs.declared.commands.Command.{Command}
use Rattle.matter.specs.declared.commands.Request.{Request}
use Rattle.matter.specs.Requests.{request, options}
use Rattle.lamp.specs.declared.Lamp.{Lamp}
use Rattle.lamp.specs.declared.Answer.{Answer}
use Rattle.lamp.specs.declared.NumberedAnswer.{NumberedAnswer}
use Rattle.lamp.specs.Answers.{numbered, numbered_answer}
use Rattle.lamp.specs.declared.Call.{Call}
use Rattle.commands.specs.Answers.{answer}
use Rattle.exports.specs.declared.moves.TaskNumbers.{TaskNumbers}
use Rattle.exports.specs.declared.calls.CommandNumbers.{CommandNumbers}
use Rattle.exports.specs.Kinds as K
use Rattle.exports.specs.Bounds.{bounds_of, bounds_fit}
use Rattle.exports.specs.Failures.{unreadable}
use Rattle.exports.specs.Words.{at, byte, short, flag}
use Rattle.exports.specs.Enums.{direction_read, move_mode_read, step_mode_read, loop_action_read, loop_direction_read}
use Rattle.exports.specs.Enums.{on_off_read, direction_known, move_mode_known, step_mode_known, loop_action_known}
use Rattle.exports.specs.Enums.{loop_direction_known, on_off_known}
use Rattle.exports.specs.Moves.{task_of, task_known}

-- ---- commands

abbrev is : CommandNumbers → ℕ → Bool
is n kind = eqb n.kind kind

unfoldable pub hue_command : CommandNumbers → Command
hue_command n =
    cond (is n K.move_to_hue) (Command.MoveToHue (byte n.a) (direction_read n.b) (short n.c))
    (cond (is n K.move_hue) (Command.MoveHue (move_mode_read n.a) (byte n.b) (flag n.c))
    (Command.StepHue (step_mode_read n.a) (byte n.b) (short n.c)))

unfoldable pub saturation_command : CommandNumbers → Command
saturation_command n =
    cond (is n K.move_to_saturation) (Command.MoveToSaturation (byte n.a) (short n.b))
    (cond (is n K.move_saturation) (Command.MoveSaturation (move_mode_read n.a) (byte n.b))
    (cond (is n K.step_saturation) (Command.StepSaturation (step_mode_read n.a) (byte n.b) (short n.c))
    (Command.MoveToHueAndSaturation (byte n.a) (byte n.b) (short n.c) (flag n.d) (short n.e))))

unfoldable pub enhanced_command : CommandNumbers → Command
enhanced_command n =
    cond (is n K.enhanced_move_to_hue) (Command.EnhancedMoveToHue (short n.a) (direction_read n.b) (short n.c))
    (cond (is n K.enhanced_move_hue) (Command.EnhancedMoveHue (move_mode_read n.a) (short n.b))
    (Command.EnhancedStepHue (step_mode_read n.a) (short n.b) (short n.c)))

unfoldable pub mireds_command : CommandNumbers → Command
mireds_command n =
    cond (is n K.move_to_color_temperature) (Command.MoveToColorTemperature (short n.a) (short n.b))
    (cond (is n K.move_color_temperature)
    (Command.MoveColorTemperature (move_mode_read n.a) (short n.b) (short n.c) (short n.d))
    (Command.StepColorTemperature (step_mode_read n.a) (short n.b) (short n.c) (short n.d) (short n.e)))

unfoldable pub loop_command : CommandNumbers → Command
loop_command n =
    Command.ColorLoopSet (byte n.a) (loop_action_read n.b) (loop_direction_read n.c) (short n.d) (short n.e)

unfoldable pub command_of : CommandNumbers → Command
command_of n =
    cond (leb n.kind K.step_hue) (hue_command n)
    (cond (leb n.kind K.move_to_hue_and_saturation) (saturation_command n)
    (cond (is n K.color_loop_set) (loop_command n)
    (cond (is n K.stop_move_step) Command.StopMoveStep
    (cond (leb K.enhanced_move_to_hue n.kind && leb n.kind K.enhanced_step_hue) (enhanced_command n)
    (mireds_command n)))))

unfoldable pub request_of : CommandNumbers → Request
request_of n = request (command_of n) (options (byte n.mask) (byte n.overrides))

-- each argument is within its field: sixteen bits at most, eight for some, 0 or 1 for a flag
unfoldable pub command_fits : CommandNumbers → Bool
command_fits n =
    leb n.mask 255 && leb n.overrides 255
    && leb n.a 65535
    && leb n.b 65535
    && leb n.c 65535
    && leb n.d 65535
    && leb n.e 65535
    && (not (is n K.move_to_hue || is n K.move_to_saturation || is n K.move_to_hue_and_saturation
    || is n K.color_loop_set) || leb n.a 255)
    && (not (is n K.move_hue || is n K.step_hue || is n K.move_saturation || is n K.step_saturation
    || is n K.move_to_hue_and_saturation) || leb n.b 255)
    && (not (is n K.move_hue) || leb n.c 1)
    && (not (is n K.move_to_hue_and_saturation) || leb n.d 1)

-- which can be read: the kind exists, the enums' numbers do, and each argument is within its field
unfoldable pub command_known : CommandNumbers → Bool
command_known n =
    command_fits n
    && (((is n K.move_to_hue || is n K.enhanced_move_to_hue) && direction_known n.b)
    || ((is n K.move_hue || is n K.move_saturation || is n K.enhanced_move_hue || is n K.move_color_temperature)
    && move_mode_known n.a)
    || ((is n K.step_hue || is n K.step_saturation || is n K.enhanced_step_hue || is n K.step_color_temperature)
    && step_mode_known n.a)
    || is n K.move_to_saturation || is n K.move_to_hue_and_saturation || is n K.move_to_color_temperature
    || is n K.stop_move_step
    || (is n K.color_loop_set && loop_action_known n.b && loop_direction_known n.c))

-- ---- calls

abbrev pub command_numbers : List ℕ → CommandNumbers
command_numbers w =
    record {
      kind = at w 0;
      mask = at w 3;
      overrides = at w 4;
      a = at w 5;
      b = at w 6;
      c = at w 7;
      d = at w 8;
      e = at w 9;
    }

abbrev pub start_numbers : List ℕ → TaskNumbers
start_numbers w = record { kind = at w 3; a = at w 4; b = at w 5; c = at w 6; d = at w 7; e = at w 8; f = at w 9 }

unfoldable pub call_of : List ℕ → Call
call_of w =
    cond (eqb (at w 0) K.step) (Call.Step (at w 1))
    (cond (eqb (at w 0) K.start) (Call.Start (task_of (start_numbers w)) (at w 1))
    (cond (eqb (at w 0) K.halt) (Call.Halt (at w 1))
    (cond (eqb (at w 0) K.set_bounds) (Call.SetBounds (bounds_of w 3) (at w 1))
    (Call.Command (request_of (command_numbers w)) (on_off_read (at w 2)) (at w 1)))))

-- words that are a call: ten of them, with a kind and enums' numbers that exist, and each within its field
unfoldable pub call_known : List ℕ → Bool
call_known w =
    eqb (length w) 10
    && ((eqb (at w 0) K.start && task_known (start_numbers w)) || eqb (at w 0) K.step || eqb (at w 0) K.halt
    || (eqb (at w 0) K.set_bounds && bounds_fit w 3)
    || (command_known (command_numbers w) && on_off_known (at w 2)))

-- the answer to a call in words; a kind past the last one is no call
unfoldable pub called : Lamp → List ℕ → Option Answer
called l w = cond (ltb K.set_bounds (at w 0)) None (Some (answer l (call_of w)))

-- the same by its number, which is 100 where the words are no call: then the lamp is as it was
unfoldable pub sent : Lamp → List ℕ → NumberedAnswer
sent l w = cond (ltb K.set_bounds (at w 0)) (numbered l unreadable) (numbered_answer (answer l (call_of w)))
