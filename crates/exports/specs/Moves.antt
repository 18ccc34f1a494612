-- Tasks and running records as numbers: a kind and its numbers in the protocol's order, unused places 0.
-- Kinds: 0 no task, or an idle lamp; 1 HueSaturationMoveTo; 2 HueMove; 3 SaturationMove; 4 ColorTemperatureMoveTo;
-- 5 ColorTemperatureMove; 6 ColorLoop; 7 Stop.
use Rattle.std.specs.Prelude.{ℤ, Option, Some, None, ℕ, Bool, cond, not, ◌&&◌, ◌||◌, eqb, leb}
use Rattle.matter.specs.Numbers.{move_mode_number, loop_direction_number}
use Rattle.tasks.specs.declared.HueSaturationMoveTo.{HueSaturationMoveTo}
use Rattle.tasks.specs.declared.HueMove.{HueMove}
use Rattle.tasks.specs.declared.SaturationMove.{SaturationMove}
use Rattle.tasks.specs.declared.ColorTemperatureMoveTo.{ColorTemperatureMoveTo}
use Rattle.tasks.specs.declared.ColorTemperatureMove.{ColorTemperatureMove}
use Rattle.tasks.specs.declared.ColorLoop.{ColorLoop}
use Rattle.tasks.specs.declared.Task.{Task}
use Rattle.tasks.specs.declared.Running.{Running}
use Rattle.exports.specs.declared.moves.TaskNumbers.{TaskNumbers}
use Rattle.exports.specs.declared.moves.RecordNumbers.{RecordNumbers}
use Rattle.exports.specs.Words.{byte, short, long, flag, flag_number, signed, sign_of, size_of}
use Rattle.exports.specs.Enums.{move_mode_read, loop_direction_read, move_mode_known, loop_direction_known}

-- ---- reading

-- the sign 0 is no way
unfoldable pub delta_of : ℕ → ℕ → Option ℤ
delta_of sign size = cond (eqb sign 0) None (Some (signed sign size))

unfoldable pub target_of : ℕ → ℕ → Option ℕ
target_of given saturation = cond (eqb given 0) None (Some (byte saturation))

unfoldable pub move_to_of : TaskNumbers → HueSaturationMoveTo
move_to_of n =
    record {
      delta = delta_of n.a n.b;
      saturation = target_of n.c n.d;
      ms = long n.e;
      enhanced = flag n.f;
    }

unfoldable pub hue_move_of : TaskNumbers → HueMove
hue_move_of n = record { direction = move_mode_read n.a; rate = long n.b; enhanced = flag n.c }

unfoldable pub saturation_move_of : TaskNumbers → SaturationMove
saturation_move_of n = record { direction = move_mode_read n.a; rate = long n.b }

unfoldable pub mireds_to_of : TaskNumbers → ColorTemperatureMoveTo
mireds_to_of n = record { target = short n.a; ms = long n.b }

unfoldable pub mireds_move_of : TaskNumbers → ColorTemperatureMove
mireds_move_of n = record { rate = signed n.a n.b; min = short n.c; max = short n.d }

unfoldable pub color_loop_of : TaskNumbers → ColorLoop
color_loop_of n = record { direction = loop_direction_read n.a; seconds = short n.b }

unfoldable pub task_of : TaskNumbers → Task
task_of n =
    cond (eqb n.kind 1) (Task.HueSaturationMoveTo (move_to_of n))
    (cond (eqb n.kind 2) (Task.HueMove (hue_move_of n))
    (cond (eqb n.kind 3) (Task.SaturationMove (saturation_move_of n))
    (cond (eqb n.kind 4) (Task.ColorTemperatureMoveTo (mireds_to_of n))
    (cond (eqb n.kind 5) (Task.ColorTemperatureMove (mireds_move_of n))
    (cond (eqb n.kind 6) (Task.ColorLoop (color_loop_of n)) Task.Stop)))))

-- a record is what was found at its start, and its task; what is no task of the six is an idle lamp
abbrev pub started_with : RecordNumbers → Task → Running
started_with r (Task.HueSaturationMoveTo t) =
    Running.HueSaturationMoveTo (record { start = r.start; hue = short r.x; saturation = byte r.y; task = t })
started_with r (Task.HueMove t) = Running.HueMove (record { start = r.start; hue = short r.x; task = t })
started_with r (Task.SaturationMove t) =
    Running.SaturationMove (record { start = r.start; saturation = byte r.x; task = t })
started_with r (Task.ColorTemperatureMoveTo t) =
    Running.ColorTemperatureMoveTo (record { start = r.start; mireds = short r.x; task = t })
started_with r (Task.ColorTemperatureMove t) =
    Running.ColorTemperatureMove (record {
      start = r.start;
      mireds = short r.x;
      rate = t.rate;
      lo = t.min;
      hi = t.max;
    })
started_with r (Task.ColorLoop t) = Running.ColorLoop t.direction (short r.x) t.seconds r.start
started_with r Task.Stop = Running.Idle

abbrev pub running_of : RecordNumbers → Running
running_of r = started_with r (task_of r.task)

-- each number is within its field
unfoldable pub task_fits : TaskNumbers → Bool
task_fits n =
    (not (eqb n.kind 1)
    || (leb n.b 9223372036854775807 && leb n.c 1 && leb n.d 255 && leb n.e 4294967295 && leb n.f 1))
    && (not (eqb n.kind 2) || (leb n.b 4294967295 && leb n.c 1))
    && (not (eqb n.kind 3) || leb n.b 4294967295)
    && (not (eqb n.kind 4) || (leb n.a 65535 && leb n.b 4294967295))
    && (not (eqb n.kind 5) || (leb n.b 9223372036854775807 && leb n.c 65535 && leb n.d 65535))
    && (not (eqb n.kind 6) || leb n.b 65535)

-- which numbers can be read: the kind exists, the enums' numbers do, and each is within its field
unfoldable pub task_known : TaskNumbers → Bool
task_known n =
    task_fits n
    && ((eqb n.kind 1 && leb n.a 2) || ((eqb n.kind 2 || eqb n.kind 3) && move_mode_known n.a)
    || eqb n.kind 4
    || (eqb n.kind 5 && leb n.a 2) || (eqb n.kind 6 && loop_direction_known n.a) || eqb n.kind 7)

unfoldable pub record_known : RecordNumbers → Bool
record_known r =
    leb r.x 65535 && leb r.y 255
    && (not (eqb r.task.kind 3) || leb r.x 255)
    && (eqb r.task.kind 0 || (leb r.task.kind 6 && task_known r.task))

-- ---- writing

abbrev pub numbers : ℕ → ℕ → ℕ → ℕ → ℕ → ℕ → ℕ → TaskNumbers
numbers kind a b c d e f = record { kind = kind; a = a; b = b; c = c; d = d; e = e; f = f }

abbrev pub none : TaskNumbers
none = numbers 0 0 0 0 0 0 0

abbrev pub delta_sign : Option ℤ → ℕ
delta_sign None = 0
delta_sign (Some way) = sign_of way

abbrev pub delta_size : Option ℤ → ℕ
delta_size None = 0
delta_size (Some way) = size_of way

abbrev pub target_given : Option ℕ → ℕ
target_given None = 0
target_given (Some saturation) = 1

abbrev pub target_number : Option ℕ → ℕ
target_number None = 0
target_number (Some saturation) = saturation

abbrev pub move_to_numbers : HueSaturationMoveTo → TaskNumbers
move_to_numbers t =
    numbers 1 (delta_sign t.delta) (delta_size t.delta) (target_given t.saturation)
    (target_number t.saturation) t.ms
    (flag_number t.enhanced)

abbrev pub hue_move_numbers : HueMove → TaskNumbers
hue_move_numbers t = numbers 2 (move_mode_number t.direction) t.rate (flag_number t.enhanced) 0 0 0

abbrev pub saturation_move_numbers : SaturationMove → TaskNumbers
saturation_move_numbers t = numbers 3 (move_mode_number t.direction) t.rate 0 0 0 0

abbrev pub mireds_to_numbers : ColorTemperatureMoveTo → TaskNumbers
mireds_to_numbers t = numbers 4 t.target t.ms 0 0 0 0

abbrev pub mireds_move_numbers : ColorTemperatureMove → TaskNumbers
mireds_move_numbers t = numbers 5 (sign_of t.rate) (size_of t.rate) t.min t.max 0 0

abbrev pub color_loop_numbers : ColorLoop → TaskNumbers
color_loop_numbers t = numbers 6 (loop_direction_number t.direction) t.seconds 0 0 0 0

unfoldable pub task_numbers : Task → TaskNumbers
task_numbers (Task.HueSaturationMoveTo t) = move_to_numbers t
task_numbers (Task.HueMove t) = hue_move_numbers t
task_numbers (Task.SaturationMove t) = saturation_move_numbers t
task_numbers (Task.ColorTemperatureMoveTo t) = mireds_to_numbers t
task_numbers (Task.ColorTemperatureMove t) = mireds_move_numbers t
task_numbers (Task.ColorLoop t) = color_loop_numbers t
task_numbers Task.Stop = numbers 7 0 0 0 0 0 0

unfoldable pub given_numbers : Option Task → TaskNumbers
given_numbers None = none
given_numbers (Some task) = task_numbers task

abbrev pub found : ℕ → ℕ → ℕ → TaskNumbers → RecordNumbers
found start x y task = record { start = start; x = x; y = y; task = task }

unfoldable pub record_numbers : Running → RecordNumbers
record_numbers Running.Idle = found 0 0 0 none
record_numbers (Running.HueSaturationMoveTo run) = found run.start run.hue run.saturation
    (move_to_numbers run.task)
record_numbers (Running.HueMove run) = found run.start run.hue 0 (hue_move_numbers run.task)
record_numbers (Running.SaturationMove run) = found run.start run.saturation 0 (saturation_move_numbers run.task)
record_numbers (Running.ColorTemperatureMoveTo run) = found run.start run.mireds 0 (mireds_to_numbers run.task)
record_numbers (Running.ColorTemperatureMove run) =
    found run.start run.mireds 0 (mireds_move_numbers (record { rate = run.rate; min = run.lo; max = run.hi }))
record_numbers (Running.ColorLoop direction hue seconds start) =
    found start hue 0 (color_loop_numbers (record { direction = direction; seconds = seconds }))
