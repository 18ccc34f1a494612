-- When a task and a running record are valid: document 01, "Task out of form" and, in "Lamp out of form", the running
-- record. A definition here says what is valid; the comment quotes the sentence that says what is out of form.
use Rattle.std.specs.Prelude.{Option, Some, None, ℕ, ◌%◌, Bool, true, false, not, ◌&&◌, ◌||◌, [], ◌∷◌, leb, ltb, eqb}
use Rattle.std.specs.Prelude.{ℤ, pos, neg_ℤ, nat_abs}
use Rattle.std.specs.Int.Signed.{le_z}
use Rattle.matter.specs.declared.enums.MoveModeEnum.{MoveModeEnum}
use Rattle.matter.specs.All.{all_true}
use Rattle.matter.specs.Limits.{saturation_limit}
use Rattle.matter.specs.declared.limits.Bounds.{Bounds}
use Rattle.tasks.specs.declared.HueSaturationMoveTo.{HueSaturationMoveTo}
use Rattle.tasks.specs.declared.HueMove.{HueMove}
use Rattle.tasks.specs.declared.SaturationMove.{SaturationMove}
use Rattle.tasks.specs.declared.Task.{Task}
use Rattle.tasks.specs.declared.Running.{Running}

-- "time not a multiple of 100 ms or above 6,553,500"
abbrev pub time_valid : ℕ → Bool
time_valid ms = eqb (ms % 100) 0 && leb ms 6_553_500

-- an integer within ±65,535
abbrev pub small : ℤ → Bool
small z = le_z (neg_ℤ (pos 65535)) z && le_z z (pos 65535)

-- "way beyond ±65,535"
abbrev pub delta_valid : Option ℤ → Bool
delta_valid None = true
delta_valid (Some way) = small way

abbrev pub delta_given : Option ℤ → Bool
delta_given None = false
delta_given (Some way) = true

-- "saturation above 254"
abbrev pub saturation_valid : Option ℕ → Bool
saturation_valid None = true
saturation_valid (Some saturation) = leb saturation saturation_limit

abbrev pub saturation_given : Option ℕ → Bool
saturation_given None = false
saturation_given (Some saturation) = true

-- "Stop as a move's direction"
abbrev pub moves : MoveModeEnum → Bool
moves MoveModeEnum.Stop = false
moves MoveModeEnum.Up = true
moves MoveModeEnum.Down = true

-- "rate 0", "mired rate beyond ±65,535"
abbrev pub rate_valid : ℤ → Bool
rate_valid rate = not (eqb (nat_abs rate) 0) && small rate

-- a move-to; the last test is "neither hue nor saturation"
unfoldable pub move_to_valid : HueSaturationMoveTo → Bool
move_to_valid t =
    all_true (time_valid t.ms ∷ delta_valid t.delta ∷ saturation_valid t.saturation
    ∷ (delta_given t.delta || saturation_given t.saturation) ∷ [])

-- a move at a rate: not "rate 0", not above the most, not "Stop as a move's direction"
abbrev pub move_valid : ℕ → ℕ → MoveModeEnum → Bool
move_valid rate most direction = all_true (ltb 0 rate ∷ leb rate most ∷ moves direction ∷ [])

-- not: "hue rate above 65,535"
unfoldable pub hue_move_valid : HueMove → Bool
hue_move_valid t = move_valid t.rate 65535 t.direction

-- not: "saturation rate above 255"
unfoldable pub saturation_move_valid : SaturationMove → Bool
saturation_move_valid t = move_valid t.rate 255 t.direction

-- a valid task, not "the Stop task itself"
unfoldable pub task_valid : Task → Bool
task_valid (Task.HueSaturationMoveTo t) = move_to_valid t
task_valid (Task.HueMove t) = hue_move_valid t
task_valid (Task.SaturationMove t) = saturation_move_valid t
task_valid (Task.ColorTemperatureMoveTo t) = time_valid t.ms
task_valid (Task.ColorTemperatureMove t) = rate_valid t.rate
task_valid (Task.ColorLoop t) = true
task_valid Task.Stop = false

-- not "outside the bounds"
abbrev pub within_bounds : Bounds → ℕ → Bool
within_bounds bounds mireds = leb bounds.min mireds && leb mireds bounds.max

-- a running record at the lamp's clock and bounds: not one "whose task is out of form, whose move-to time is 0, whose
-- saved start numbers break these rules, whose clock is after the lamp's, whose lo is not below hi, or whose kept mired
-- target, lo or hi lies outside the bounds"
unfoldable pub running_valid : Running → Bounds → ℕ → Bool
running_valid Running.Idle bounds clock = true
running_valid (Running.HueSaturationMoveTo run) bounds clock =
    all_true (move_to_valid run.task ∷ ltb 0 run.task.ms ∷ leb run.saturation saturation_limit
    ∷ leb run.start clock ∷ [])
running_valid (Running.HueMove run) bounds clock = all_true (hue_move_valid run.task ∷ leb run.start clock ∷ [])
running_valid (Running.SaturationMove run) bounds clock =
    all_true (saturation_move_valid run.task ∷ leb run.saturation saturation_limit ∷ leb run.start clock ∷ [])
running_valid (Running.ColorTemperatureMoveTo run) bounds clock =
    all_true
    (time_valid run.task.ms ∷ ltb 0 run.task.ms ∷ within_bounds bounds run.mireds
    ∷ within_bounds bounds run.task.target
    ∷ leb run.start clock
    ∷ [])
running_valid (Running.ColorTemperatureMove run) bounds clock =
    all_true
    (rate_valid run.rate ∷ within_bounds bounds run.mireds ∷ ltb run.lo run.hi
    ∷ within_bounds bounds run.lo ∷ within_bounds bounds run.hi
    ∷ leb run.start clock
    ∷ [])
running_valid (Running.ColorLoop direction hue seconds start) bounds clock = leb start clock
