-- Whether a record runs, which is every one but idle, and whether it moves the mireds; and the colour loop's record as
-- what runs.
use Rattle.std.specs.Prelude.{ℕ, Bool, true, false}
use Rattle.matter.specs.declared.enums.ColorLoopDirectionEnum.{ColorLoopDirectionEnum}
use Rattle.tasks.specs.declared.ColorLoopRun.{ColorLoopRun}
use Rattle.tasks.specs.declared.Running.{Running}

abbrev pub runs : Running → Bool
runs Running.Idle = false
runs (Running.HueSaturationMoveTo run) = true
runs (Running.HueMove run) = true
runs (Running.SaturationMove run) = true
runs (Running.ColorTemperatureMoveTo run) = true
runs (Running.ColorTemperatureMove run) = true
runs (Running.ColorLoop direction hue seconds start) = true

-- document 02, A.9: whether "a mired task is running"
abbrev pub moves_mireds : Running → Bool
moves_mireds Running.Idle = false
moves_mireds (Running.HueSaturationMoveTo run) = false
moves_mireds (Running.HueMove run) = false
moves_mireds (Running.SaturationMove run) = false
moves_mireds (Running.ColorTemperatureMoveTo run) = true
moves_mireds (Running.ColorTemperatureMove run) = true
moves_mireds (Running.ColorLoop direction hue seconds start) = false

-- the colour loop's record of its four numbers
abbrev pub loop_run : ColorLoopDirectionEnum → ℕ → ℕ → ℕ → ColorLoopRun
loop_run direction hue seconds start =
    record { start = start; hue = hue; task = record { direction = direction; seconds = seconds } }

-- and as what runs
abbrev pub loop_running : ColorLoopRun → Running
loop_running run = Running.ColorLoop run.task.direction run.hue run.task.seconds run.start
