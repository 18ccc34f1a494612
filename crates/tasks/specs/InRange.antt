-- The widths of the numbers of a task and of a running record: facts that every one a program holds has.
use Rattle.std.specs.Prelude.{Option, Some, None, ℕ, ◌<◌, ◌^◌, ℤ}
use Rattle.std.specs.Int.Signed.{mag}
use Rattle.matter.specs.InRange.{Byte, Short, Long, Clock}
use Rattle.tasks.specs.declared.HueSaturationMoveTo.{HueSaturationMoveTo}
use Rattle.tasks.specs.declared.ColorTemperatureMoveTo.{ColorTemperatureMoveTo}
use Rattle.tasks.specs.declared.ColorTemperatureMove.{ColorTemperatureMove}
use Rattle.tasks.specs.declared.Task.{Task}
use Rattle.tasks.specs.declared.Running.{Running}

-- 64 bits with a sign: `mag z` is z, or one less than its size below 0
abbrev pub Signed64 : ℤ → Type 0
Signed64 z = mag z < 2 ^ 63

abbrev pub InRangeDelta : Option ℤ → Type 0
InRangeDelta None = Unit
InRangeDelta (Some way) = Signed64 way

abbrev pub InRangeTarget : Option ℕ → Type 0
InRangeTarget None = Unit
InRangeTarget (Some saturation) = Byte saturation

pub record InRangeMoveTo (t : HueSaturationMoveTo) : Type 0 where
  pub delta : InRangeDelta t.delta
  pub saturation : InRangeTarget t.saturation
  pub ms : Long t.ms

pub record InRangeTemperatureTo (t : ColorTemperatureMoveTo) : Type 0 where
  pub target : Short t.target
  pub ms : Long t.ms

pub record InRangeTemperature (t : ColorTemperatureMove) : Type 0 where
  pub rate : Signed64 t.rate
  pub min : Short t.min
  pub max : Short t.max

abbrev pub InRangeTask : Task → Type 0
InRangeTask (Task.HueSaturationMoveTo t) = InRangeMoveTo t
InRangeTask (Task.HueMove t) = Long t.rate
InRangeTask (Task.SaturationMove t) = Long t.rate
InRangeTask (Task.ColorTemperatureMoveTo t) = InRangeTemperatureTo t
InRangeTask (Task.ColorTemperatureMove t) = InRangeTemperature t
InRangeTask (Task.ColorLoop t) = Short t.seconds
InRangeTask Task.Stop = Unit

abbrev pub InRangeRunning : Running → Type 0
InRangeRunning Running.Idle = Unit
InRangeRunning (Running.HueSaturationMoveTo run) =
    Clock run.start × Short run.hue × Byte run.saturation × InRangeMoveTo run.task
InRangeRunning (Running.HueMove run) = Clock run.start × Short run.hue × Long run.task.rate
InRangeRunning (Running.SaturationMove run) = Clock run.start × Byte run.saturation × Long run.task.rate
InRangeRunning (Running.ColorTemperatureMoveTo run) =
    Clock run.start × Short run.mireds × InRangeTemperatureTo run.task
InRangeRunning (Running.ColorTemperatureMove run) =
    Clock run.start × Short run.mireds × Signed64 run.rate × Short run.lo × Short run.hi
InRangeRunning (Running.ColorLoop direction hue seconds start) = Clock start × Short hue × Short seconds
