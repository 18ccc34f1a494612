-- A start and steps after it: the lamps that they leave, when a lamp shows what it shows, and what a start saves.
use Rattle.matter.specs.Causes.{accepted}
use Rattle.std.specs.Prelude.{ℕ, ◌≤◌, ◌⊎◌, ◌≡◌, pos}
use Rattle.progress.specs.Progress.{clamp}
use Rattle.tasks.specs.declared.Running.{Running}
use Rattle.tasks.specs.declared.Task.{Task}
use Rattle.lamp.specs.declared.Lamp.{Lamp}
use Rattle.matter.specs.Bounds.{lower, upper}
use Rattle.lamp.specs.declared.Call.{Call}
use Rattle.commands.specs.Answers.{cause, answer}

-- a start, and steps after it
pub data Ran (m : Lamp) (task : Task) (begun : ℕ) : Lamp → Type 0 where
  began : cause m (Call.Start task begun) ≡ accepted → Ran m task begun (answer m (Call.Start task begun)).lamp
  went : {x : Lamp} (clock : ℕ) → Ran m task begun x → cause x (Call.Step clock) ≡ accepted →
      Ran m task begun (answer x (Call.Step clock)).lamp

-- the clocks at which a lamp shows what it shows: its own, and every later one where nothing runs
abbrev pub Lasts : Lamp → ℕ → Type 0
Lasts n clock = (clock ≡ n.clock) ⊎ ((n.running ≡ Running.Idle) × (n.clock ≤ clock))

-- what a start saves: its clock, the numbers that the lamp has then, and the task; the target and the limits of
-- mireds, worked out
abbrev pub saved : Lamp → Task → ℕ → Running
saved m (Task.HueSaturationMoveTo task) clock =
    Running.HueSaturationMoveTo
    (record { start = clock; hue = m.color.hue; saturation = m.color.saturation; task = task })
saved m (Task.HueMove task) clock = Running.HueMove (record { start = clock; hue = m.color.hue; task = task })
saved m (Task.SaturationMove task) clock =
    Running.SaturationMove (record { start = clock; saturation = m.color.saturation; task = task })
saved m (Task.ColorTemperatureMoveTo task) clock =
    Running.ColorTemperatureMoveTo
    (record {
      start = clock;
      mireds = m.color.mireds;
      task = record { target = clamp m.bounds.min m.bounds.max (pos task.target); ms = task.ms };
    })
saved m (Task.ColorTemperatureMove task) clock =
    Running.ColorTemperatureMove
    (record {
      start = clock;
      mireds = m.color.mireds;
      rate = task.rate;
      lo = lower m.bounds task.min;
      hi = upper m.bounds task.max;
    })
saved m (Task.ColorLoop task) clock = Running.ColorLoop task.direction m.color.hue task.seconds clock
saved m Task.Stop clock = Running.Idle
