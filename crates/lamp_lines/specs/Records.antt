-- Running records: a task's name, the clock and the initial values at its start, and the task's numbers.
use Rattle.std.specs.Prelude.{ℕ, List, [], ◌∷◌, Option, Some, None}
use Rattle.tasks.specs.declared.Running.{Running}
use Rattle.tasks.specs.declared.Task.{Task}
use Rattle.text.specs.Readers.{Reader, give, behind, ◌then◌, number8, number16, number64, ◌means◌, named, by_next}
use Rattle.lamp_lines.specs.declared.records.Initial.{Initial}
use Rattle.lamp_lines.specs.Moves.{task_at}

-- by the task's name: <start_clock> <start_sat>; <start_clock> <start_hue> <start_sat>; <start_clock> <hue or mireds>
unfoldable pub initial_at : List ℕ → Reader Initial
initial_at =
    named
    ("sat_move" means (give (λ start saturation. record { start = start; number = 0; saturation = saturation })
    then number64 then number8)
    ∷ "move_to" means (give (λ start hue saturation. record { start = start; number = hue; saturation = saturation })
    then number64 then number16 then number8)
    ∷ [])
    (give (λ start number. record { start = start; number = number; saturation = 0 }) then number64 then number16)

-- the record of a task: a mired move has lo and hi where its task has the caller's limits, and a Stop task has none
unfoldable pub record_of : Initial → Task → Option Running
record_of s (Task.HueSaturationMoveTo t) =
    Some (Running.HueSaturationMoveTo (record {
      start = s.start;
      hue = s.number;
      saturation = s.saturation;
      task = t;
    }))
record_of s (Task.HueMove t) = Some (Running.HueMove (record { start = s.start; hue = s.number; task = t }))
record_of s (Task.SaturationMove t) =
    Some (Running.SaturationMove (record { start = s.start; saturation = s.saturation; task = t }))
record_of s (Task.ColorTemperatureMoveTo t) =
    Some (Running.ColorTemperatureMoveTo (record { start = s.start; mireds = s.number; task = t }))
record_of s (Task.ColorTemperatureMove t) =
    Some (Running.ColorTemperatureMove (record {
      start = s.start;
      mireds = s.number;
      lo = t.min;
      hi = t.max;
      rate = t.rate;
    }))
record_of s (Task.ColorLoop t) = Some (Running.ColorLoop t.direction s.number t.seconds s.start)
record_of s Task.Stop = None

-- a record by its task's name: the initial values, and the task's numbers
abbrev pub record_at : List ℕ → Reader Running
record_at name line =
    behind (λ made rest. record { value = made; rest = rest })
    ((give record_of then initial_at name then task_at name) line)

-- `idle`, or a record
unfoldable pub running_at : Reader Running
running_at = by_next (λ name. named ("idle" means give Running.Idle ∷ []) (record_at name) name)
