-- What is valid and what is not: document 01, "Task out of form" and "Lamp out of form", clause by clause, each beside
-- its nearest neighbour valid; the limit of clocks; and which cause comes first.
use Rattle.std.specs.Prelude.{Option, Some, None}
use Prim.Native.Nat.{ℕ}
use mathlib.Core.Bool.{false}
use mathlib.Core.List.{List, [], ◌∷◌, ◌++◌, map}
use mathlib.Core.Path.{◌≡◌, refl}
use lib.IntN.{ℤ, pos, neg_ℤ}
use Rattle.matter.specs.declared.commands.Command.{Command}
use Rattle.matter.specs.declared.enums.ColorLoopDirectionEnum.{ColorLoopDirectionEnum}
use Rattle.matter.specs.declared.enums.DirectionEnum.{DirectionEnum}
use Rattle.matter.specs.declared.enums.MoveModeEnum.{MoveModeEnum}
use Rattle.matter.specs.declared.enums.OnOff.{OnOff}
use Rattle.color.specs.declared.Color.{Color}
use Rattle.tasks.specs.declared.HueSaturationMoveTo.{HueSaturationMoveTo}
use Rattle.tasks.specs.declared.Task.{Task}
use Rattle.tasks.specs.declared.Running.{Running}
use Rattle.lamp.specs.declared.Lamp.{Lamp}
use Rattle.lamp.specs.Calls.{start_answer, step_answer, halt_answer}
use Rattle.worked_examples.specs.Cases.{lamp, plain}
use Rattle.worked_examples.proofs.LampAnswers.{hue_move, saturation_move, mireds_move}
use Rattle.worked_examples.proofs.Runs.{Modes, xy, hue, enhanced, warmth}
use Rattle.matter.specs.All.{all_true}
use Rattle.matter.specs.Causes.{number_of}
use Rattle.matter.specs.Flags.{has_flag}
use Rattle.matter.specs.Rules.{default_color_mode}
use Rattle.progress.specs.Progress.{clamp}
use Rattle.color.specs.Valid.{color_valid}
use Rattle.tasks.specs.Valid.{move_to_valid, hue_move_valid, saturation_move_valid, task_valid, running_valid}
use Rattle.lamp.specs.Answers.{first_cause}
use Rattle.lamp.specs.Valid.{lamp_valid}
use Rattle.commands.specs.Answers.{command_cause, command_answer}

-- ---- a row: a thing and the number that it is answered with

abbrev pub Rows : Type 0 → Type 0
Rows A = List (A × ℕ)

-- valid with the one number, refused with the other
abbrev pub edge : {A : Type 0} → ℕ → (ℕ → A) → ℕ → ℕ → Rows A
edge refusal of good bad = (of good, 0) ∷ (of bad, refusal) ∷ []

-- ---- tasks

abbrev pub move_to : Option ℤ → Option ℕ → ℕ → HueSaturationMoveTo
move_to delta saturation ms = record { delta = delta; saturation = saturation; ms = ms; enhanced = false }

abbrev pub hue_in : ℕ → Task
hue_in ms = Task.HueSaturationMoveTo (move_to (Some (pos 1)) None ms)

abbrev pub hue_by : ℤ → Task
hue_by way = Task.HueSaturationMoveTo (move_to (Some way) None 100)

abbrev pub saturation_to : Option ℕ → Task
saturation_to saturation = Task.HueSaturationMoveTo (move_to None saturation 100)

abbrev pub mireds_to : ℕ → ℕ → Task
mireds_to target ms = Task.ColorTemperatureMoveTo (record { target = target; ms = ms })

abbrev pub turning : ℕ → Task
turning seconds = Task.ColorLoop (record { direction = ColorLoopDirectionEnum.Increment; seconds = seconds })

abbrev pub tasks : Rows Task
tasks =
    -- "time not a multiple of 100 ms or above 6,553,500"
    edge 6 hue_in 700 650
    ++ edge 6 hue_in 6_553_500 6_553_600
    ++ edge 6 (mireds_to 300) 700 650
    ++ edge 6 (mireds_to 300) 6_553_500 6_553_600
    -- "way beyond ±65,535"
    ++ edge 6 (λ (n : ℕ). hue_by (pos n)) 65535 65536
    ++ edge 6 (λ (n : ℕ). hue_by (neg_ℤ (pos n))) 65535 65536
    -- "saturation above 254"; "neither hue nor saturation"
    ++ edge 6 (λ (n : ℕ). saturation_to (Some n)) 254 255
    ++ ((saturation_to None, 6) ∷ [])
    -- "rate 0"; "hue rate above 65,535; saturation rate above 255; mired rate beyond ±65,535"
    ++ edge 6 (λ (n : ℕ). hue_move MoveModeEnum.Up n false) 1 0
    ++ edge 6 (λ (n : ℕ). hue_move MoveModeEnum.Up n false) 65535 65536
    ++ edge 6 (saturation_move MoveModeEnum.Up) 1 0
    ++ edge 6 (saturation_move MoveModeEnum.Up) 255 256
    ++ edge 6 (λ (n : ℕ). mireds_move (pos n) 153 500) 1 0
    ++ edge 6 (λ (n : ℕ). mireds_move (pos n) 153 500) 65535 65536
    ++ edge 6 (λ (n : ℕ). mireds_move (neg_ℤ (pos n)) 153 500) 65535 65536
    -- "Stop as a move's direction; the Stop task itself"
    ++ ((hue_move MoveModeEnum.Stop 1 false, 6) ∷ (hue_move MoveModeEnum.Down 1 false, 0) ∷ [])
    ++ ((saturation_move MoveModeEnum.Stop 1, 6) ∷ (saturation_move MoveModeEnum.Down 1, 0) ∷ [])
    ++ ((Task.Stop, 6) ∷ [])
    -- no clause: no time, a target outside the bounds, limits that cross, 0 seconds
    ++ ((hue_in 0, 0) ∷ (mireds_to 10 100, 0) ∷ (mireds_move (pos 1) 400 300, 0) ∷ (turning 0, 0) ∷ [])

-- ---- lamps: that of the cases with another clock, bounds, colour or running record

abbrev pub lamp_of : ℕ → ℕ → ℕ → Color → Running → Lamp
lamp_of clock min max color running =
    record {
      clock = clock;
      bounds = record { min = min; max = max };
      color = color;
      looping = lamp.looping;
      remaining = lamp.remaining;
      options = lamp.options;
      running = running;
    }

abbrev pub colored : ℕ → ℕ → Modes → ℕ → ℕ → ℕ → Lamp
colored saturation mireds modes hue_stamp saturation_stamp mireds_stamp =
    lamp_of 5000 153 500
    (record {
      hue = 0;
      saturation = saturation;
      mireds = mireds;
      mode = modes.0;
      emode = modes.1;
      stamps = record { hue = hue_stamp; saturation = saturation_stamp; mireds = mireds_stamp };
    })
    Running.Idle

abbrev pub in_modes : Modes → Lamp
in_modes modes = colored 0 250 modes 0 0 0

abbrev pub clocked : ℕ → Lamp
clocked clock = lamp_of clock 153 500 lamp.color Running.Idle

abbrev pub running : Running → Lamp
running run = lamp_of 5000 153 500 lamp.color run

-- running records: their clock, saved start number, and task
abbrev pub runs_to : ℕ → ℕ → HueSaturationMoveTo → Lamp
runs_to start saturation task =
    running (Running.HueSaturationMoveTo (record { start = start; hue = 0; saturation = saturation; task = task }))

abbrev pub runs_hue : ℕ → ℕ → Lamp
runs_hue start rate =
    running
    (Running.HueMove
    (record { start = start; hue = 0; task = record { direction = MoveModeEnum.Up; rate = rate; enhanced = false } }))

abbrev pub runs_saturation : ℕ → ℕ → ℕ → Lamp
runs_saturation start saturation rate =
    running
    (Running.SaturationMove
    (record { start = start; saturation = saturation; task = record { direction = MoveModeEnum.Up; rate = rate } }))

abbrev pub runs_mireds_to : ℕ → ℕ → ℕ → ℕ → Lamp
runs_mireds_to start mireds target ms =
    running (Running.ColorTemperatureMoveTo (record {
      start = start;
      mireds = mireds;
      task = record { target = target; ms = ms };
    }))

abbrev pub runs_mireds : ℕ → ℕ → ℤ → ℕ → ℕ → Lamp
runs_mireds start mireds rate lo hi =
    running (Running.ColorTemperatureMove (record { start = start; mireds = mireds; rate = rate; lo = lo; hi = hi }))

abbrev pub runs_loop : ℕ → Lamp
runs_loop start =
    running
    (Running.ColorLoop ColorLoopDirectionEnum.Increment 0 0 start)

abbrev pub by_one : ℕ → HueSaturationMoveTo
by_one ms = move_to (Some (pos 1)) None ms

abbrev pub lamps : Rows Lamp
lamps =
    -- "saturation above 254; mireds outside the bounds; bounds crossed"
    edge 8 (λ (n : ℕ). colored n 250 xy 0 0 0) 254 255
    ++ edge 8 (λ (n : ℕ). colored 0 n xy 0 0 0) 153 152
    ++ edge 8 (λ (n : ℕ). colored 0 n xy 0 0 0) 500 501
    ++ edge 8 (λ (n : ℕ). lamp_of 5000 n 250 lamp.color Running.Idle) 250 251
    -- "the two modes disagree"
    ++ ((in_modes hue, 0) ∷ (in_modes enhanced, 0) ∷ (in_modes xy, 0) ∷ (in_modes warmth, 0) ∷ [])
    ++ ((in_modes (hue.0, xy.1), 8) ∷ (in_modes (hue.0, warmth.1), 8) ∷ (in_modes (xy.0, hue.1), 8)
    ∷ (in_modes (xy.0, enhanced.1), 8) ∷ (in_modes (xy.0, warmth.1), 8) ∷ (in_modes (warmth.0, hue.1), 8)
    ∷ (in_modes (warmth.0, enhanced.1), 8) ∷ (in_modes (warmth.0, xy.1), 8) ∷ [])
    -- "a notice stamp after the clock; clock above the limit"
    ++ edge 8 (λ (n : ℕ). colored 0 250 xy n 0 0) 5000 5001
    ++ edge 8 (λ (n : ℕ). colored 0 250 xy 0 n 0) 5000 5001
    ++ edge 8 (λ (n : ℕ). colored 0 250 xy 0 0 n) 5000 5001
    ++ edge 8 clocked 1_099_511_627_776 1_099_511_627_777
    -- "a running record whose task is out of form, whose move-to time is 0"
    ++ edge 8 (λ (n : ℕ). runs_to 5000 0 (by_one n)) 100 50
    ++ edge 8 (λ (n : ℕ). runs_to 5000 0 (by_one n)) 100 0
    ++ edge 8 (runs_hue 5000) 1 0
    ++ edge 8 (runs_saturation 5000 0) 255 256
    ++ edge 8 (runs_mireds_to 5000 250 300) 100 50
    ++ edge 8 (runs_mireds_to 5000 250 300) 100 0
    ++ edge 8 (λ (n : ℕ). runs_mireds 5000 250 (pos n) 153 500) 1 0
    -- "whose saved start numbers break these rules"
    ++ edge 8 (λ (n : ℕ). runs_to 5000 n (by_one 100)) 254 255
    ++ edge 8 (λ (n : ℕ). runs_saturation 5000 n 1) 254 255
    ++ edge 8 (λ (n : ℕ). runs_mireds_to 5000 n 300 100) 153 152
    ++ edge 8 (λ (n : ℕ). runs_mireds_to 5000 n 300 100) 500 501
    ++ edge 8 (λ (n : ℕ). runs_mireds 5000 n (pos 1) 153 500) 153 152
    ++ edge 8 (λ (n : ℕ). runs_mireds 5000 n (pos 1) 153 500) 500 501
    -- "whose clock is after the lamp's"
    ++ edge 8 (λ (n : ℕ). runs_to n 0 (by_one 100)) 5000 5001
    ++ edge 8 (λ (n : ℕ). runs_hue n 1) 5000 5001
    ++ edge 8 (λ (n : ℕ). runs_saturation n 0 1) 5000 5001
    ++ edge 8 (λ (n : ℕ). runs_mireds_to n 250 300 100) 5000 5001
    ++ edge 8 (λ (n : ℕ). runs_mireds n 250 (pos 1) 153 500) 5000 5001
    ++ edge 8 runs_loop 5000 5001
    -- "whose lo is not below hi, or whose kept mired target, lo or hi lies outside the bounds"
    ++ edge 8 (λ (n : ℕ). runs_mireds 5000 250 (pos 1) 200 n) 201 200
    ++ edge 8 (λ (n : ℕ). runs_mireds_to 5000 250 n 100) 153 152
    ++ edge 8 (λ (n : ℕ). runs_mireds_to 5000 250 n 100) 500 501
    ++ edge 8 (λ (n : ℕ). runs_mireds 5000 250 (pos 1) n 500) 153 152
    ++ edge 8 (λ (n : ℕ). runs_mireds 5000 250 (pos 1) 153 n) 500 501

-- ---- each task started, each lamp halted at its own clock

abbrev pub ValidityReported : Type 0
ValidityReported =
    (map (λ (r : Task × ℕ). number_of (start_answer lamp r.0 5000).verdict) tasks ≡ map (λ (r : Task × ℕ). r.1) tasks)
    × (map (λ (r : Lamp × ℕ). number_of (halt_answer r.0 r.0.clock).verdict) lamps ≡ map (λ (r : Lamp × ℕ). r.1) lamps)

-- ---- which cause comes first: the numbers of a command, a start, a step and a halt at this clock

abbrev pub numbers : Lamp → Command → Task → ℕ → List ℕ
numbers l c task clock =
    number_of (plain l c OnOff.On clock).verdict ∷ number_of (start_answer l task clock).verdict
    ∷ number_of (step_answer l clock).verdict
    ∷ number_of (halt_answer l clock).verdict
    ∷ []

-- with a command and a task that are in order, and with a hue of 255 and the Stop task
abbrev pub sound : Lamp → ℕ → List ℕ
sound l clock = numbers l Command.StopMoveStep (hue_in 100) clock

abbrev pub unsound : Lamp → ℕ → List ℕ
unsound l clock = numbers l (Command.MoveToHue 255 DirectionEnum.Shortest 1) Task.Stop clock

-- on a lamp that runs, on the idle one, and on one invalid, idle
abbrev pub OrderReported : Type 0
OrderReported =
    (sound (runs_hue 5000 1) 5000 ∷ sound (runs_hue 5000 1) 1_099_511_627_776 ∷ unsound (runs_hue 5000 1) 5000
    ∷ sound (runs_hue 5000 1) 4999 ∷ sound (runs_hue 5000 1) 1_099_511_627_777 ∷ unsound (runs_hue 5000 1) 4999
    ∷ sound lamp 5000 ∷ unsound lamp 4999 ∷ unsound (colored 255 250 xy 0 0 0) 4999
    ∷ [])
    ≡ ((0 ∷ 0 ∷ 0 ∷ 0 ∷ []) ∷ (0 ∷ 0 ∷ 0 ∷ 0 ∷ []) ∷ (1 ∷ 6 ∷ 0 ∷ 0 ∷ [])
    ∷ (4 ∷ 4 ∷ 4 ∷ 4 ∷ []) ∷ (4 ∷ 4 ∷ 4 ∷ 4 ∷ []) ∷ (4 ∷ 4 ∷ 4 ∷ 4 ∷ [])
    ∷ (0 ∷ 0 ∷ 7 ∷ 0 ∷ []) ∷ (4 ∷ 4 ∷ 7 ∷ 4 ∷ []) ∷ (8 ∷ 8 ∷ 8 ∷ 8 ∷ [])
    ∷ [])

-- ---- by computation

validity-reported : ValidityReported
unfolding has_flag default_color_mode all_true clamp color_valid move_to_valid hue_move_valid saturation_move_valid task_valid running_valid lamp_valid first_cause start_answer halt_answer
validity-reported = (refl, refl)

order-reported : OrderReported
unfolding has_flag default_color_mode all_true clamp color_valid move_to_valid hue_move_valid saturation_move_valid task_valid running_valid lamp_valid first_cause start_answer step_answer halt_answer command_cause command_answer
order-reported = refl
