-- New bounds, case by case (document 02, A.9): what each call of a list is answered with, by computation.
use Rattle.std.specs.Prelude.{Some, None}
use Prim.Native.Nat.{ℕ}
use mathlib.Core.Bool.{false}
use mathlib.Core.List.{List, [], ◌∷◌, map}
use mathlib.Core.Path.{◌≡◌, refl}
use lib.IntN.{pos}
use lib.ListN.{take}
use Rattle.matter.specs.All.{all_true}
use Rattle.matter.specs.Causes.{number_of}
use Rattle.matter.specs.Flags.{has_flag}
use Rattle.matter.specs.Requests.{request, options}
use Rattle.matter.specs.Rules.{default_color_mode}
use Rattle.matter.specs.declared.commands.Command.{Command}
use Rattle.matter.specs.declared.enums.MoveModeEnum.{MoveModeEnum}
use Rattle.matter.specs.declared.enums.ColorLoopDirectionEnum.{ColorLoopDirectionEnum}
use Rattle.matter.specs.declared.enums.OnOff.{OnOff}
use Rattle.notices.specs.Notices.{filled}
use Rattle.remaining_time.specs.RemainingTime.{reported}
use Rattle.hue.specs.Hue.{distance, path_delta, is_tie, moved_hue}
use Rattle.progress.specs.Progress.{permille_of, clamp, loop_turn, snapped}
use Rattle.color.specs.Bounded.{bounded}
use Rattle.color.specs.Setters.{hue_set, saturation_set, mireds_set}
use Rattle.color.specs.Valid.{color_valid}
use Rattle.tasks.specs.declared.Task.{Task}
use Rattle.tasks.specs.Valid.{hue_move_valid, saturation_move_valid, move_to_valid, task_valid, running_valid}
use Rattle.lamp.specs.declared.Answer.{Answer}
use Rattle.lamp.specs.declared.Call.{Call}
use Rattle.lamp.specs.declared.Lamp.{Lamp}
use Rattle.lamp.specs.Answers.{first_cause}
use Rattle.lamp.specs.Calls.{hue_saturation_start, temperature_to_start, temperature_start, started, stepped, start_answer, step_answer, bounds_answer}
use Rattle.lamp.specs.Making.{fresh_lamp}
use Rattle.lamp.specs.Passes.{hue_saturation_moved, hue_passed, saturation_passed, loop_passed, temperature_passed, temperature_to_moved, timed}
use Rattle.lamp.specs.Valid.{lamp_valid}
use Rattle.commands.specs.Answers.{command_answer, command_cause, answer}
use Rattle.commands.specs.Commands.{activated, loop_set, command_effect}
use Rattle.commands.specs.NewBounds.{with_mireds}
use Rattle.worked_examples.specs.Cases.{next, busy}

-- ---- what a call is answered with: its number, its notices, and the mireds and their stamp after it

abbrev pub seen : Answer → ℕ × List ℕ × ℕ × ℕ
seen a = (number_of a.verdict, take a.notices.len a.notices.places, a.lamp.color.mireds, a.lamp.color.stamps.mireds)

abbrev pub seen_along : Lamp → List Call → List (ℕ × List ℕ × ℕ × ℕ)
seen_along l [] = []
seen_along l (x ∷ xs) = seen (answer l x) ∷ seen_along (answer l x).lamp xs

-- ---- the calls: on a lamp that was made with these bounds at 5000

abbrev pub made : Lamp
made = fresh_lamp (record { min = 153; max = 500 }) 31 0 5000

abbrev pub set_to : ℕ → ℕ → ℕ → Call
set_to min max clock = Call.SetBounds (record { min = min; max = max }) clock

abbrev pub to_400 : Task
to_400 = Task.ColorTemperatureMoveTo (record { ms = 1000; target = 400 })

abbrev pub up_100 : Command
up_100 = Command.MoveColorTemperature MoveModeEnum.Up 100 0 0

abbrev pub to_600 : Command
to_600 = Command.MoveToColorTemperature 600 10

abbrev pub sent : Command → ℕ → Call
sent c clock = Call.Command (request c (options 0 0)) OnOff.On clock

-- the tasks that these two give: the command's own bounds stand in them
abbrev pub up_task : Task
up_task = Task.ColorTemperatureMove (record { rate = pos 100; min = 153; max = 500 })

abbrev pub to_500 : Task
to_500 = Task.ColorTemperatureMoveTo (record { ms = 1000; target = 500 })

-- tasks that move no mireds
abbrev pub hue_move : Task
hue_move = Task.HueMove (record { rate = 256; direction = MoveModeEnum.Up; enhanced = false })

abbrev pub saturation_move : Task
saturation_move = Task.SaturationMove (record { rate = 10; direction = MoveModeEnum.Up })

abbrev pub loop : Task
loop = Task.ColorLoop (record { direction = ColorLoopDirectionEnum.Increment; seconds = 25 })

abbrev pub saturation_to : Task
saturation_to = Task.HueSaturationMoveTo (record { delta = None; ms = 1000; saturation = Some 100; enhanced = false })

pub record NewBoundsReported : Type 0 where
  -- 4 before 5 before 18, and 18 whatever the bounds
  pub order :
      seen_along made (Call.Start to_400 5000 ∷ set_to 301 300 4999 ∷ set_to 301 300 5000 ∷ set_to 153 500 5000 ∷ [])
      ≡ (0, 16 ∷ [], 250, 0) ∷ (4, [], 250, 0) ∷ (5, [], 250, 0) ∷ (18, [], 250, 0) ∷ []
  -- reported whenever the number moves, also within a second; the nearer bound on both sides; a number that stays leaves its stamp
  pub moves :
      seen_along made (set_to 300 500 5000 ∷ set_to 301 500 5001 ∷ set_to 301 400 5002 ∷ set_to 0 280 5003 ∷ set_to 0 0 5004 ∷ set_to 65535 65535 5005 ∷ [])
      ≡ (0, 5 ∷ [], 300, 5000) ∷ (0, 5 ∷ [], 301, 5001) ∷ (0, [], 301, 5001) ∷ (0, 5 ∷ [], 280, 5003) ∷ (0, 5 ∷ [], 0, 5004) ∷ (0, 5 ∷ [], 65535, 5005) ∷ []
  -- only a mired task stands in the way: the numbers of new bounds behind a start of each other kind, and of both kinds of mired
  -- task
  pub others :
      map (λ (task : Task). number_of (answer (answer made (Call.Start task 5000)).lamp (set_to 600 700 5000)).verdict)
      (hue_move ∷ saturation_move ∷ loop ∷ saturation_to ∷ up_task ∷ to_400 ∷ []) ≡ 0 ∷ 0 ∷ 0 ∷ 0 ∷ 18 ∷ 18 ∷ []
  -- the whole answer, of a lamp that runs with its loop active and 6 tenths left
  pub whole : answer busy (set_to 300 400 5600) ≡ with_mireds busy (record { min = 300; max = 400 }) 5600 300 5600 (5 ∷ [])
  -- a fade of the hue runs on
  pub fades :
      seen_along made (Call.Start (Task.HueSaturationMoveTo (record { delta = Some (pos 100); ms = 1000; saturation = None; enhanced = false })) 5000 ∷ set_to 600 700 5000 ∷ Call.Step 5100 ∷ [])
      ≡ (0, 15 ∷ [], 250, 0) ∷ (0, 5 ∷ [], 600, 5000) ∷ (0, 13 ∷ 2 ∷ 6 ∷ 7 ∷ 14 ∷ 15 ∷ [], 600, 5000) ∷ []
  -- a move of mireds given before and started after: its lo and hi are taken from its own numbers and the present bounds
  pub rate_task : (answer made (sent up_100 5000)).task ≡ Some up_task
  pub rate :
      seen_along made (sent up_100 5000 ∷ set_to 100 600 5000 ∷ Call.Start up_task 5000 ∷ Call.Step 9000 ∷ set_to 600 700 9000 ∷ Call.Start up_task 9000 ∷ [])
      ≡ (0, 17 ∷ [], 250, 0) ∷ (0, [], 250, 0) ∷ (0, 16 ∷ [], 250, 0) ∷ (0, 13 ∷ 5 ∷ 6 ∷ 7 ∷ 14 ∷ 16 ∷ [], 500, 9000) ∷ (0, 5 ∷ [], 600, 9000) ∷ (0, [], 600, 9000) ∷ []
  -- a target given before and started after is clamped to the present bounds
  pub target_task : (answer made (sent to_600 5000)).task ≡ Some to_500
  pub target :
      seen_along made (sent to_600 5000 ∷ set_to 153 400 5000 ∷ Call.Start to_500 5000 ∷ Call.Step 6000 ∷ [])
      ≡ (0, 17 ∷ [], 250, 0) ∷ (0, [], 250, 0) ∷ (0, 16 ∷ [], 250, 0) ∷ (0, 13 ∷ 5 ∷ 6 ∷ 7 ∷ 14 ∷ 16 ∷ 1 ∷ [], 400, 6000) ∷ []
  -- and where it is then the lamp's own number, there is no way: the end at once
  pub no_way :
      seen_along made (set_to 153 250 5000 ∷ Call.Start to_500 5000 ∷ [])
      ≡ (0, [], 250, 0) ∷ (0, 13 ∷ 5 ∷ 6 ∷ 7 ∷ 14 ∷ 16 ∷ 1 ∷ [], 250, 5000) ∷ []
  -- narrower bounds end a move given before
  pub narrower :
      seen_along made (set_to 153 400 5000 ∷ Call.Start up_task 5000 ∷ Call.Step 6450 ∷ Call.Step 6500 ∷ [])
      ≡ (0, [], 250, 0) ∷ (0, 16 ∷ [], 250, 0) ∷ (0, 13 ∷ 5 ∷ 6 ∷ 7 ∷ 14 ∷ 16 ∷ [], 395, 6450) ∷ (0, 13 ∷ 5 ∷ 6 ∷ 7 ∷ 14 ∷ 16 ∷ [], 400, 6500) ∷ []

pub new-bounds-reported : NewBoundsReported
unfolding answer command_answer command_cause command_effect start_answer step_answer bounds_answer started stepped first_cause hue_saturation_start temperature_to_start temperature_start lamp_valid color_valid running_valid task_valid move_to_valid all_true has_flag default_color_mode hue_saturation_moved temperature_to_moved temperature_passed timed hue_set mireds_set bounded clamp permille_of moved_hue reported filled hue_move_valid hue_passed saturation_move_valid saturation_passed loop_passed saturation_set loop_turn snapped next loop_set activated path_delta distance is_tie
new-bounds-reported =
    record { order = refl; moves = refl; others = refl; whole = refl; fades = refl; rate_task = refl; rate = refl; target_task = refl; target = refl; no_way = refl; narrower = refl }
