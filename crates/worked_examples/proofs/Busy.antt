-- A lamp that runs, its colour loop active: 13 is withheld in the setters; moves at a rate, the loop and a halt leave
-- the remaining time as it was (docs/DECISIONS.md, point 14); the colour loop's command leaves what runs (point 5).
use Rattle.std.specs.Prelude.{Option, Some, None}
use Prim.Native.Nat.{ℕ}
use mathlib.Core.Bool.{Bool, true, false}
use mathlib.Core.List.{List, [], ◌∷◌, map}
use mathlib.Core.Path.{◌≡◌, refl}
use Rattle.matter.specs.declared.commands.Command.{Command}
use Rattle.matter.specs.declared.enums.ColorLoopActionEnum.{ColorLoopActionEnum}
use Rattle.matter.specs.declared.enums.ColorLoopDirectionEnum.{ColorLoopDirectionEnum}
use Rattle.matter.specs.declared.enums.DirectionEnum.{DirectionEnum}
use Rattle.matter.specs.declared.enums.MoveModeEnum.{MoveModeEnum}
use Rattle.matter.specs.declared.enums.OnOff.{OnOff}
use Rattle.tasks.specs.declared.Running.{Running}
use Rattle.tasks.specs.declared.Task.{Task}
use Rattle.tasks.specs.Runs.{runs}
use Rattle.lamp.specs.declared.Lamp.{Lamp}
use Rattle.lamp.specs.declared.Answer.{Answer}
use Rattle.lamp.specs.Calls.{step_answer, halt_answer, hue_saturation_start, temperature_to_start, temperature_start, started as started_of, stepped, start_answer}
use Rattle.worked_examples.specs.Cases.{plain, next, listed, idled, bare, loop, up_between, busy, steps_at}
use Rattle.worked_examples.proofs.LampAnswers.{now, later}
use Rattle.worked_examples.proofs.Runs.{started, Run, run, RunsReported, going, done, hue, enhanced, warmth}
use Rattle.matter.specs.All.{all_true}
use Rattle.matter.specs.Causes.{accepted}
use Rattle.matter.specs.Flags.{has_flag}
use Rattle.matter.specs.Rules.{default_color_mode}
use Rattle.notices.specs.Notices.{filled}
use Rattle.hue.specs.Hue.{distance, path_delta, is_tie, moved_hue}
use Rattle.progress.specs.Progress.{permille_of, clamp, snapped, loop_turn}
use Rattle.remaining_time.specs.RemainingTime.{reported}
use Rattle.color.specs.Setters.{hue_set, saturation_set, mireds_set}
use Rattle.color.specs.Valid.{color_valid}
use Rattle.tasks.specs.Valid.{move_to_valid, hue_move_valid, saturation_move_valid, task_valid, running_valid}
use Rattle.lamp.specs.Answers.{first_cause}
use Rattle.lamp.specs.Valid.{lamp_valid}
use Rattle.lamp.specs.Passes.{hue_passed, hue_saturation_moved, loop_passed, saturation_passed, temperature_passed, temperature_to_moved, timed}
use Rattle.commands.specs.Commands.{deactivated, activated, loop_set, command_effect}
use Rattle.commands.specs.Answers.{command_cause, command_answer}

-- ---- the busy lamp: its hue, saturation and remaining tenths, and that it runs and its loop is active

abbrev pub shown : Lamp → ℕ × ℕ × ℕ × Bool × Bool
shown l = (l.color.hue, l.color.saturation, l.remaining.tenths, runs l.running, l.looping.active)

abbrev pub BusyRuns : Type 0
BusyRuns =
    shown busy ≡ (16384, 50, 6, true, true)

-- ---- transitions on it

abbrev pub busy_transitions : List Run
busy_transitions =
    -- moves at a rate and the loop: 6 tenths as they were
    run busy (Command.MoveHue MoveModeEnum.Up 10 false) (650 ∷ 1650 ∷ [])
    (going hue 16384 50 250 6 (15 ∷ []) 100
    ∷ going hue 16640 50 250 6 (14 ∷ 15 ∷ []) 100
    ∷ going hue 19200 50 250 6 (2 ∷ 6 ∷ 7 ∷ 14 ∷ 15 ∷ []) 100 ∷ [])
    ∷ run busy (Command.MoveSaturation MoveModeEnum.Down 100) (650 ∷ 1050 ∷ [])
    (going hue 16384 50 250 6 (15 ∷ []) 100
    ∷ going hue 16384 40 250 6 (14 ∷ 15 ∷ []) 100
    ∷ done hue 16384 0 250 6 (4 ∷ 6 ∷ 7 ∷ 14 ∷ 15 ∷ []) ∷ [])
    ∷ run busy (up_between 0 0) (650 ∷ 3050 ∷ [])
    (going hue 16384 50 250 6 (16 ∷ []) 100
    ∷ going warmth 16384 50 260 6 (5 ∷ 6 ∷ 7 ∷ 14 ∷ 16 ∷ []) 100
    ∷ done warmth 16384 50 500 6 (5 ∷ 6 ∷ 7 ∷ 14 ∷ 16 ∷ []) ∷ [])
    ∷ run busy (loop ColorLoopDirectionEnum.Increment) (650 ∷ 1545 ∷ [])
    (going enhanced 16384 50 250 6 (15 ∷ []) 100
    ∷ going enhanced 22937 50 250 6 (14 ∷ 15 ∷ []) 100
    ∷ going enhanced 16384 50 250 6 (14 ∷ 15 ∷ []) 5 ∷ [])
    -- moves to a number
    ∷ run busy (Command.MoveToHueAndSaturation 0 100 10 false 0) (1050 ∷ 1550 ∷ [])
    (going hue 16384 50 250 10 (15 ∷ []) 100
    ∷ going hue 8192 75 250 5 (2 ∷ 6 ∷ 7 ∷ 14 ∷ 14 ∷ 15 ∷ []) 100
    ∷ done hue 0 100 250 0 (2 ∷ 6 ∷ 7 ∷ 14 ∷ 4 ∷ 6 ∷ 7 ∷ 14 ∷ 15 ∷ 1 ∷ []) ∷ [])
    ∷ run busy (Command.MoveToColorTemperature 153 10) (1050 ∷ 1550 ∷ [])
    (going hue 16384 50 250 10 (16 ∷ []) 100
    ∷ going warmth 16384 50 202 5 (5 ∷ 6 ∷ 7 ∷ 14 ∷ 16 ∷ []) 100
    ∷ done warmth 16384 50 153 0 (5 ∷ 6 ∷ 7 ∷ 14 ∷ 16 ∷ 1 ∷ []) ∷ [])
    ∷ []

abbrev pub BusyReported : Type 0
BusyReported = RunsReported busy_transitions

-- ---- a halt: the lamp idle at its clock, all else as it was

abbrev pub HaltLeaves : Type 0
HaltLeaves =
    halt_answer busy now ≡ bare accepted (idled (later busy))

-- ---- the colour loop's action on a lamp that runs, halfway to hue 1280: on from the start hue, on again, off, off
-- again

abbrev pub moving : Lamp
moving =
    (next (started (Command.EnhancedMoveToHue 1280 DirectionEnum.Shortest 2)) (λ (l : Lamp). step_answer l 5100)).lamp

abbrev pub acted : ColorLoopActionEnum → Lamp → Answer
acted action l =
    plain l (Command.ColorLoopSet 1 action ColorLoopDirectionEnum.Decrement 1 0) OnOff.On now

abbrev pub on : Answer
on = acted ColorLoopActionEnum.ActivateFromColorLoopStartEnhancedHue moving

abbrev pub on_again : Answer
on_again = acted ColorLoopActionEnum.ActivateFromEnhancedCurrentHue on.lamp

abbrev pub off : Answer
off = acted ColorLoopActionEnum.Deactivate on_again.lamp

-- notices, task, hue, stored hue, whether active; what runs and the remaining tenths
abbrev pub Left : Type 0
Left = List ℕ × (Option Task) × ℕ × ℕ × Bool × Running × ℕ

abbrev pub left : Answer → Left
left a = (
  listed a,
  a.task,
  a.lamp.color.hue,
  a.lamp.looping.stored,
  a.lamp.looping.active,
  a.lamp.running,
  a.lamp.remaining.tenths,
)

-- what runs and the tenths are the lamp's own
abbrev pub leaves : List ℕ → Option Task → ℕ → Bool → Left
leaves list task hue active = (list, task, hue, 640, active, moving.running, 1)

abbrev pub turns : Option Task
turns = Some (Task.ColorLoop (record { direction = ColorLoopDirectionEnum.Increment; seconds = 25 }))

abbrev pub LoopLeaves : Type 0
LoopLeaves =
    map left (on ∷ on_again ∷ off ∷ acted ColorLoopActionEnum.Deactivate off.lamp ∷ [])
    ≡ (leaves (13 ∷ 12 ∷ 8 ∷ 2 ∷ 3 ∷ 6 ∷ 7 ∷ 14 ∷ 15 ∷ 17 ∷ []) turns 8960 true
    ∷ leaves (13 ∷ 2 ∷ 3 ∷ 6 ∷ 7 ∷ 14 ∷ 15 ∷ 17 ∷ []) turns 8960 true
    ∷ leaves (13 ∷ 17 ∷ 8 ∷ 13 ∷ 2 ∷ 3 ∷ 6 ∷ 7 ∷ 14 ∷ 15 ∷ []) (Some Task.Stop) 640 false
    ∷ leaves (13 ∷ []) None 640 false
    ∷ [])

-- ---- by computation

busy-runs : BusyRuns
unfolding has_flag default_color_mode all_true color_valid move_to_valid task_valid running_valid lamp_valid first_cause clamp distance path_delta is_tie moved_hue permille_of reported filled hue_set saturation_set hue_saturation_moved timed hue_saturation_start started_of stepped start_answer step_answer activated loop_set command_effect command_cause command_answer next
busy-runs = refl

busy-reported : BusyReported
unfolding has_flag default_color_mode all_true color_valid move_to_valid hue_move_valid saturation_move_valid task_valid running_valid lamp_valid first_cause clamp distance path_delta is_tie moved_hue permille_of snapped loop_turn reported filled hue_set saturation_set mireds_set hue_saturation_moved timed hue_passed saturation_passed temperature_to_moved temperature_passed loop_passed hue_saturation_start temperature_to_start temperature_start started_of stepped start_answer step_answer activated loop_set command_effect command_cause command_answer next steps_at
busy-reported = refl

halt-leaves : HaltLeaves
unfolding has_flag default_color_mode all_true color_valid move_to_valid task_valid running_valid lamp_valid first_cause clamp distance path_delta is_tie moved_hue permille_of reported filled hue_set saturation_set hue_saturation_moved timed hue_saturation_start started_of stepped start_answer step_answer activated loop_set command_effect command_cause command_answer next halt_answer
halt-leaves = refl

loop-leaves : LoopLeaves
unfolding has_flag default_color_mode all_true color_valid move_to_valid task_valid running_valid lamp_valid first_cause clamp distance path_delta is_tie moved_hue permille_of reported filled hue_set saturation_set hue_saturation_moved timed hue_saturation_start started_of stepped start_answer step_answer activated loop_set command_effect command_cause command_answer next deactivated
loop-leaves = refl
