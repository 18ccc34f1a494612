-- Notice lists in their order, by computation: the three lines that document 01 gives for `fade`, and the lists that
-- docs/DECISIONS.md fixes (points 1 and 5); and the numbers of the loop's snap.
use Rattle.std.specs.Prelude.{Option, Some, None, ℤ}
use Prim.Native.Nat.{ℕ}
use mathlib.Core.Bool.{Bool, true, false}
use mathlib.Core.List.{[], ◌∷◌, map}
use mathlib.Core.Path.{◌≡◌, refl}
use lib.IntN.{pos}
use Rattle.matter.specs.declared.enums.ColorLoopActionEnum.{ColorLoopActionEnum}
use Rattle.matter.specs.declared.enums.ColorLoopDirectionEnum.{ColorLoopDirectionEnum}
use Rattle.matter.specs.declared.commands.Command.{Command}
use Rattle.matter.specs.declared.enums.DirectionEnum.{DirectionEnum}
use Rattle.matter.specs.declared.enums.OnOff.{OnOff}
use Rattle.progress.specs.Progress.{snapped, permille_of, clamp}
use Rattle.tasks.specs.declared.Task.{Task}
use Rattle.lamp.specs.declared.Lamp.{Lamp}
use Rattle.lamp.specs.declared.Answer.{Answer}
use Rattle.lamp.specs.Calls.{start_answer, hue_saturation_start, started, stepped, step_answer}
use Rattle.worked_examples.specs.Cases.{lamp, plain, given, answers, listed, next, steps_at}
use Rattle.matter.specs.All.{all_true}
use Rattle.matter.specs.Flags.{has_flag}
use Rattle.matter.specs.Rules.{default_color_mode}
use Rattle.notices.specs.Notices.{filled}
use Rattle.hue.specs.Hue.{distance, path_delta, is_tie, moved_hue}
use Rattle.remaining_time.specs.RemainingTime.{reported}
use Rattle.color.specs.Setters.{hue_set, saturation_set}
use Rattle.color.specs.Valid.{color_valid}
use Rattle.tasks.specs.Valid.{move_to_valid, task_valid, running_valid}
use Rattle.lamp.specs.Answers.{first_cause}
use Rattle.lamp.specs.Valid.{lamp_valid}
use Rattle.lamp.specs.Passes.{hue_saturation_moved, timed}
use Rattle.commands.specs.Commands.{deactivated, activated, loop_set, command_effect}
use Rattle.commands.specs.Answers.{command_cause, command_answer}

-- a move-to of a way, with a saturation or without, started on a lamp at clock 5000; and on the lamp of the cases
abbrev pub begun_on : Lamp → Option ℤ → Option ℕ → ℕ → Bool → Answer
begun_on l delta saturation ms enhanced =
    start_answer l (Task.HueSaturationMoveTo (record {
      delta = delta;
      saturation = saturation;
      ms = ms;
      enhanced = enhanced;
    })) 5000

abbrev pub begun : Option ℤ → Option ℕ → ℕ → Bool → Answer
begun delta saturation ms enhanced = begun_on lamp delta saturation ms enhanced

-- ---- `fade` on `128 0 2 5000`: "15", "13 2 6 7 14 15", "13 2 6 7 14 15 1"

abbrev pub fade : Command
fade = Command.MoveToHue 128 DirectionEnum.Shortest 2

abbrev pub FadeCommand : Type 0
FadeCommand =
    (given lamp fade).task
    ≡ Some (Task.HueSaturationMoveTo
    (record { delta = Some (pos 32768); saturation = None; ms = 200; enhanced = false }))

abbrev pub FadeReported : Type 0
FadeReported =
    map listed (answers fade (100 ∷ 200 ∷ []))
    ≡ ((15 ∷ []) ∷ (13 ∷ 2 ∷ 6 ∷ 7 ∷ 14 ∷ 15 ∷ []) ∷ (13 ∷ 2 ∷ 6 ∷ 7 ∷ 14 ∷ 15 ∷ 1 ∷ []) ∷ [])

abbrev pub FadeWaits : Type 0
FadeWaits =
    map (λ (a : Answer). a.wait) (answers fade (100 ∷ 200 ∷ [])) ≡ (100 ∷ 100 ∷ 0 ∷ [])

-- ---- the full time first: way 1 in 1100 ms; and the longest list, no way and saturation 0, enhanced

abbrev pub StartReported : Type 0
StartReported =
    map listed
    (begun (Some (pos 1)) None 1100 false
    ∷ begun (Some (pos 0)) (Some 0) 1100 true
    ∷ [])
    ≡ ((1 ∷ 15 ∷ []) ∷ (1 ∷ 13 ∷ 2 ∷ 3 ∷ 6 ∷ 7 ∷ 14 ∷ 13 ∷ 4 ∷ 6 ∷ 7 ∷ 14 ∷ 15 ∷ 1 ∷ []) ∷ [])

-- ---- time 0 with remaining 5: way 1 in 500 ms was started before

abbrev pub five_left : Lamp
five_left = (begun (Some (pos 1)) None 500 false).lamp

abbrev pub AtOnceReported : Type 0
AtOnceReported =
    (five_left.remaining.tenths ≡ 5)
    × (listed (begun_on five_left (Some (pos 1)) None 0 false)
    ≡ (1 ∷ 13 ∷ 2 ∷ 6 ∷ 7 ∷ 14 ∷ 15 ∷ []))

-- ---- the colour loop: on with all flags, on again, off, off again; and with no flag

abbrev pub loop_flags : ℕ → ColorLoopActionEnum → Lamp → Answer
loop_flags flags action l =
    plain l (Command.ColorLoopSet flags action ColorLoopDirectionEnum.Increment 30 100) OnOff.On 5000

abbrev pub looped : ColorLoopActionEnum → Lamp → Answer
looped action l = loop_flags 15 action l

abbrev pub on : Answer
on = looped ColorLoopActionEnum.ActivateFromColorLoopStartEnhancedHue lamp

abbrev pub off : Answer
off = looped ColorLoopActionEnum.Deactivate on.lamp

abbrev pub LoopReported : Type 0
LoopReported =
    map listed
    (on ∷ looped ColorLoopActionEnum.ActivateFromEnhancedCurrentHue on.lamp ∷ off
    ∷ looped ColorLoopActionEnum.Deactivate off.lamp
    ∷ [])
    ≡ ((9 ∷ 10 ∷ 11 ∷ 13 ∷ 12 ∷ 8 ∷ 2 ∷ 3 ∷ 6 ∷ 7 ∷ 14 ∷ 15 ∷ 17 ∷ [])
    ∷ (9 ∷ 10 ∷ 11 ∷ 13 ∷ 2 ∷ 3 ∷ 6 ∷ 7 ∷ 14 ∷ 15 ∷ 17 ∷ [])
    ∷ (9 ∷ 10 ∷ 11 ∷ 13 ∷ 17 ∷ 8 ∷ 13 ∷ 2 ∷ 3 ∷ 6 ∷ 7 ∷ 14 ∷ 15 ∷ [])
    ∷ (9 ∷ 10 ∷ 11 ∷ 13 ∷ [])
    ∷ [])

abbrev pub NoFlagReported : Type 0
NoFlagReported =
    listed (loop_flags 0 ColorLoopActionEnum.ActivateFromEnhancedCurrentHue lamp) ≡ (13 ∷ [])

-- ---- the snap at its numbers: a turn's part of 65,152 and more goes up, one of 384 and less goes down, but in the
-- first turn

abbrev pub SnapAt : Type 0
SnapAt =
    map snapped (65151 ∷ 65152 ∷ 65920 ∷ 65921 ∷ 384 ∷ []) ≡ (65151 ∷ 65536 ∷ 65536 ∷ 65921 ∷ 384 ∷ [])

-- ---- by computation

fade-command : FadeCommand
unfolding has_flag default_color_mode all_true color_valid running_valid lamp_valid first_cause clamp distance path_delta is_tie command_effect command_cause command_answer
fade-command = refl

fade-reported : FadeReported
unfolding has_flag default_color_mode all_true color_valid move_to_valid task_valid running_valid lamp_valid first_cause clamp distance path_delta is_tie moved_hue permille_of reported filled hue_set hue_saturation_moved timed hue_saturation_start started stepped start_answer step_answer command_effect command_cause command_answer next steps_at
fade-reported = refl

fade-waits : FadeWaits
unfolding has_flag default_color_mode all_true color_valid move_to_valid task_valid running_valid lamp_valid first_cause clamp distance path_delta is_tie moved_hue permille_of reported filled hue_set hue_saturation_moved timed hue_saturation_start started stepped start_answer step_answer command_effect command_cause command_answer next steps_at
fade-waits = refl

start-reported : StartReported
unfolding has_flag default_color_mode all_true color_valid move_to_valid task_valid running_valid lamp_valid first_cause clamp moved_hue permille_of reported filled hue_set saturation_set hue_saturation_moved timed hue_saturation_start started stepped start_answer step_answer
start-reported = refl

at-once-reported : AtOnceReported
unfolding has_flag default_color_mode all_true color_valid move_to_valid task_valid running_valid lamp_valid first_cause clamp moved_hue permille_of reported filled hue_set hue_saturation_moved timed hue_saturation_start started stepped start_answer step_answer
at-once-reported = (refl, refl)

loop-reported : LoopReported
unfolding has_flag default_color_mode all_true color_valid running_valid lamp_valid first_cause clamp filled hue_set deactivated activated loop_set command_effect command_cause command_answer
loop-reported = refl

no-flag-reported : NoFlagReported
unfolding has_flag default_color_mode all_true color_valid running_valid lamp_valid first_cause clamp filled loop_set command_effect command_cause command_answer
no-flag-reported = refl

snap-at : SnapAt
unfolding snapped
snap-at = refl
