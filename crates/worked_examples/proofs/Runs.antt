-- Each transition, pass by pass: its start, where nothing has moved and the modes stay; on its way; within a second of
-- a notice; later; at its end, which reports within a second too. Document 01, leaves 5 and 6 and "The arithmetic of a
-- step"; docs/DECISIONS.md, points 11 and 14.
use Prim.Native.Nat.{ℕ}
use mathlib.Core.Bool.{Bool, true, false}
use mathlib.Core.List.{List, [], ◌∷◌, map}
use mathlib.Core.Path.{◌≡◌, refl}
use Rattle.matter.specs.declared.commands.Command.{Command}
use Rattle.matter.specs.declared.enums.ColorLoopDirectionEnum.{ColorLoopDirectionEnum}
use Rattle.matter.specs.declared.enums.ColorModeEnum.{ColorModeEnum}
use Rattle.matter.specs.declared.enums.DirectionEnum.{DirectionEnum}
use Rattle.matter.specs.declared.enums.EnhancedColorModeEnum.{EnhancedColorModeEnum}
use Rattle.matter.specs.declared.enums.MoveModeEnum.{MoveModeEnum}
use Rattle.matter.specs.declared.enums.StepModeEnum.{StepModeEnum}
use Rattle.lamp.specs.declared.Lamp.{Lamp}
use Rattle.lamp.specs.declared.Answer.{Answer}
use Rattle.worked_examples.specs.Cases.{lamp, started_on, answers_on, listed, idle, loop, up_between, next, steps_at}
use Rattle.matter.specs.All.{all_true}
use Rattle.matter.specs.Causes.{number_of}
use Rattle.matter.specs.Flags.{has_flag}
use Rattle.matter.specs.Rules.{default_color_mode}
use Rattle.notices.specs.Notices.{filled}
use Rattle.hue.specs.Hue.{distance, path_delta, is_tie, moved_hue}
use Rattle.progress.specs.Progress.{permille_of, clamp, snapped, loop_turn}
use Rattle.remaining_time.specs.RemainingTime.{reported}
use Rattle.color.specs.Setters.{hue_set, saturation_set, mireds_set}
use Rattle.color.specs.Valid.{color_valid}
use Rattle.tasks.specs.Valid.{move_to_valid, hue_move_valid, saturation_move_valid, task_valid, running_valid}
use Rattle.lamp.specs.Answers.{first_cause}
use Rattle.lamp.specs.Valid.{lamp_valid}
use Rattle.lamp.specs.Passes.{hue_passed, hue_saturation_moved, loop_passed, saturation_passed, temperature_passed, temperature_to_moved, timed}
use Rattle.lamp.specs.Calls.{hue_saturation_start, temperature_to_start, temperature_start, started as started_of, stepped, start_answer, step_answer}
use Rattle.commands.specs.Commands.{activated, loop_set, command_effect}
use Rattle.commands.specs.Answers.{command_cause, command_answer}

-- ---- what is seen of an answer to a start or a step

abbrev pub Modes : Type 0
Modes = ColorModeEnum × EnhancedColorModeEnum

pub record Pass : Type 0 where
  pub number : ℕ
  pub modes : Modes
  pub hue : ℕ
  pub saturation : ℕ
  pub mireds : ℕ
  pub tenths : ℕ
  pub list : List ℕ
  pub wait : ℕ
  pub rests : Bool

abbrev pub seen : Answer → Pass
seen a =
    record {
      number = number_of a.verdict;
      modes = (a.lamp.color.mode, a.lamp.color.emode);
      hue = a.lamp.color.hue;
      saturation = a.lamp.color.saturation;
      mireds = a.lamp.color.mireds;
      tenths = a.lamp.remaining.tenths;
      list = listed a;
      wait = a.wait;
      rests = idle a;
    }

-- accepted: whether the lamp is idle, modes, hue, saturation, mireds, remaining tenths, notices, wait
abbrev pub passed : Bool → Modes → ℕ → ℕ → ℕ → ℕ → List ℕ → ℕ → Pass
passed rests modes hue saturation mireds tenths list wait =
    record {
      number = 0;
      modes = modes;
      hue = hue;
      saturation = saturation;
      mireds = mireds;
      tenths = tenths;
      list = list;
      wait = wait;
      rests = rests;
    }

-- one that goes on; one that is done, with wait 0
abbrev pub going : Modes → ℕ → ℕ → ℕ → ℕ → List ℕ → ℕ → Pass
going modes hue saturation mireds tenths list wait = passed false modes hue saturation mireds tenths list wait

abbrev pub done : Modes → ℕ → ℕ → ℕ → ℕ → List ℕ → Pass
done modes hue saturation mireds tenths list = passed true modes hue saturation mireds tenths list 0

abbrev pub xy : Modes
xy = (ColorModeEnum.CurrentXAndCurrentY, EnhancedColorModeEnum.CurrentXAndCurrentY)

abbrev pub hue : Modes
hue = (ColorModeEnum.CurrentHueAndCurrentSaturation, EnhancedColorModeEnum.CurrentHueAndCurrentSaturation)

abbrev pub enhanced : Modes
enhanced = (ColorModeEnum.CurrentHueAndCurrentSaturation, EnhancedColorModeEnum.EnhancedCurrentHueAndCurrentSaturation)

abbrev pub warmth : Modes
warmth = (ColorModeEnum.ColorTemperatureMireds, EnhancedColorModeEnum.ColorTemperatureMireds)

-- a pass that reports of one attribute; the others are written out
abbrev pub of_hue : List ℕ
of_hue = 13 ∷ 2 ∷ 6 ∷ 7 ∷ 14 ∷ 15 ∷ []

abbrev pub of_mireds : List ℕ
of_mireds = 13 ∷ 5 ∷ 6 ∷ 7 ∷ 14 ∷ 16 ∷ []

abbrev pub of_saturation : List ℕ
of_saturation = 13 ∷ 4 ∷ 6 ∷ 7 ∷ 14 ∷ 15 ∷ []

-- ---- a run: a lamp, a command, the times of the steps after 5000, and what is seen of the start and of each step

pub record Run : Type 0 where
  pub lamp : Lamp
  pub command : Command
  pub times : List ℕ
  pub passes : List Pass

abbrev pub run : Lamp → Command → List ℕ → List Pass → Run
run l c times passes = record { lamp = l; command = c; times = times; passes = passes }

abbrev pub RunsReported : List Run → Type 0
RunsReported runs =
    map (λ (r : Run). map seen (answers_on r.lamp r.command r.times)) runs ≡ map (λ (r : Run). r.passes) runs

-- a command to the lamp of the cases, and its task started
abbrev pub started : Command → Answer
started c = started_on lamp c

-- the lamp of the cases brought at once to saturation 100; to hue 1280, enhanced; to 300 mireds
abbrev pub saturated : Lamp
saturated = (started (Command.MoveToSaturation 100 0)).lamp

abbrev pub hued : Lamp
hued = (started (Command.EnhancedMoveToHue 1280 DirectionEnum.Shortest 0)).lamp

abbrev pub warmed : Lamp
warmed = (started (Command.MoveToColorTemperature 300 0)).lamp

abbrev pub transitions : List Run
transitions =
    -- mireds from 250 to 153 in 10 tenths; in 11 tenths; and from 250 to 250, with no way
    run lamp (Command.MoveToColorTemperature 153 10) (500 ∷ 600 ∷ 950 ∷ 1000 ∷ [])
    (going xy 0 0 250 10 (16 ∷ []) 100
    ∷ going warmth 0 0 202 5 of_mireds 100
    ∷ going warmth 0 0 192 4 (13 ∷ 14 ∷ 16 ∷ []) 100
    ∷ going warmth 0 0 158 1 (13 ∷ 14 ∷ 16 ∷ []) 50
    ∷ done warmth 0 0 153 0 (13 ∷ 5 ∷ 6 ∷ 7 ∷ 14 ∷ 16 ∷ 1 ∷ []) ∷ [])
    ∷ run lamp (Command.MoveToColorTemperature 153 11) [] (going xy 0 0 250 11 (1 ∷ 16 ∷ []) 100 ∷ [])
    ∷ run lamp (Command.MoveToColorTemperature 250 11) []
    (done warmth 0 0 250 0 (1 ∷ 13 ∷ 5 ∷ 6 ∷ 7 ∷ 14 ∷ 16 ∷ 1 ∷ []) ∷ [])
    -- mireds up at 100 a second from 250 to 500, reported a second after the last notice, not after the last change;
    -- and down to 153
    ∷ run lamp (up_between 0 0) (100 ∷ 200 ∷ 1100 ∷ 2500 ∷ [])
    (going xy 0 0 250 0 (16 ∷ []) 100
    ∷ going warmth 0 0 260 0 of_mireds 100
    ∷ going warmth 0 0 270 0 (13 ∷ 14 ∷ 16 ∷ []) 100
    ∷ going warmth 0 0 360 0 of_mireds 100
    ∷ done warmth 0 0 500 0 of_mireds ∷ [])
    ∷ run lamp (Command.MoveColorTemperature MoveModeEnum.Down 100 0 0) (500 ∷ 970 ∷ [])
    (going xy 0 0 250 0 (16 ∷ []) 100
    ∷ going warmth 0 0 200 0 of_mireds 100
    ∷ done warmth 0 0 153 0 of_mireds ∷ [])
    -- a mired step down by 50
    ∷ run lamp (Command.StepColorTemperature StepModeEnum.Down 50 10 0 0) (500 ∷ 1000 ∷ [])
    (going xy 0 0 250 10 (16 ∷ []) 100
    ∷ going warmth 0 0 225 5 of_mireds 100
    ∷ done warmth 0 0 200 0 (13 ∷ 5 ∷ 6 ∷ 7 ∷ 14 ∷ 16 ∷ 1 ∷ []) ∷ [])
    -- saturation up at 100 a second from 0 to 254; down from 100 to 0; and down where it stands at 0 already
    ∷ run lamp (Command.MoveSaturation MoveModeEnum.Up 100) (100 ∷ 200 ∷ 1100 ∷ 2540 ∷ [])
    (going xy 0 0 250 0 (15 ∷ []) 100
    ∷ going hue 0 10 250 0 of_saturation 100
    ∷ going hue 0 20 250 0 (13 ∷ 14 ∷ 15 ∷ []) 100
    ∷ going hue 0 110 250 0 of_saturation 100
    ∷ done hue 0 254 250 0 of_saturation ∷ [])
    ∷ run saturated (Command.MoveSaturation MoveModeEnum.Down 100) (500 ∷ 1000 ∷ [])
    (going hue 0 100 250 0 (15 ∷ []) 100
    ∷ going hue 0 50 250 0 (13 ∷ 14 ∷ 15 ∷ []) 100
    ∷ done hue 0 0 250 0 of_saturation ∷ [])
    ∷ run lamp (Command.MoveSaturation MoveModeEnum.Down 100) [] (done hue 0 0 250 0 of_saturation ∷ [])
    -- a saturation step in 10 tenths; to 100 and down
    ∷ run lamp (Command.StepSaturation StepModeEnum.Up 100 10) (500 ∷ 950 ∷ 1000 ∷ [])
    (going xy 0 0 250 10 (15 ∷ []) 100
    ∷ going hue 0 50 250 5 of_saturation 100
    ∷ going hue 0 95 250 1 (13 ∷ 14 ∷ 15 ∷ []) 50
    ∷ done hue 0 100 250 0 (13 ∷ 4 ∷ 6 ∷ 7 ∷ 14 ∷ 15 ∷ 1 ∷ []) ∷ [])
    ∷ run saturated (Command.StepSaturation StepModeEnum.Down 40 10) (500 ∷ 1000 ∷ [])
    (going hue 0 100 250 10 (15 ∷ []) 100
    ∷ going hue 0 80 250 5 (13 ∷ 14 ∷ 15 ∷ []) 100
    ∷ done hue 0 60 250 0 (13 ∷ 4 ∷ 6 ∷ 7 ∷ 14 ∷ 15 ∷ 1 ∷ []) ∷ [])
    -- hue and saturation to 128 and 100 in 10 tenths; and enhanced
    ∷ run lamp (Command.MoveToHueAndSaturation 128 100 10 false 0) (500 ∷ 600 ∷ 1000 ∷ [])
    (going xy 0 0 250 10 (15 ∷ []) 100
    ∷ going hue 16384 50 250 5 (13 ∷ 2 ∷ 6 ∷ 7 ∷ 14 ∷ 13 ∷ 4 ∷ 6 ∷ 7 ∷ 14 ∷ 15 ∷ []) 100
    ∷ going hue 19660 60 250 4 (13 ∷ 14 ∷ 13 ∷ 14 ∷ 15 ∷ []) 100
    ∷ done hue 32768 100 250 0 (13 ∷ 2 ∷ 6 ∷ 7 ∷ 14 ∷ 13 ∷ 4 ∷ 6 ∷ 7 ∷ 14 ∷ 15 ∷ 1 ∷ []) ∷ [])
    ∷ run lamp (Command.MoveToHueAndSaturation 0 100 10 true 1280) (0 ∷ 500 ∷ [])
    (going xy 0 0 250 10 (15 ∷ []) 100
    ∷ going xy 0 0 250 10 (15 ∷ []) 100
    ∷ going enhanced 640 50 250 5 (13 ∷ 2 ∷ 3 ∷ 6 ∷ 7 ∷ 14 ∷ 13 ∷ 4 ∷ 6 ∷ 7 ∷ 14 ∷ 15 ∷ []) 100 ∷ [])
    -- hue to 128 in the longest time, 65,535 tenths
    ∷ run lamp (Command.MoveToHue 128 DirectionEnum.Shortest 65535) (6_553_499 ∷ 6_553_500 ∷ [])
    (going xy 0 0 250 65535 (1 ∷ 15 ∷ []) 100
    ∷ going hue 32735 0 250 1 of_hue 1
    ∷ done hue 32768 0 250 0 (13 ∷ 2 ∷ 6 ∷ 7 ∷ 14 ∷ 15 ∷ 1 ∷ []) ∷ [])
    -- enhanced hue down past 0; a plain step down; an enhanced step by 1, which stands still until its end
    ∷ run lamp (Command.EnhancedMoveToHue 65000 DirectionEnum.Down 10) (500 ∷ 1000 ∷ [])
    (going xy 0 0 250 10 (15 ∷ []) 100
    ∷ going enhanced 65268 0 250 5 (13 ∷ 2 ∷ 3 ∷ 6 ∷ 7 ∷ 14 ∷ 15 ∷ []) 100
    ∷ done enhanced 65000 0 250 0 (13 ∷ 2 ∷ 3 ∷ 6 ∷ 7 ∷ 14 ∷ 15 ∷ 1 ∷ []) ∷ [])
    ∷ run lamp (Command.StepHue StepModeEnum.Down 1 10) (500 ∷ 950 ∷ 1000 ∷ [])
    (going xy 0 0 250 10 (15 ∷ []) 100
    ∷ going hue 65408 0 250 5 of_hue 100
    ∷ going hue 65293 0 250 1 (13 ∷ 14 ∷ 15 ∷ []) 50
    ∷ done hue 65280 0 250 0 (13 ∷ 2 ∷ 6 ∷ 7 ∷ 14 ∷ 15 ∷ 1 ∷ []) ∷ [])
    ∷ run lamp (Command.EnhancedStepHue StepModeEnum.Up 1 10) (500 ∷ 1000 ∷ [])
    (going xy 0 0 250 10 (15 ∷ []) 100
    ∷ going xy 0 0 250 5 (15 ∷ []) 100
    ∷ done enhanced 1 0 250 0 (13 ∷ 2 ∷ 3 ∷ 6 ∷ 7 ∷ 14 ∷ 15 ∷ 1 ∷ []) ∷ [])
    -- hue up at 10 plain numbers a second, and down at 1000 enhanced ones
    ∷ run lamp (Command.MoveHue MoveModeEnum.Up 10 false) (100 ∷ 200 ∷ 1100 ∷ [])
    (going xy 0 0 250 0 (15 ∷ []) 100
    ∷ going hue 256 0 250 0 of_hue 100
    ∷ going hue 512 0 250 0 (13 ∷ 14 ∷ 15 ∷ []) 100
    ∷ going hue 2816 0 250 0 of_hue 100 ∷ [])
    ∷ run lamp (Command.EnhancedMoveHue MoveModeEnum.Down 1000) (100 ∷ 200 ∷ [])
    (going xy 0 0 250 0 (15 ∷ []) 100
    ∷ going enhanced 65436 0 250 0 (13 ∷ 2 ∷ 3 ∷ 6 ∷ 7 ∷ 14 ∷ 15 ∷ []) 100
    ∷ going enhanced 65336 0 250 0 (13 ∷ 14 ∷ 15 ∷ []) 100 ∷ [])
    -- the colour loop up, a second a turn, which reports at its command
    ∷ run lamp (loop ColorLoopDirectionEnum.Increment) (5 ∷ 995 ∷ 1005 ∷ 1006 ∷ [])
    (going enhanced 0 0 250 0 (15 ∷ []) 100
    ∷ going enhanced 327 0 250 0 (14 ∷ 15 ∷ []) 100
    ∷ going enhanced 0 0 250 0 (14 ∷ 15 ∷ []) 5
    ∷ going enhanced 0 0 250 0 (15 ∷ []) 100
    ∷ going enhanced 393 0 250 0 (2 ∷ 3 ∷ 6 ∷ 7 ∷ 14 ∷ 15 ∷ []) 100 ∷ [])
    -- the modes: saturation keeps an enhanced hue mode, a plain hue and mireds do not; saturation leaves the mireds'
    -- mode
    ∷ run hued (Command.MoveSaturation MoveModeEnum.Up 100) (100 ∷ [])
    (going enhanced 1280 0 250 0 (15 ∷ []) 100
    ∷ going enhanced 1280 10 250 0 of_saturation 100 ∷ [])
    ∷ run hued (Command.MoveHue MoveModeEnum.Up 10 false) (100 ∷ [])
    (going enhanced 1280 0 250 0 (15 ∷ []) 100
    ∷ going hue 1536 0 250 0 (13 ∷ 14 ∷ 15 ∷ []) 100 ∷ [])
    ∷ run hued (up_between 0 0) (100 ∷ [])
    (going enhanced 1280 0 250 0 (16 ∷ []) 100
    ∷ going warmth 1280 0 260 0 of_mireds 100 ∷ [])
    ∷ run warmed (Command.MoveSaturation MoveModeEnum.Up 100) (100 ∷ [])
    (going warmth 0 0 300 0 (15 ∷ []) 100
    ∷ going hue 0 10 300 0 of_saturation 100 ∷ [])
    ∷ run warmed (Command.MoveToSaturation 0 10) [] (done hue 0 0 300 0 (13 ∷ 4 ∷ 6 ∷ 7 ∷ 14 ∷ 15 ∷ 1 ∷ []) ∷ [])
    ∷ []

abbrev pub TransitionsReported : Type 0
TransitionsReported = RunsReported transitions

-- ---- by computation

transitions-reported : TransitionsReported
unfolding has_flag default_color_mode all_true color_valid move_to_valid hue_move_valid saturation_move_valid task_valid running_valid lamp_valid first_cause clamp distance path_delta is_tie moved_hue permille_of snapped loop_turn reported filled hue_set saturation_set mireds_set hue_saturation_moved timed hue_passed saturation_passed temperature_to_moved temperature_passed loop_passed hue_saturation_start temperature_to_start temperature_start started_of stepped start_answer step_answer activated loop_set command_effect command_cause command_answer next steps_at
transitions-reported = refl
