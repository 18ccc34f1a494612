-- What each command answers, whole: document 01, "Commands in their order", and docs/DECISIONS.md, points 3 to 6 and
-- 10. A command that gives a task changes nothing but the clock; the colour loop's command stands apart below.
use Rattle.std.specs.Prelude.{Option, Some, None}
use Prim.Native.Nat.{ℕ}
use mathlib.Core.Bool.{Bool, true, false}
use mathlib.Core.List.{List, [], ◌∷◌, ◌++◌, map}
use mathlib.Core.Path.{◌≡◌, refl}
use lib.IntN.{ℤ, pos, neg_ℤ}
use lib.ListN.{replicate}
use Rattle.matter.specs.declared.enums.ColorLoopActionEnum.{ColorLoopActionEnum}
use Rattle.matter.specs.declared.enums.ColorLoopDirectionEnum.{ColorLoopDirectionEnum}
use Rattle.matter.specs.declared.commands.Command.{Command}
use Rattle.matter.specs.declared.enums.DirectionEnum.{DirectionEnum}
use Rattle.matter.specs.declared.enums.MoveModeEnum.{MoveModeEnum}
use Rattle.matter.specs.declared.enums.OnOff.{OnOff}
use Rattle.matter.specs.declared.enums.StepModeEnum.{StepModeEnum}
use Rattle.notices.specs.declared.Notices.{Notices}
use Rattle.tasks.specs.declared.Task.{Task}
use Rattle.lamp.specs.declared.Lamp.{Lamp}
use Rattle.lamp.specs.declared.LoopSettings.{LoopSettings}
use Rattle.lamp.specs.declared.Answer.{Answer}
use Rattle.worked_examples.specs.Cases.{lamp, plain, listed, bare, busy, next}
use Rattle.matter.specs.All.{all_true}
use Rattle.matter.specs.Causes.{Verdict, accepted, number_of, constraint_error, invalid_command}
use Rattle.matter.specs.Flags.{has_flag}
use Rattle.matter.specs.Rules.{default_color_mode}
use Rattle.notices.specs.Notices.{filled}
use Rattle.hue.specs.Hue.{distance, path_delta, is_tie, moved_hue}
use Rattle.progress.specs.Progress.{permille_of, clamp}
use Rattle.remaining_time.specs.RemainingTime.{reported}
use Rattle.color.specs.Setters.{hue_set, saturation_set}
use Rattle.color.specs.Valid.{color_valid}
use Rattle.tasks.specs.Valid.{move_to_valid, task_valid, running_valid}
use Rattle.lamp.specs.Answers.{first_cause}
use Rattle.lamp.specs.Valid.{lamp_valid}
use Rattle.lamp.specs.Passes.{hue_saturation_moved, timed}
use Rattle.lamp.specs.Calls.{hue_saturation_start, started, stepped, start_answer, step_answer}
use Rattle.commands.specs.Commands.{activated, loop_set, command_effect}
use Rattle.commands.specs.Answers.{command_cause, command_answer}

-- ---- a row: a command, on or off, and its whole answer on a lamp

-- the commands come at this clock
abbrev pub now : ℕ
now = 5600

-- the lamp at that clock, all else as it was
abbrev pub later : Lamp → Lamp
later l =
    record {
      clock = now;
      bounds = l.bounds;
      color = l.color;
      looping = l.looping;
      remaining = l.remaining;
      options = l.options;
      running = l.running;
    }

pub record Row : Type 0 where
  pub command : Command
  pub on_off : OnOff
  pub number : ℕ
  pub answer : Lamp → Answer

abbrev pub gave_with : Notices → Task → Lamp → Answer
gave_with notices task l =
    record { verdict = accepted; lamp = later l; notices = notices; task = Some task; wait = 0 }

abbrev pub gave : Task → Lamp → Answer
gave task l = gave_with (record { places = 17 ∷ replicate 15 0; len = 1 }) task l

-- `gives`: a task and 17; `ties`: and 18 behind it; `gives_off`: as `gives`, off; `passes`: off and skipped, no task, the
-- clock set; `refuses`, `refuses_off`: the lamp as it was
abbrev pub gives : Command → Task → Row
gives c task = record { command = c; on_off = OnOff.On; number = 0; answer = gave task }

abbrev pub ties : Command → Task → Row
ties c task =
    record {
      command = c;
      on_off = OnOff.On;
      number = 0;
      answer = gave_with (record { places = 17 ∷ 18 ∷ replicate 14 0; len = 2 }) task;
    }

abbrev pub gives_off : Command → Task → Row
gives_off c task = record { command = c; on_off = OnOff.Off; number = 0; answer = gave task }

abbrev pub passes : Command → Row
passes c = record { command = c; on_off = OnOff.Off; number = 0; answer = λ (l : Lamp). bare accepted (later l) }

abbrev pub refuses : Command → Verdict → ℕ → Row
refuses c cause number = record { command = c; on_off = OnOff.On; number = number; answer = bare cause }

abbrev pub refuses_off : Command → Verdict → ℕ → Row
refuses_off c cause number = record { command = c; on_off = OnOff.Off; number = number; answer = bare cause }

abbrev pub Says : Lamp → List Row → Type 0
Says l rows =
    (map (λ (r : Row). plain l r.command r.on_off now) rows ≡ map (λ (r : Row). r.answer l) rows)
    × (map (λ (r : Row). number_of (plain l r.command r.on_off now).verdict) rows ≡ map (λ (r : Row). r.number) rows)

-- ---- the tasks, in 7 tenths

abbrev pub to_hue : ℤ → Bool → Task
to_hue way enhanced =
    Task.HueSaturationMoveTo
    (record { delta = Some way; saturation = None; ms = 700; enhanced = enhanced })

abbrev pub to_saturation : ℕ → Task
to_saturation saturation =
    Task.HueSaturationMoveTo
    (record { delta = None; saturation = Some saturation; ms = 700; enhanced = false })

abbrev pub to_both : ℤ → ℕ → Bool → Task
to_both way saturation enhanced =
    Task.HueSaturationMoveTo
    (record { delta = Some way; saturation = Some saturation; ms = 700; enhanced = enhanced })

abbrev pub to_mireds : ℕ → Task
to_mireds target = Task.ColorTemperatureMoveTo (record { target = target; ms = 700 })

abbrev pub hue_move : MoveModeEnum → ℕ → Bool → Task
hue_move mode rate enhanced = Task.HueMove (record { direction = mode; rate = rate; enhanced = enhanced })

abbrev pub saturation_move : MoveModeEnum → ℕ → Task
saturation_move mode rate = Task.SaturationMove (record { direction = mode; rate = rate })

abbrev pub mireds_move : ℤ → ℕ → ℕ → Task
mireds_move rate min max = Task.ColorTemperatureMove (record { rate = rate; min = min; max = max })

-- a mired step up by 10 with limits
abbrev pub ten_up : ℕ → ℕ → Command
ten_up min max = Command.StepColorTemperature StepModeEnum.Up 10 7 min max

-- ---- each command but the colour loop's, on the lamp of the cases: hue 0, saturation 0, mireds 250 in 153 to 500

abbrev pub commands : List Row
commands =
    gives (Command.MoveToHue 200 DirectionEnum.Shortest 7) (to_hue (neg_ℤ (pos 14336)) false)
    ∷ gives (Command.MoveHue MoveModeEnum.Up 10 false) (hue_move MoveModeEnum.Up 2560 false)
    ∷ gives (Command.MoveHue MoveModeEnum.Down 10 true) (hue_move MoveModeEnum.Down 10 true)
    ∷ gives (Command.StepHue StepModeEnum.Down 5 7) (to_hue (neg_ℤ (pos 1280)) false)
    ∷ gives (Command.MoveToSaturation 77 7) (to_saturation 77)
    ∷ gives (Command.MoveSaturation MoveModeEnum.Down 9) (saturation_move MoveModeEnum.Down 9)
    ∷ gives (Command.StepSaturation StepModeEnum.Up 255 7) (to_saturation 254)
    ∷ gives (Command.MoveToHueAndSaturation 200 77 7 false 1234) (to_both (neg_ℤ (pos 14336)) 77 false)
    ∷ gives (Command.MoveToHueAndSaturation 200 77 7 true 1234) (to_both (pos 1234) 77 true)
    ∷ gives (Command.EnhancedMoveToHue 60000 DirectionEnum.Up 7) (to_hue (pos 60000) true)
    ∷ gives (Command.EnhancedMoveHue MoveModeEnum.Down 1000) (hue_move MoveModeEnum.Down 1000 true)
    ∷ gives (Command.EnhancedStepHue StepModeEnum.Up 1000 7) (to_hue (pos 1000) true)
    ∷ gives Command.StopMoveStep Task.Stop
    -- half way round: Shortest and Longest tie, whatever the saturation; Up, Down and steps never
    ∷ ties (Command.MoveToHue 128 DirectionEnum.Shortest 7) (to_hue (pos 32768) false)
    ∷ ties (Command.MoveToHueAndSaturation 128 0 7 false 0) (to_both (pos 32768) 0 false)
    ∷ ties (Command.MoveToHueAndSaturation 0 77 7 true 32768) (to_both (pos 32768) 77 true)
    ∷ ties (Command.EnhancedMoveToHue 32768 DirectionEnum.Longest 7) (to_hue (neg_ℤ (pos 32768)) true)
    ∷ gives (Command.EnhancedMoveToHue 32767 DirectionEnum.Shortest 7) (to_hue (pos 32767) true)
    ∷ gives (Command.MoveToHue 128 DirectionEnum.Up 7) (to_hue (pos 32768) false)
    ∷ gives (Command.MoveToHue 128 DirectionEnum.Down 7) (to_hue (neg_ℤ (pos 32768)) false)
    ∷ gives (Command.StepHue StepModeEnum.Up 128 7) (to_hue (pos 32768) false)
    -- the target clamped to the bounds; a move's own limits with only 0 replaced, crossed ones too
    ∷ gives (Command.MoveToColorTemperature 10 7) (to_mireds 153)
    ∷ gives (Command.MoveToColorTemperature 600 7) (to_mireds 500)
    ∷ gives (Command.MoveColorTemperature MoveModeEnum.Down 30 0 600) (mireds_move (neg_ℤ (pos 30)) 153 600)
    ∷ gives (Command.MoveColorTemperature MoveModeEnum.Up 30 100 0) (mireds_move (pos 30) 100 500)
    ∷ gives (Command.MoveColorTemperature MoveModeEnum.Up 10 400 300) (mireds_move (pos 10) 400 300)
    ∷ gives (Command.StepColorTemperature StepModeEnum.Up 400 7 0 0) (to_mireds 500)
    ∷ gives (Command.StepColorTemperature StepModeEnum.Down 40 7 220 0) (to_mireds 220)
    -- a mired step's limits cross only where lo is above hi, and then both count as 0 (document 02, A.12)
    ∷ gives (ten_up 400 300) (to_mireds 260)
    ∷ gives (ten_up 300 300) (to_mireds 300)
    ∷ gives (ten_up 600 0) (to_mireds 260)
    ∷ gives (ten_up 500 0) (to_mireds 500)
    ∷ gives (ten_up 0 100) (to_mireds 260)
    ∷ gives (ten_up 0 153) (to_mireds 153)
    ∷ gives (Command.StepColorTemperature StepModeEnum.Up 100 7 400 300) (to_mireds 350)
    ∷ gives (Command.StepColorTemperature StepModeEnum.Down 10 7 0 100) (to_mireds 240)
    ∷ gives (Command.StepColorTemperature StepModeEnum.Up 100 7 600 300) (to_mireds 350)
    ∷ gives (Command.StepColorTemperature StepModeEnum.Down 90 7 200 100) (to_mireds 160)
    ∷ gives (ten_up 301 300) (to_mireds 260)
    ∷ passes (ten_up 400 300)
    ∷ refuses (Command.StepColorTemperature StepModeEnum.Up 0 7 400 300) invalid_command 2
    ∷ refuses_off (Command.StepColorTemperature StepModeEnum.Up 0 7 400 300) invalid_command 2
    -- Stop mode, before rate and off
    ∷ gives (Command.MoveHue MoveModeEnum.Stop 0 false) Task.Stop
    ∷ gives (Command.EnhancedMoveHue MoveModeEnum.Stop 0) Task.Stop
    ∷ gives (Command.MoveSaturation MoveModeEnum.Stop 0) Task.Stop
    ∷ gives (Command.MoveColorTemperature MoveModeEnum.Stop 0 400 300) Task.Stop
    ∷ gives_off (Command.MoveHue MoveModeEnum.Stop 0 false) Task.Stop
    -- the numbers before off; off that may not execute
    ∷ refuses_off (Command.MoveToHue 255 DirectionEnum.Shortest 7) constraint_error 1
    ∷ refuses_off (Command.MoveSaturation MoveModeEnum.Up 0) invalid_command 2
    ∷ passes (Command.MoveToHue 128 DirectionEnum.Shortest 7)
    ∷ passes Command.StopMoveStep
    ∷ passes (Command.ColorLoopSet 15 ColorLoopActionEnum.ActivateFromEnhancedCurrentHue
    ColorLoopDirectionEnum.Decrement 30 100)
    ∷ []

-- on a lamp that runs, at hue 16,384 and saturation 50
abbrev pub busy_commands : List Row
busy_commands =
    gives (Command.MoveToHue 0 DirectionEnum.Shortest 7) (to_hue (neg_ℤ (pos 16384)) false)
    ∷ gives (Command.EnhancedMoveToHue 0 DirectionEnum.Longest 7) (to_hue (pos 49152) true)
    ∷ ties (Command.EnhancedMoveToHue 49152 DirectionEnum.Shortest 7) (to_hue (pos 32768) true)
    ∷ gives (Command.MoveToHue 128 DirectionEnum.Shortest 7) (to_hue (pos 16384) false)
    ∷ gives (Command.StepSaturation StepModeEnum.Up 40 7) (to_saturation 90)
    ∷ gives (Command.StepSaturation StepModeEnum.Up 205 7) (to_saturation 254)
    ∷ gives (Command.StepSaturation StepModeEnum.Down 40 7) (to_saturation 10)
    ∷ gives (Command.StepSaturation StepModeEnum.Down 60 7) (to_saturation 0)
    ∷ []

abbrev pub CommandsReported : Type 0
CommandsReported = Says lamp commands × Says busy busy_commands

-- ---- the colour loop's command: one flag alone, and one with the action

-- its flags and seconds (direction down, start hue 100, from the start hue); notices, task and settings after it
pub record LoopRow : Type 0 where
  pub flags : ℕ
  pub seconds : ℕ
  pub list : List ℕ
  pub task : Option Task
  pub looping : LoopSettings

abbrev pub settings : Bool → ColorLoopDirectionEnum → ℕ → ℕ → LoopSettings
settings active direction time start =
    record { active = active; direction = direction; time = time; start = start; stored = 0 }

abbrev pub flagged : ℕ → List ℕ → LoopSettings → LoopRow
flagged flags list looping =
    record { flags = flags; seconds = 30; list = list; task = None; looping = looping }

-- with the action: behind its flag's notice, and in the task the lamp's direction and time
abbrev pub turned : ℕ → ℕ → List ℕ → ℕ → ℕ → LoopRow
turned flags seconds list time start =
    record {
      flags = flags;
      seconds = seconds;
      list = list ++ (13 ∷ 12 ∷ 8 ∷ 2 ∷ 3 ∷ 6 ∷ 7 ∷ 14 ∷ 15 ∷ 17 ∷ []);
      task = Some (Task.ColorLoop (record { direction = ColorLoopDirectionEnum.Increment; seconds = time }));
      looping = settings true ColorLoopDirectionEnum.Increment time start;
    }

abbrev pub flag_rows : List LoopRow
flag_rows =
    flagged 2 (9 ∷ 13 ∷ []) (settings false ColorLoopDirectionEnum.Decrement 25 8960)
    ∷ flagged 4 (10 ∷ 13 ∷ []) (settings false ColorLoopDirectionEnum.Increment 30 8960)
    ∷ flagged 8 (11 ∷ 13 ∷ []) (settings false ColorLoopDirectionEnum.Increment 25 100)
    ∷ turned 9 30 (11 ∷ []) 25 100
    -- 0 seconds are carried as 0
    ∷ turned 5 0 (10 ∷ []) 0 8960
    ∷ []

abbrev pub loop_said : Answer → ℕ × List ℕ × (Option Task) × LoopSettings × ℕ
loop_said a = (number_of a.verdict, listed a, a.task, a.lamp.looping, a.wait)

abbrev pub with_flags : ℕ → ℕ → Answer
with_flags flags seconds =
    plain lamp
    (Command.ColorLoopSet flags ColorLoopActionEnum.ActivateFromColorLoopStartEnhancedHue
    ColorLoopDirectionEnum.Decrement
    seconds 100)
    OnOff.On now

abbrev pub FlagReported : Type 0
FlagReported =
    map (λ (r : LoopRow). loop_said (with_flags r.flags r.seconds)) flag_rows
    ≡ map (λ (r : LoopRow). (0, r.list, r.task, r.looping, 0)) flag_rows

-- ---- by computation

commands-reported : CommandsReported
unfolding has_flag default_color_mode all_true color_valid move_to_valid task_valid running_valid lamp_valid first_cause clamp distance path_delta is_tie moved_hue permille_of reported filled hue_set saturation_set hue_saturation_moved timed hue_saturation_start started stepped start_answer step_answer activated loop_set command_effect command_cause command_answer next
commands-reported = ((refl, refl), (refl, refl))

flag-reported : FlagReported
unfolding has_flag default_color_mode all_true color_valid running_valid lamp_valid first_cause clamp filled hue_set activated loop_set command_effect command_cause command_answer
flag-reported = refl
