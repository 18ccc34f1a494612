-- The words for C, literally: what docs/WORDS.md and examples/yemkruos.h say of each kind, in numbers.
use Rattle.std.specs.Prelude.{Option, Some, None, Err}
use Rattle.matter.specs.declared.refusals.Refusal.{Refusal}
use Prim.Native.Nat.{ℕ}
use mathlib.Core.Bool.{true, false}
use mathlib.Core.List.{List, [], ◌∷◌, map}
use mathlib.Core.Path.{◌≡◌, refl}
use lib.IntN.{pos, neg_ℤ}
use lib.ListN.{replicate}
use Rattle.matter.specs.declared.commands.Command.{Command}
use Rattle.matter.specs.declared.commands.CommandOptions.{CommandOptions}
use Rattle.matter.specs.Requests.{request}
use Rattle.matter.specs.declared.enums.DirectionEnum.{DirectionEnum}
use Rattle.matter.specs.declared.enums.MoveModeEnum.{MoveModeEnum}
use Rattle.matter.specs.declared.enums.StepModeEnum.{StepModeEnum}
use Rattle.matter.specs.declared.enums.ColorLoopActionEnum.{ColorLoopActionEnum}
use Rattle.matter.specs.declared.enums.ColorLoopDirectionEnum.{ColorLoopDirectionEnum}
use Rattle.matter.specs.declared.enums.ColorModeEnum.{ColorModeEnum}
use Rattle.matter.specs.declared.enums.EnhancedColorModeEnum.{EnhancedColorModeEnum}
use Rattle.matter.specs.declared.enums.OnOff.{OnOff}
use Rattle.tasks.specs.declared.HueSaturationMoveTo.{HueSaturationMoveTo}
use Rattle.tasks.specs.declared.Running.{Running}
use Rattle.tasks.specs.declared.Task.{Task}
use Rattle.lamp.specs.declared.Answer.{Answer}
use Rattle.lamp.specs.declared.Lamp.{Lamp}
use Rattle.lamp.specs.declared.Call.{Call}
use Rattle.exports.specs.Enums.{read_of, known_of, direction_read, move_mode_read, step_mode_read, loop_action_read, loop_direction_read, color_mode_read, enhanced_mode_read, on_off_read, direction_known, move_mode_known, step_mode_known, loop_action_known, loop_direction_known, color_mode_known, enhanced_mode_known, on_off_known}
use Rattle.exports.specs.Moves.{record_numbers, delta_of, target_of, move_to_of, hue_move_of, saturation_move_of, mireds_to_of, mireds_move_of, color_loop_of, task_of, task_fits, task_known, record_known, task_numbers, given_numbers}
use Rattle.exports.specs.Lamps.{record_words, lamp_words, lamp_fits, lamp_known}
use Rattle.exports.specs.Calls.{call_of, call_known, hue_command, saturation_command, enhanced_command, mireds_command, loop_command, command_of, request_of, command_fits, command_known}
use Rattle.exports.specs.Answers.{answer_words}
use Rattle.exports.specs.Exported.{made, answered}
use Rattle.matter.specs.Flags.{has_flag}
use Rattle.matter.specs.Rules.{default_color_mode}
use Rattle.progress.specs.Progress.{clamp}
use Rattle.lamp.specs.Making.{making}
use Rattle.exports.specs.Words.{flag, signed, sign_of}
use Rattle.exports.specs.Bounds.{bounds_fit}
use Rattle.matter.specs.All.{all_true}
use Rattle.notices.specs.Notices.{filled}
use Rattle.color.specs.Valid.{color_valid}
use Rattle.color.specs.Bounded.{bounded}
use Rattle.tasks.specs.Valid.{running_valid}
use Rattle.lamp.specs.Valid.{lamp_valid}
use Rattle.lamp.specs.Answers.{first_cause}
use Rattle.lamp.specs.Calls.{bounds_answer}
use Rattle.commands.specs.Answers.{answer}

-- ---- enums

-- each number's case, and which numbers from 0 on exist
pub record EnumWords : Type 0 where
  pub on-off : map on_off_read (0 ∷ 1 ∷ 2 ∷ []) ≡ OnOff.Off ∷ OnOff.On ∷ OnOff.NoHandler ∷ []
  pub direction :
      map direction_read (0 ∷ 1 ∷ 2 ∷ 3 ∷ [])
      ≡ DirectionEnum.Shortest ∷ DirectionEnum.Longest ∷ DirectionEnum.Up ∷ DirectionEnum.Down ∷ []
  pub move-mode : map move_mode_read (0 ∷ 1 ∷ 3 ∷ []) ≡ MoveModeEnum.Stop ∷ MoveModeEnum.Up ∷ MoveModeEnum.Down ∷ []
  pub step-mode : map step_mode_read (1 ∷ 3 ∷ []) ≡ StepModeEnum.Up ∷ StepModeEnum.Down ∷ []
  pub loop-action :
      map loop_action_read (0 ∷ 1 ∷ 2 ∷ [])
      ≡ ColorLoopActionEnum.Deactivate ∷ ColorLoopActionEnum.ActivateFromColorLoopStartEnhancedHue
      ∷ ColorLoopActionEnum.ActivateFromEnhancedCurrentHue ∷ []
  pub loop-direction :
      map loop_direction_read (0 ∷ 1 ∷ []) ≡ ColorLoopDirectionEnum.Decrement ∷ ColorLoopDirectionEnum.Increment ∷ []
  pub color-mode :
      map color_mode_read (0 ∷ 1 ∷ 2 ∷ [])
      ≡ ColorModeEnum.CurrentHueAndCurrentSaturation ∷ ColorModeEnum.CurrentXAndCurrentY
      ∷ ColorModeEnum.ColorTemperatureMireds ∷ []
  pub enhanced-mode :
      map enhanced_mode_read (0 ∷ 1 ∷ 2 ∷ 3 ∷ [])
      ≡ EnhancedColorModeEnum.CurrentHueAndCurrentSaturation ∷ EnhancedColorModeEnum.CurrentXAndCurrentY
      ∷ EnhancedColorModeEnum.ColorTemperatureMireds ∷ EnhancedColorModeEnum.EnhancedCurrentHueAndCurrentSaturation ∷ []
  pub on-off-known : map on_off_known (0 ∷ 1 ∷ 2 ∷ 3 ∷ []) ≡ true ∷ true ∷ true ∷ false ∷ []
  pub direction-known : map direction_known (0 ∷ 1 ∷ 2 ∷ 3 ∷ 4 ∷ []) ≡ true ∷ true ∷ true ∷ true ∷ false ∷ []
  pub move-mode-known : map move_mode_known (0 ∷ 1 ∷ 2 ∷ 3 ∷ 4 ∷ []) ≡ true ∷ true ∷ false ∷ true ∷ false ∷ []
  pub step-mode-known : map step_mode_known (0 ∷ 1 ∷ 2 ∷ 3 ∷ 4 ∷ []) ≡ false ∷ true ∷ false ∷ true ∷ false ∷ []
  pub loop-action-known : map loop_action_known (0 ∷ 1 ∷ 2 ∷ 3 ∷ []) ≡ true ∷ true ∷ true ∷ false ∷ []
  pub loop-direction-known : map loop_direction_known (0 ∷ 1 ∷ 2 ∷ []) ≡ true ∷ true ∷ false ∷ []
  pub color-mode-known : map color_mode_known (0 ∷ 1 ∷ 2 ∷ 3 ∷ []) ≡ true ∷ true ∷ true ∷ false ∷ []
  pub enhanced-mode-known : map enhanced_mode_known (0 ∷ 1 ∷ 2 ∷ 3 ∷ 4 ∷ []) ≡ true ∷ true ∷ true ∷ true ∷ false ∷ []

-- ---- calls

-- ten words are this call
abbrev pub Reads : List ℕ → Call → Type 0
Reads w call = (call_of w ≡ call) × (call_known w ≡ true)

-- options mask 2 and override 3
abbrev pub options : CommandOptions
options = record { mask = 2; overrides = 3 }

-- a command at clock 5000 with those options, in words and as a call; and the words of a start
abbrev pub words : ℕ → ℕ → ℕ → ℕ → ℕ → ℕ → ℕ → List ℕ
words kind on_off a b c d e = kind ∷ 5000 ∷ on_off ∷ 2 ∷ 3 ∷ a ∷ b ∷ c ∷ d ∷ e ∷ []

abbrev pub sending : Command → OnOff → Call
sending command on_off = Call.Command (request command options) on_off 5000

abbrev pub start_words : ℕ → ℕ → ℕ → ℕ → ℕ → ℕ → ℕ → List ℕ
start_words kind a b c d e f = 256 ∷ 5000 ∷ 0 ∷ kind ∷ a ∷ b ∷ c ∷ d ∷ e ∷ f ∷ []

-- and of a call that sets bounds
abbrev pub bounds_words : ℕ → ℕ → List ℕ
bounds_words min max = 259 ∷ 5000 ∷ 9 ∷ min ∷ max ∷ 70000 ∷ 70001 ∷ 70002 ∷ 70003 ∷ 70004 ∷ []

pub record CommandWords : Type 0 where
  pub move-to-hue :
      Reads (words 0 1 128 3 20 0 0) (sending (Command.MoveToHue 128 DirectionEnum.Down 20) OnOff.On)
  pub move-hue : Reads (words 1 0 3 50 1 0 0) (sending (Command.MoveHue MoveModeEnum.Down 50 true) OnOff.Off)
  pub step-hue : Reads (words 2 2 1 7 20 0 0) (sending (Command.StepHue StepModeEnum.Up 7 20) OnOff.NoHandler)
  pub move-to-saturation : Reads (words 3 1 200 20 0 0 0) (sending (Command.MoveToSaturation 200 20) OnOff.On)
  pub move-saturation :
      Reads (words 4 1 1 9 0 0 0) (sending (Command.MoveSaturation MoveModeEnum.Up 9) OnOff.On)
  pub step-saturation :
      Reads (words 5 1 3 9 20 0 0) (sending (Command.StepSaturation StepModeEnum.Down 9 20) OnOff.On)
  pub move-to-hue-and-saturation :
      Reads (words 6 1 128 200 20 1 40000) (sending (Command.MoveToHueAndSaturation 128 200 20 true 40000) OnOff.On)
  pub move-to-color-temperature :
      Reads (words 10 1 300 20 0 0 0) (sending (Command.MoveToColorTemperature 300 20) OnOff.On)
  pub enhanced-move-to-hue :
      Reads (words 64 1 40000 1 20 0 0) (sending (Command.EnhancedMoveToHue 40000 DirectionEnum.Longest 20) OnOff.On)
  pub enhanced-move-hue :
      Reads (words 65 1 0 700 0 0 0) (sending (Command.EnhancedMoveHue MoveModeEnum.Stop 700) OnOff.On)
  pub enhanced-step-hue :
      Reads (words 66 1 3 700 20 0 0) (sending (Command.EnhancedStepHue StepModeEnum.Down 700 20) OnOff.On)
  pub color-loop-set :
      Reads (words 68 1 15 2 0 33 1234)
      (sending
      (Command.ColorLoopSet 15 ColorLoopActionEnum.ActivateFromEnhancedCurrentHue
      ColorLoopDirectionEnum.Decrement 33 1234) OnOff.On)
  pub stop-move-step : Reads (words 71 1 0 0 0 0 0) (sending Command.StopMoveStep OnOff.On)
  pub move-color-temperature :
      Reads (words 75 1 1 100 160 400 0) (sending (Command.MoveColorTemperature MoveModeEnum.Up 100 160 400) OnOff.On)
  pub step-color-temperature :
      Reads (words 76 1 1 30 20 160 400)
      (sending (Command.StepColorTemperature StepModeEnum.Up 30 20 160 400) OnOff.On)

-- down 2000 and to saturation 250 in 7.7 s, enhanced
abbrev pub down_and_to : HueSaturationMoveTo
down_and_to =
    record { delta = Some (neg_ℤ (pos 2000)); saturation = Some 250; ms = 7700; enhanced = true }

pub record StartWords : Type 0 where
  pub move-to : Reads (start_words 1 2 2000 1 250 7700 1) (Call.Start (Task.HueSaturationMoveTo down_and_to) 5000)
  -- no saturation, and no hue
  pub hue-alone :
      Reads (start_words 1 1 2000 0 0 7700 0)
      (Call.Start
      (Task.HueSaturationMoveTo
      (record { delta = Some (pos 2000); saturation = None; ms = 7700; enhanced = false }))
      5000)
  pub saturation-alone :
      Reads (start_words 1 0 0 1 250 7700 0)
      (Call.Start
      (Task.HueSaturationMoveTo
      (record { delta = None; saturation = Some 250; ms = 7700; enhanced = false }))
      5000)
  pub hue-move :
      Reads (start_words 2 1 700 1 0 0 0)
      (Call.Start (Task.HueMove (record { direction = MoveModeEnum.Up; rate = 700; enhanced = true })) 5000)
  pub saturation-move :
      Reads (start_words 3 3 9 0 0 0 0) (Call.Start (Task.SaturationMove (record {
        direction = MoveModeEnum.Down;
        rate = 9;
      })) 5000)
  pub move-to-mireds :
      Reads (start_words 4 300 7700 0 0 0 0) (Call.Start (Task.ColorTemperatureMoveTo (record {
        target = 300;
        ms = 7700;
      })) 5000)
  pub mired-move :
      Reads (start_words 5 2 100 160 400 0 0)
      (Call.Start (Task.ColorTemperatureMove (record { rate = neg_ℤ (pos 100); min = 160; max = 400 })) 5000)
  pub color-loop :
      Reads (start_words 6 1 33 0 0 0 0)
      (Call.Start (Task.ColorLoop (record { direction = ColorLoopDirectionEnum.Increment; seconds = 33 })) 5000)
  pub stop : Reads (start_words 7 0 0 0 0 0 0) (Call.Start Task.Stop 5000)
  -- and a step, a halt and new bounds, whatever the words that are not read
  pub stepping : Reads (257 ∷ 5000 ∷ 9 ∷ 9 ∷ 9 ∷ 70000 ∷ 70001 ∷ 70002 ∷ 70003 ∷ 70004 ∷ []) (Call.Step 5000)
  pub halting : Reads (258 ∷ 5000 ∷ 9 ∷ 9 ∷ 9 ∷ 70000 ∷ 70001 ∷ 70002 ∷ 70003 ∷ 70004 ∷ []) (Call.Halt 5000)
  pub setting-bounds : Reads (bounds_words 160 400) (Call.SetBounds (record { min = 160; max = 400 }) 5000)

-- ---- lamps

-- the words of a fresh lamp: bounds 153 and 500, all features, options 0, clock 5000
abbrev pub fresh_words : List ℕ
fresh_words =
    153 ∷ 500 ∷ 5000 ∷ 0 ∷ 0 ∷ 0 ∷ 0 ∷ 0 ∷ 0 ∷ 0 ∷ 250 ∷ 1 ∷ 1 ∷ 0 ∷ 1 ∷ 25 ∷ 8960 ∷ 0 ∷ 0 ∷ 0 ∷ 0 ∷ 0 ∷ 0 ∷ 0 ∷ 0 ∷ 0
    ∷ 0 ∷ 0 ∷ []

-- a lamp that runs, in which no two numbers are equal that could be exchanged
abbrev pub busy : Lamp
busy =
    record {
      clock = 9000;
      bounds = record { min = 101; max = 499 };
      color =
          record {
            hue = 40000;
            saturation = 200;
            mireds = 300;
            mode = ColorModeEnum.CurrentHueAndCurrentSaturation;
            emode = EnhancedColorModeEnum.EnhancedCurrentHueAndCurrentSaturation;
            stamps = record { hue = 11; saturation = 12; mireds = 13 };
          };
      looping =
          record {
            active = true;
            direction = ColorLoopDirectionEnum.Decrement;
            time = 33;
            start = 1234;
            stored = 4321;
          };
      remaining = record { tenths = 77 };
      options = 7;
      running = Running.HueSaturationMoveTo (record { start = 8500; hue = 39000; saturation = 100; task = down_and_to });
    }

-- the words of a running record, 18 to 27
abbrev pub running_words : Running → List ℕ
running_words r = record_words (record_numbers r)

pub record LampWords : Type 0 where
  pub fresh : made (replicate 28 0) (record { min = 153; max = 500 }) 31 0 5000
      ≡ record { number = 0; lamp = fresh_words }
  pub running :
      lamp_words busy
      ≡ 101 ∷ 499 ∷ 9000 ∷ 7 ∷ 77 ∷ 11 ∷ 12 ∷ 13 ∷ 40000 ∷ 200 ∷ 300 ∷ 0 ∷ 3 ∷ 1 ∷ 0 ∷ 33 ∷ 1234 ∷ 4321 ∷ 8500 ∷ 39000
      ∷ 100
      ∷ 1 ∷ 2 ∷ 2000 ∷ 1 ∷ 250 ∷ 7700 ∷ 1 ∷ []
  pub hue-move :
      running_words (Running.HueMove (record {
        start = 8500;
        hue = 39000;
        task = record { direction = MoveModeEnum.Up; rate = 700; enhanced = true };
      }))
      ≡ 8500 ∷ 39000 ∷ 0 ∷ 2 ∷ 1 ∷ 700 ∷ 1 ∷ 0 ∷ 0 ∷ 0 ∷ []
  pub saturation-move :
      running_words (Running.SaturationMove (record {
        start = 8500;
        saturation = 100;
        task = record { direction = MoveModeEnum.Down; rate = 9 };
      }))
      ≡ 8500 ∷ 100 ∷ 0 ∷ 3 ∷ 3 ∷ 9 ∷ 0 ∷ 0 ∷ 0 ∷ 0 ∷ []
  pub move-to-mireds :
      running_words (Running.ColorTemperatureMoveTo (record {
        start = 8500;
        mireds = 250;
        task = record { target = 300; ms = 7700 };
      }))
      ≡ 8500 ∷ 250 ∷ 0 ∷ 4 ∷ 300 ∷ 7700 ∷ 0 ∷ 0 ∷ 0 ∷ 0 ∷ []
  pub mired-move :
      running_words (Running.ColorTemperatureMove (record {
        start = 8500;
        mireds = 250;
        rate = neg_ℤ (pos 100);
        lo = 160;
        hi = 400;
      }))
      ≡ 8500 ∷ 250 ∷ 0 ∷ 5 ∷ 2 ∷ 100 ∷ 160 ∷ 400 ∷ 0 ∷ 0 ∷ []
  pub color-loop :
      running_words (Running.ColorLoop ColorLoopDirectionEnum.Increment 39000 33 8500)
      ≡ 8500 ∷ 39000 ∷ 0 ∷ 6 ∷ 1 ∷ 33 ∷ 0 ∷ 0 ∷ 0 ∷ 0 ∷ []

-- ---- answers

-- an answer with three notices, a task or none, and a wait
abbrev pub replying : Option Task → Answer
replying task =
    record {
      verdict = Err Refusal.InvalidTask;
      lamp = busy;
      notices = record { places = 13 ∷ 2 ∷ 17 ∷ replicate 13 0; len = 3 };
      task = task;
      wait = 70;
    }

pub record AnswerWords : Type 0 where
  pub given :
      answer_words (replying (Some (Task.HueSaturationMoveTo down_and_to)))
      ≡ 6 ∷ 13 ∷ 2 ∷ 17 ∷ 0 ∷ 0 ∷ 0 ∷ 0 ∷ 0 ∷ 0 ∷ 0 ∷ 0 ∷ 0 ∷ 0 ∷ 0 ∷ 0 ∷ 0 ∷ 1 ∷ 2 ∷ 2000 ∷ 1 ∷ 250 ∷ 7700 ∷ 1 ∷ 70
      ∷ []
  pub stopping :
      answer_words (replying (Some Task.Stop))
      ≡ 6 ∷ 13 ∷ 2 ∷ 17 ∷ 0 ∷ 0 ∷ 0 ∷ 0 ∷ 0 ∷ 0 ∷ 0 ∷ 0 ∷ 0 ∷ 0 ∷ 0 ∷ 0 ∷ 0 ∷ 7 ∷ 0 ∷ 0 ∷ 0 ∷ 0 ∷ 0 ∷ 0 ∷ 70 ∷ []
  pub nothing :
      answer_words (replying None)
      ≡ 6 ∷ 13 ∷ 2 ∷ 17 ∷ 0 ∷ 0 ∷ 0 ∷ 0 ∷ 0 ∷ 0 ∷ 0 ∷ 0 ∷ 0 ∷ 0 ∷ 0 ∷ 0 ∷ 0 ∷ 0 ∷ 0 ∷ 0 ∷ 0 ∷ 0 ∷ 0 ∷ 0 ∷ 70 ∷ []

-- "The first in this order wins": no lamp by its count of words, no room, no lamp, no call
pub record NumbersReturned : Type 0 where
  pub new-short : (made (replicate 27 0) (record { min = 500; max = 153 }) 31 0 1099511627777).number ≡ 101
  pub new-clock : (made (replicate 28 0) (record { min = 500; max = 153 }) 31 0 1099511627777).number ≡ 4
  pub new-bounds : (made (replicate 28 0) (record { min = 500; max = 153 }) 31 0 1099511627776).number ≡ 5
  pub short-lamp : (answered (replicate 27 0) (replicate 9 0) (replicate 24 0)).number ≡ 101
  pub no_room : (answered (replicate 28 9) (replicate 9 0) (replicate 24 0)).number ≡ 102
  pub no-lamp : (answered (replicate 28 9) (replicate 9 0) (replicate 25 0)).number ≡ 101
  pub no_call : (answered fresh_words (replicate 9 0) (replicate 25 0)).number ≡ 100
  pub no-such-kind : (answered fresh_words (words 7 1 0 0 0 0 0) (replicate 25 0)).number ≡ 100
  pub past-its-field : (answered fresh_words (words 0 1 256 0 0 0 0) (replicate 25 0)).number ≡ 100
  pub past-the-last-kind : (answered fresh_words (260 ∷ replicate 9 0) (replicate 25 0)).number ≡ 100

-- ---- new bounds

-- the words of a fresh lamp, but for its bounds, the stamp of its mireds, its mireds and its running record
abbrev pub bounded_words : ℕ → ℕ → ℕ → ℕ → List ℕ → List ℕ
bounded_words min max stamp mireds running =
    min ∷ max ∷ 5000 ∷ 0 ∷ 0 ∷ 0 ∷ 0 ∷ stamp ∷ 0 ∷ 0 ∷ mireds ∷ 1 ∷ 1 ∷ 0 ∷ 1 ∷ 25 ∷ 8960 ∷ 0 ∷ running

-- of one that moves from 250 mireds to 300 in 7.7 s
abbrev pub warming_words : List ℕ
warming_words = bounded_words 153 500 0 250 (5000 ∷ 250 ∷ 0 ∷ 4 ∷ 300 ∷ 7700 ∷ 0 ∷ 0 ∷ 0 ∷ 0 ∷ [])

-- where an answer is to go
abbrev pub room : List ℕ
room = replicate 25 7

pub record BoundsSent : Type 0 where
  -- the mireds go to the nearer one, with notice 5 and their stamp
  pub moved :
      answered fresh_words (bounds_words 300 400) room
      ≡ record { number = 0; lamp = bounded_words 300 400 5000 300 (replicate 10 0); answer = 0 ∷ 5 ∷ replicate 23 0 }
  pub inside :
      answered fresh_words (bounds_words 160 400) room
      ≡ record { number = 0; lamp = bounded_words 160 400 0 250 (replicate 10 0); answer = replicate 25 0 }
  pub crossed-bounds :
      answered fresh_words (bounds_words 400 300) room
      ≡ record { number = 5; lamp = fresh_words; answer = 5 ∷ replicate 24 0 }
  pub mired-task :
      answered warming_words (bounds_words 160 400) room
      ≡ record { number = 18; lamp = warming_words; answer = 18 ∷ replicate 24 0 }
  pub least-past-its-field :
      answered fresh_words (bounds_words 65536 65535) room ≡ record { number = 100; lamp = fresh_words; answer = room }
  pub most-past-its-field :
      answered fresh_words (bounds_words 160 65536) room ≡ record { number = 100; lamp = fresh_words; answer = room }

-- ---- by computation

pub enum-words : EnumWords
unfolding read_of known_of
enum-words =
    record {
      on-off = refl;
      direction = refl;
      move-mode = refl;
      step-mode = refl;
      loop-action = refl;
      loop-direction = refl;
      color-mode = refl;
      enhanced-mode = refl;
      on-off-known = refl;
      direction-known = refl;
      move-mode-known = refl;
      step-mode-known = refl;
      loop-action-known = refl;
      loop-direction-known = refl;
      color-mode-known = refl;
      enhanced-mode-known = refl;
    }

pub command-words : CommandWords
unfolding flag hue_command saturation_command enhanced_command mireds_command loop_command command_of request_of command_fits command_known call_of call_known read_of known_of
command-words =
    record {
      move-to-hue = (refl, refl);
      move-hue = (refl, refl);
      step-hue = (refl, refl);
      move-to-saturation = (refl, refl);
      move-saturation = (refl, refl);
      step-saturation = (refl, refl);
      move-to-hue-and-saturation = (refl, refl);
      move-to-color-temperature = (refl, refl);
      enhanced-move-to-hue = (refl, refl);
      enhanced-move-hue = (refl, refl);
      enhanced-step-hue = (refl, refl);
      color-loop-set = (refl, refl);
      stop-move-step = (refl, refl);
      move-color-temperature = (refl, refl);
      step-color-temperature = (refl, refl);
    }

pub start-words : StartWords
unfolding flag signed delta_of target_of move_to_of hue_move_of saturation_move_of mireds_to_of mireds_move_of color_loop_of task_of task_fits task_known bounds_fit call_of call_known read_of known_of
start-words =
    record {
      move-to = (refl, refl);
      hue-alone = (refl, refl);
      saturation-alone = (refl, refl);
      hue-move = (refl, refl);
      saturation-move = (refl, refl);
      move-to-mireds = (refl, refl);
      mired-move = (refl, refl);
      color-loop = (refl, refl);
      stop = (refl, refl);
      stepping = (refl, refl);
      halting = (refl, refl);
      setting-bounds = (refl, refl);
    }

pub lamp-words : LampWords
unfolding has_flag default_color_mode clamp making sign_of record_numbers made
lamp-words =
    record {
      fresh = refl;
      running = refl;
      hue-move = refl;
      saturation-move = refl;
      move-to-mireds = refl;
      mired-move = refl;
      color-loop = refl;
    }

pub answer-words : AnswerWords
unfolding sign_of task_numbers given_numbers
answer-words = record { given = refl; stopping = refl; nothing = refl }

pub numbers-returned : NumbersReturned
unfolding making made answered bounds_fit lamp_fits lamp_known record_known command_fits command_known call_known known_of
numbers-returned =
    record {
      new-short = refl;
      new-clock = refl;
      new-bounds = refl;
      short-lamp = refl;
      no_room = refl;
      no-lamp = refl;
      no_call = refl;
      no-such-kind = refl;
      past-its-field = refl;
      past-the-last-kind = refl;
    }

pub bounds-sent : BoundsSent
unfolding flag read_of known_of bounds_fit lamp_fits lamp_known task_fits task_known record_known task_of mireds_to_of command_fits command_known call_of call_known all_true color_valid running_valid lamp_valid first_cause clamp filled bounded bounds_answer answer task_numbers given_numbers record_numbers answered
bounds-sent =
    record {
      moved = refl;
      inside = refl;
      crossed-bounds = refl;
      mired-task = refl;
      least-past-its-field = refl;
      most-past-its-field = refl;
    }
