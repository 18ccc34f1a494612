-- Fades by computation: from red to cyan through green, and, with the premises met, the other way round; two lamps that fade
-- together, one of them among other calls; and one whose hue moved between command and start.
use Rattle.std.specs.Prelude.{Some, None}
use Prim.Native.Nat.{ℕ}
use mathlib.Core.Bool.{Bool, true, false}
use mathlib.Core.List.{List, [], ◌∷◌, map}
use mathlib.Core.Path.{◌≡◌, refl}
use lib.Dec.{lit<}
use lib.IntN.{pos}
use Rattle.matter.specs.declared.commands.Command.{Command}
use Rattle.matter.specs.declared.commands.CommandOptions.{CommandOptions}
use Rattle.matter.specs.declared.enums.DirectionEnum.{DirectionEnum}
use Rattle.matter.specs.declared.enums.MoveModeEnum.{MoveModeEnum}
use Rattle.matter.specs.declared.enums.OnOff.{OnOff}
use Rattle.matter.specs.All.{all_true}
use Rattle.matter.specs.Flags.{has_flag}
use Rattle.matter.specs.InRange.{InRangeOptions}
use Rattle.matter.specs.Requests.{request}
use Rattle.hue.specs.Hue.{distance, path_delta, is_tie, moved_hue}
use Rattle.arc.specs.Arc.{meet, passes_through}
use Rattle.arc.proofs.Examples.{green}
use Rattle.progress.specs.Progress.{permille_of}
use Rattle.color.specs.Valid.{color_valid}
use Rattle.color.specs.Setters.{hue_set}
use Rattle.tasks.specs.declared.Task.{Task}
use Rattle.tasks.specs.Valid.{move_to_valid, task_valid, running_valid}
use Rattle.lamp.specs.Answers.{first_cause}
use Rattle.lamp.specs.Calls.{hue_saturation_start, started, stepped, start_answer, step_answer, halt_answer}
use Rattle.lamp.specs.Valid.{lamp_valid}
use Rattle.lamp.specs.Passes.{hue_saturation_moved, timed}
use Rattle.lamp.specs.declared.Call.{Call}
use Rattle.commands.specs.Commands.{command_effect}
use Rattle.commands.specs.Answers.{answer, command_cause, command_answer}
use Rattle.schedule.specs.Calls.{after, quiet}
use Rattle.schedule.specs.Schedule.{target}
use Rattle.schedule.specs.Fades.{Fade, found, begun, PremisedButHue, Premised}
use Rattle.schedule.proofs.Observations.{seen, observations, shown}
use Rattle.schedule.proofs.Examples.{lamp_at, plain, at5000, meets, in-range-lamp, in-range-plain}
use Rattle.consequences.specs.Together.{step_clocks, Alike}
use Rattle.consequences.specs.OffTarget.{moved_between}

-- ---- from red to cyan

-- in four tenths, from 0 to 32,768
abbrev pub red_to_cyan : DirectionEnum → Fade
red_to_cyan d =
    at5000 (lamp_at 0)
    (record { enhanced = false; hue = 128; direction = d; tenths = 4; options = plain })
    (Call.Step 5100 ∷ Call.Step 5200 ∷ Call.Step 5300 ∷ Call.Step 5400 ∷ [])

-- ---- two lamps

-- the fade alone, given by the plain command
abbrev pub alone : Fade
alone =
    record {
      lamp = lamp_at 60000;
      before = [];
      move = record { enhanced = false; hue = 10; direction = DirectionEnum.Up; tenths = 10; options = plain };
      on_off = OnOff.On;
      clock = 5000;
      between = [];
      start = 5100;
      calls = Call.Step 5200 ∷ Call.Step 5450 ∷ Call.Step 2_000_000 ∷ [];
    }

-- executes while off
abbrev pub while_off : CommandOptions
while_off = record { mask = 1; overrides = 1 }

-- the same move by the enhanced command, at another clock, without a handler, and other calls before, between and after
abbrev pub among : Fade
among =
    record {
      lamp = lamp_at 60000;
      before = Call.Halt 5000 ∷ Call.Step 5000 ∷ [];
      move = record { enhanced = true; hue = 2560; direction = DirectionEnum.Up; tenths = 10; options = while_off };
      on_off = OnOff.NoHandler;
      clock = 5050;
      between = Call.Command (request (Command.MoveToSaturation 100 20) plain) OnOff.On 5060 ∷ [];
      start = 5100;
      calls =
          Call.Step 5200
          -- refused: an earlier clock
          ∷ Call.Step 5000
          -- accepted, and its task is not started
          ∷ Call.Command (request (Command.MoveToColorTemperature 300 20) plain) OnOff.On 5250
          -- refused: rate 0
          ∷ Call.Command (request (Command.MoveHue MoveModeEnum.Up 0 false) plain) OnOff.On 5260
          ∷ Call.Step 5450
          -- refused: past the limit
          ∷ Call.Halt 1_099_511_627_777
          ∷ Call.Step 2_000_000
          -- refused: idle
          ∷ Call.Step 2_000_100
          ∷ [];
    }

-- ---- the hue moved in between

-- from 0 to 1000 in two tenths; before the start another task moves the hue to 50, at once
abbrev pub moved_to50 : Fade
moved_to50 =
    record {
      lamp = lamp_at 0;
      before = [];
      move = record { enhanced = true; hue = 1000; direction = DirectionEnum.Shortest; tenths = 2; options = plain };
      on_off = OnOff.On;
      clock = 5000;
      between =
          Call.Start (Task.HueSaturationMoveTo (record { delta = Some (pos 50); saturation = None; ms = 0; enhanced = true })) 5000
          ∷ [];
      start = 5000;
      calls = Call.Step 5100 ∷ Call.Step 5200 ∷ [];
    }

-- ---- what is asked and shown

-- what a console asks before it sends a fade: Shortest goes up, half way round, and through green; Down does not
abbrev pub ask : Fade → Bool
ask e = passes_through (found e) (target e.move) e.move.direction green

pub asked : (ask (red_to_cyan DirectionEnum.Shortest) ≡ true) × (ask (red_to_cyan DirectionEnum.Down) ≡ false)
unfolding passes_through meet path_delta distance after
asked = (refl, refl)

-- the clocks of the accepted steps
abbrev pub clocks : Fade → List ℕ
clocks e = step_clocks (begun e).lamp e.calls

-- 16,384 and 24,576 are green
pub through-green : shown (red_to_cyan DirectionEnum.Shortest) ≡ seen 0 4 false ∷ seen 8192 3 false ∷ seen 16384 2 false ∷ seen 24576 1 false ∷ seen 32768 0 true ∷ []
unfolding observations after answer command_cause command_answer first_cause lamp_valid all_true color_valid running_valid move_to_valid task_valid command_effect start_answer step_answer halt_answer started stepped hue_saturation_start hue_saturation_moved timed hue_set permille_of path_delta is_tie distance moved_hue has_flag
through-green = refl

pub never-green : shown (red_to_cyan DirectionEnum.Down) ≡ seen 0 4 false ∷ seen 57344 3 false ∷ seen 49152 2 false ∷ seen 40960 1 false ∷ seen 32768 0 true ∷ []
unfolding observations after answer command_cause command_answer first_cause lamp_valid all_true color_valid running_valid move_to_valid task_valid command_effect start_answer step_answer halt_answer started stepped hue_saturation_start hue_saturation_moved timed hue_set permille_of path_delta is_tie distance moved_hue has_flag
never-green = refl

-- three steps of each lamp are accepted, at the same clocks, and after each they show the same
pub same-clocks : (clocks alone ≡ 5200 ∷ 5450 ∷ 2_000_000 ∷ []) × (clocks among ≡ 5200 ∷ 5450 ∷ 2_000_000 ∷ [])
unfolding step_clocks after answer command_cause command_answer first_cause lamp_valid all_true color_valid running_valid move_to_valid task_valid command_effect start_answer step_answer halt_answer started stepped hue_saturation_start hue_saturation_moved timed hue_set permille_of path_delta is_tie distance moved_hue has_flag
same-clocks = (refl, refl)

pub same-shown : map shown (alone ∷ among ∷ []) ≡
    (seen 60000 10 false ∷ seen 60809 9 false ∷ seen 62833 7 false ∷ seen 2560 0 true ∷ [])
    ∷ (seen 60000 10 false ∷ seen 60809 9 false ∷ seen 60809 9 false ∷ seen 60809 9 false ∷ seen 60809 9 false ∷ seen 62833 7 false
    ∷ seen 62833 7 false ∷ seen 2560 0 true ∷ seen 2560 0 true ∷ [])
    ∷ []
unfolding observations after answer command_cause command_answer first_cause lamp_valid all_true color_valid running_valid move_to_valid task_valid command_effect start_answer step_answer halt_answer started stepped hue_saturation_start hue_saturation_moved timed hue_set permille_of path_delta is_tie distance moved_hue has_flag
same-shown = refl

-- 50 off the target, which is 1000
pub off-by-50 : (moved_between moved_to50 ≡ pos 50) × (shown moved_to50 ≡ seen 50 2 false ∷ seen 550 1 false ∷ seen 1050 0 true ∷ [])
unfolding observations after answer command_cause command_answer first_cause lamp_valid all_true color_valid running_valid move_to_valid task_valid command_effect start_answer step_answer halt_answer started stepped hue_saturation_start hue_saturation_moved timed hue_set permille_of path_delta is_tie distance moved_hue has_flag
off-by-50 = (refl, refl)

-- ---- they meet the premises

pub alike : Alike alone among
unfolding after answer halt_answer step_answer first_cause lamp_valid all_true color_valid running_valid
alike = record { found = refl; target = refl; direction = refl; tenths = refl; start = refl }

in-range-while_off : InRangeOptions while_off
in-range-while_off = record { mask = lit< tt; overrides = lit< tt }

pub premised : Premised (red_to_cyan DirectionEnum.Down) × Premised alone × Premised among
unfolding quiet after answer command_cause command_answer first_cause lamp_valid all_true color_valid running_valid move_to_valid task_valid command_effect start_answer step_answer halt_answer started stepped hue_saturation_start hue_saturation_moved timed hue_set permille_of path_delta is_tie distance moved_hue has_flag
premised = (
  record {
    others = meets _ (in-range-lamp 0 (lit< tt))
        ((in-range-plain _ (lit< tt, lit< tt), lit< tt), ((record { delta = lit< tt; saturation = tt; ms = lit< tt }, lit< tt), (lit< tt, (lit< tt, (lit< tt, (lit< tt, tt))))))
        refl refl refl refl refl;
    hue = refl;
  },
  record {
    others = meets _ (in-range-lamp 60000 (lit< tt))
        ((in-range-plain _ (lit< tt, lit< tt), lit< tt), ((record { delta = lit< tt; saturation = tt; ms = lit< tt }, lit< tt), (lit< tt, (lit< tt, (lit< tt, tt)))))
        refl refl refl refl refl;
    hue = refl;
  },
  record {
    others = meets _ (in-range-lamp 60000 (lit< tt))
        (lit< tt, (lit< tt, ((record { options = in-range-while_off; command = (lit< tt, lit< tt) }, lit< tt), ((in-range-plain _ (lit< tt, lit< tt), lit< tt), ((record { delta = lit< tt; saturation = tt; ms = lit< tt }, lit< tt), (lit< tt, (lit< tt, ((in-range-plain _ (lit< tt, lit< tt), lit< tt), ((in-range-plain _ (lit< tt), lit< tt), (lit< tt, (lit< tt, (lit< tt, (lit< tt, tt)))))))))))))
        refl refl refl refl refl;
    hue = refl;
  },
)

-- all but the one of the hue
pub premised-but-hue : PremisedButHue moved_to50
unfolding quiet after answer command_cause command_answer first_cause lamp_valid all_true color_valid running_valid move_to_valid task_valid command_effect start_answer step_answer halt_answer started stepped hue_saturation_start hue_saturation_moved timed hue_set permille_of path_delta is_tie distance moved_hue has_flag
premised-but-hue =
    meets _ (in-range-lamp 0 (lit< tt))
    ((in-range-plain _ (lit< tt, lit< tt), lit< tt), ((record { delta = lit< tt; saturation = tt; ms = lit< tt }, lit< tt), ((record { delta = lit< tt; saturation = tt; ms = lit< tt }, lit< tt), (lit< tt, (lit< tt, tt)))))
    refl refl refl refl refl
