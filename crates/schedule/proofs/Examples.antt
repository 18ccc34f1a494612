-- Fades that meet every premise of the claim at once, and what their lamps show, by computation: with each wait kept, with no
-- way, with no time, down past 0, and with refused calls, foreign commands and a jump of the clock inside.
use Prim.Native.Nat.{ℕ, ◌<◌}
use mathlib.Core.Bool.{true, false}
use mathlib.Core.List.{List, [], ◌∷◌, map}
use mathlib.Core.Path.{◌≡◌, refl}
use lib.Dec.{lit<}
use Rattle.matter.specs.declared.enums.ColorLoopActionEnum.{ColorLoopActionEnum}
use Rattle.matter.specs.declared.enums.ColorLoopDirectionEnum.{ColorLoopDirectionEnum}
use Rattle.matter.specs.declared.enums.ColorModeEnum.{ColorModeEnum}
use Rattle.matter.specs.declared.commands.Command.{Command}
use Rattle.matter.specs.declared.commands.CommandOptions.{CommandOptions}
use Rattle.matter.specs.declared.enums.DirectionEnum.{DirectionEnum}
use Rattle.matter.specs.declared.enums.EnhancedColorModeEnum.{EnhancedColorModeEnum}
use Rattle.matter.specs.declared.enums.MoveModeEnum.{MoveModeEnum}
use Rattle.matter.specs.declared.enums.StepModeEnum.{StepModeEnum}
use Rattle.matter.specs.declared.enums.OnOff.{OnOff}
use Rattle.matter.specs.All.{all_true}
use Rattle.matter.specs.Flags.{has_flag}
use Rattle.matter.specs.InRange.{InRangeCommand, InRangeRequest}
use Rattle.matter.specs.Requests.{request}
use Rattle.hue.specs.Hue.{distance, path_delta, is_tie, moved_hue}
use Rattle.progress.specs.Progress.{permille_of, clamp}
use Rattle.color.specs.Valid.{color_valid}
use Rattle.color.specs.Setters.{hue_set}
use Rattle.tasks.specs.declared.Running.{Running}
use Rattle.tasks.specs.declared.Task.{Task}
use Rattle.tasks.specs.Valid.{move_to_valid, task_valid, running_valid}
use Rattle.lamp.specs.declared.Lamp.{Lamp}
use Rattle.lamp.specs.Answers.{first_cause}
use Rattle.lamp.specs.Calls.{hue_saturation_start, started, stepped, start_answer, step_answer, halt_answer, bounds_answer}
use Rattle.color.specs.Bounded.{bounded}
use Rattle.lamp.specs.Valid.{lamp_valid}
use Rattle.lamp.specs.Passes.{hue_saturation_moved, timed}
use Rattle.lamp.specs.declared.Call.{Call}
use Rattle.lamp.specs.InRange.{InRangeLamp}
use Rattle.commands.specs.Commands.{command_effect}
use Rattle.commands.specs.Answers.{answer, allowed, command_cause, command_answer}
use Rattle.schedule.specs.Calls.{after, accepts, InRangeCalls, quiet, steps, paced}
use Rattle.schedule.specs.Schedule.{HueCommand, as_request}
use Rattle.schedule.specs.Fades.{Fade, finds, command_call, ready, start_call, begun, list_of, PremisedButHue, Premised}
use Rattle.schedule.proofs.Observations.{seen, observations, shown, steps_taken, waits_kept}

-- ---- a lamp

-- an idle lamp at this hue, whose clock is 5000
abbrev pub lamp_at : ℕ → Lamp
lamp_at hue =
    record {
      clock = 5000;
      bounds = record { min = 153; max = 500 };
      color =
          record {
            hue = hue;
            saturation = 254;
            mireds = 250;
            mode = ColorModeEnum.CurrentHueAndCurrentSaturation;
            emode = EnhancedColorModeEnum.CurrentHueAndCurrentSaturation;
            stamps = record { hue = 0; saturation = 0; mireds = 0 };
          };
      looping = record { active = false; direction = ColorLoopDirectionEnum.Increment; time = 25; start = 8960; stored = 0 };
      remaining = record { tenths = 0 };
      options = 0;
      running = Running.Idle;
    }

-- ---- the fades

abbrev pub plain : CommandOptions
plain = record { mask = 0; overrides = 0 }

-- a fade that is given and started at 5000, with nothing before or between
abbrev pub at5000 : Lamp → HueCommand → List Call → Fade
at5000 l move calls =
    record { lamp = l; before = []; move = move; on_off = OnOff.On; clock = 5000; between = []; start = 5000; calls = calls }

-- each wait kept: half way round in two tenths
abbrev pub pace_kept : Fade
pace_kept =
    at5000 (lamp_at 0)
    (record { enhanced = false; hue = 128; direction = DirectionEnum.Shortest; tenths = 2; options = plain })
    (Call.Step 5100 ∷ Call.Step 5200 ∷ [])

-- to the hue that is there
abbrev pub no_delta : Fade
no_delta =
    at5000 (lamp_at 2560)
    (record { enhanced = false; hue = 10; direction = DirectionEnum.Longest; tenths = 5; options = plain })
    (Call.Step 5100 ∷ [])

-- at once
abbrev pub no_time : Fade
no_time =
    at5000 (lamp_at 0)
    (record { enhanced = false; hue = 10; direction = DirectionEnum.Down; tenths = 0; options = plain })
    (Call.Step 5100 ∷ [])

-- 2000 down from 1000
abbrev pub past_zero : Fade
past_zero =
    at5000 (lamp_at 1000)
    (record { enhanced = true; hue = 64536; direction = DirectionEnum.Down; tenths = 4; options = plain })
    (Call.Step 5100 ∷ Call.Step 5200 ∷ Call.Step 5300 ∷ Call.Step 5400 ∷ [])

-- calls of every kind before, between and after: up past 65,535
abbrev pub among_others : Fade
among_others =
    record {
      lamp = lamp_at 60000;
      before = Call.Halt 5000 ∷ Call.Step 5000 ∷ [];
      move = record { enhanced = true; hue = 1000; direction = DirectionEnum.Up; tenths = 10; options = plain };
      on_off = OnOff.On;
      clock = 5000;
      between = Call.Command (request (Command.MoveToSaturation 100 20) plain) OnOff.NoHandler 5050 ∷ [];
      start = 5100;
      calls =
          Call.Step 5200
          -- refused: an earlier clock
          ∷ Call.Step 5000
          -- accepted, and its task is not started
          ∷ Call.Command (request (Command.MoveToColorTemperature 300 20) plain) OnOff.On 5250
          -- refused: rate 0
          ∷ Call.Command (request (Command.MoveHue MoveModeEnum.Up 0 false) plain) OnOff.On 5260
          -- refused: the Stop task
          ∷ Call.Start Task.Stop 5260
          -- refused: an earlier clock
          ∷ Call.Command (request (Command.ColorLoopSet 1 ColorLoopActionEnum.ActivateFromEnhancedCurrentHue ColorLoopDirectionEnum.Increment 25 0) plain) OnOff.On 5240
          -- accepted, and skipped
          ∷ Call.Command (request (Command.MoveToHue 254 DirectionEnum.Shortest 1) plain) OnOff.Off 5270
          -- accepted: a mired step whose limits cross
          ∷ Call.Command (request (Command.StepColorTemperature StepModeEnum.Up 10 1 400 300) plain) OnOff.On 5280
          -- accepted: new bounds, above the mireds
          ∷ Call.SetBounds (record { min = 300; max = 600 }) 5285
          -- refused: crossed ones
          ∷ Call.SetBounds (record { min = 600; max = 300 }) 5290
          -- refused: past the limit
          ∷ Call.Halt 1_099_511_627_777
          -- far behind the time
          ∷ Call.Step 2_000_000
          -- refused: idle
          ∷ Call.Step 2_000_100
          ∷ [];
    }

abbrev examples : List Fade
examples = pace_kept ∷ no_delta ∷ no_time ∷ past_zero ∷ among_others ∷ []

-- ---- they meet the premises

pub in-range-lamp : (hue : ℕ) → hue < 65536 → InRangeLamp (lamp_at hue)
in-range-lamp hue h =
    record {
      clock = lit< tt;
      bounds = record { min = lit< tt; max = lit< tt };
      hue = h;
      saturation = lit< tt;
      mireds = lit< tt;
      hue_stamp = lit< tt;
      saturation_stamp = lit< tt;
      mireds_stamp = lit< tt;
      loop_time = lit< tt;
      loop_start = lit< tt;
      loop_stored = lit< tt;
      remaining = lit< tt;
      options = lit< tt;
      running = tt;
    }

pub in-range-plain : (c : Command) → InRangeCommand c → InRangeRequest (request c plain)
in-range-plain c in_range = record { options = record { mask = lit< tt; overrides = lit< tt }; command = in_range }

-- the premises of a fade: the types, and six tests that compute
pub meets : (e : Fade) → InRangeLamp e.lamp → InRangeCalls (list_of e) → lamp_valid e.lamp ≡ true →
    accepts (finds e) (command_call e) ≡ true → allowed (finds e) (as_request e.move) e.on_off ≡ true →
    accepts (ready e) (start_call e) ≡ true → quiet (begun e).lamp e.calls ≡ true → PremisedButHue e
meets e in_range_lamp in_range_calls valid accepted may_execute started undisturbed =
    record {
      valid = valid;
      in_range_lamp = in_range_lamp;
      in_range_calls = in_range_calls;
      accepted = accepted;
      may_execute = may_execute;
      started = started;
      undisturbed = undisturbed;
    }

pub all_meet : Premised pace_kept × Premised no_delta × Premised no_time × Premised past_zero × Premised among_others
unfolding after quiet answer command_cause command_answer first_cause lamp_valid all_true color_valid running_valid move_to_valid task_valid command_effect start_answer step_answer halt_answer bounds_answer started stepped hue_saturation_start hue_saturation_moved timed hue_set bounded clamp permille_of path_delta is_tie distance moved_hue has_flag
all_meet = (
  record {
    others = meets _ (in-range-lamp 0 (lit< tt))
        ((in-range-plain _ (lit< tt, lit< tt), lit< tt), ((record { delta = lit< tt; saturation = tt; ms = lit< tt }, lit< tt), (lit< tt, (lit< tt, tt))))
        refl refl refl refl refl;
    hue = refl;
  },
  record {
    others = meets _ (in-range-lamp 2560 (lit< tt))
        ((in-range-plain _ (lit< tt, lit< tt), lit< tt), ((record { delta = lit< tt; saturation = tt; ms = lit< tt }, lit< tt), (lit< tt, tt)))
        refl refl refl refl refl;
    hue = refl;
  },
  record {
    others = meets _ (in-range-lamp 0 (lit< tt))
        ((in-range-plain _ (lit< tt, lit< tt), lit< tt), ((record { delta = lit< tt; saturation = tt; ms = lit< tt }, lit< tt), (lit< tt, tt)))
        refl refl refl refl refl;
    hue = refl;
  },
  record {
    others = meets _ (in-range-lamp 1000 (lit< tt))
        ((in-range-plain _ (lit< tt, lit< tt), lit< tt), ((record { delta = lit< tt; saturation = tt; ms = lit< tt }, lit< tt), (lit< tt, (lit< tt, (lit< tt, (lit< tt, tt))))))
        refl refl refl refl refl;
    hue = refl;
  },
  record {
    others = meets _ (in-range-lamp 60000 (lit< tt))
        (lit< tt, (lit< tt, ((in-range-plain _ (lit< tt, lit< tt), lit< tt), ((in-range-plain _ (lit< tt, lit< tt), lit< tt), ((record { delta = lit< tt; saturation = tt; ms = lit< tt }, lit< tt), (lit< tt, (lit< tt, ((in-range-plain _ (lit< tt, lit< tt), lit< tt), ((in-range-plain _ (lit< tt), lit< tt), ((tt, lit< tt), ((in-range-plain _ (lit< tt, lit< tt, lit< tt), lit< tt), ((in-range-plain _ (lit< tt, lit< tt), lit< tt), ((in-range-plain _ (lit< tt, lit< tt, lit< tt, lit< tt), lit< tt), ((record { min = lit< tt; max = lit< tt }, lit< tt), ((record { min = lit< tt; max = lit< tt }, lit< tt), (lit< tt, (lit< tt, (lit< tt, tt))))))))))))))))))
        refl refl refl refl refl;
    hue = refl;
  },
)

-- and each accepted step comes at or after the wait that was asked
pub all-wait : map waits_kept examples ≡ true ∷ true ∷ true ∷ true ∷ true ∷ []
unfolding paced after answer command_cause command_answer first_cause lamp_valid all_true color_valid running_valid move_to_valid task_valid command_effect start_answer step_answer halt_answer bounds_answer started stepped hue_saturation_start hue_saturation_moved timed hue_set bounded clamp permille_of path_delta is_tie distance moved_hue has_flag
all-wait = refl

-- ---- what their lamps show, from the start on

pub all-show : map shown examples ≡
    (seen 0 2 false ∷ seen 16384 1 false ∷ seen 32768 0 true ∷ [])
    ∷ (seen 2560 0 true ∷ seen 2560 0 true ∷ [])
    ∷ (seen 2560 0 true ∷ seen 2560 0 true ∷ [])
    ∷ (seen 1000 4 false ∷ seen 500 3 false ∷ seen 0 2 false ∷ seen 65036 1 false ∷ seen 64536 0 true ∷ [])
    ∷ (seen 60000 10 false ∷ seen 60653 9 false ∷ seen 60653 9 false ∷ seen 60653 9 false ∷ seen 60653 9 false ∷ seen 60653 9 false
    ∷ seen 60653 9 false ∷ seen 60653 9 false ∷ seen 60653 9 false ∷ seen 60653 9 false ∷ seen 60653 9 false ∷ seen 60653 9 false
    ∷ seen 1000 0 true ∷ seen 1000 0 true ∷ [])
    ∷ []
unfolding observations after answer command_cause command_answer first_cause lamp_valid all_true color_valid running_valid move_to_valid task_valid command_effect start_answer step_answer halt_answer bounds_answer started stepped hue_saturation_start hue_saturation_moved timed hue_set bounded clamp permille_of path_delta is_tie distance moved_hue has_flag
all-show = refl

-- as many steps as tenths, where each comes as soon as it may
pub all_take : map steps_taken examples ≡ 2 ∷ 0 ∷ 0 ∷ 4 ∷ 2 ∷ []
unfolding steps after answer command_cause command_answer first_cause lamp_valid all_true color_valid running_valid move_to_valid task_valid command_effect start_answer step_answer halt_answer bounds_answer started stepped hue_saturation_start hue_saturation_moved timed hue_set bounded clamp permille_of path_delta is_tie distance moved_hue has_flag
all_take = refl
