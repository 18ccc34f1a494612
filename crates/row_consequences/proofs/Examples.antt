-- Two lamps of a row, by computation and by the theorem: the first is stepped alone in between, and two row calls are refused.
use mathlib.Core.Bool.{false}
use mathlib.Core.List.{List, [], ◌∷◌, ◌++◌}
use mathlib.Core.Path.{◌≡◌, refl}
use native.Mathlib.Omega.{arith}
use lib.Dec.{lit<}
use Rattle.matter.specs.declared.enums.DirectionEnum.{DirectionEnum}
use Rattle.matter.specs.All.{all_true}
use Rattle.matter.specs.Flags.{has_flag}
use Rattle.hue.specs.Hue.{distance, path_delta, is_tie, moved_hue}
use Rattle.progress.specs.Progress.{permille_of}
use Rattle.color.specs.Valid.{color_valid}
use Rattle.color.specs.Setters.{hue_set}
use Rattle.tasks.specs.Valid.{move_to_valid, task_valid, running_valid}
use Rattle.lamp.specs.declared.Call.{Call}
use Rattle.lamp.specs.InRange.{InRangeCall}
use Rattle.lamp.specs.Answers.{first_cause}
use Rattle.lamp.specs.Calls.{hue_saturation_start, started, stepped, start_answer, step_answer}
use Rattle.lamp.specs.Valid.{lamp_valid}
use Rattle.lamp.specs.Passes.{hue_saturation_moved, timed}
use Rattle.commands.specs.Commands.{command_effect}
use Rattle.commands.specs.Answers.{answer, command_cause, command_answer}
use Rattle.schedule.specs.Calls.{after, quiet}
use Rattle.schedule.specs.Schedule.{HueCommand}
use Rattle.schedule.specs.Fades.{Fade, command_call, start_call}
use Rattle.schedule.proofs.Examples.{lamp_at, plain, at5000, meets, in-range-lamp, in-range-plain}
use Rattle.consequences.specs.Together.{ShowSame}
use Rattle.rows.specs.Rows as rows
use Rattle.rows.specs.Rows.{visited, row_cause, row_stepped, place_cause, answered_at}
use Rattle.row_schedule.specs.RowCalls.{RowCall, each, at, after_row, given}
use Rattle.row_schedule.proofs.Examples.{two, hues}
use Rattle.row_consequences.proofs.RowTogether.{row-together}

-- half the circle down, in two tenths
abbrev half : HueCommand
half = record { enhanced = false; hue = 128; direction = DirectionEnum.Down; tenths = 2; options = plain }

abbrev first : Fade
first = at5000 (lamp_at 0) half (Call.Step 5050 ∷ [])

abbrev second : Fade
second = at5000 (lamp_at 0) half []

abbrev calls : List RowCall
calls =
    at 0 (command_call first)
    ∷ at 1 (command_call second)
    ∷ at 0 (start_call first)
    -- refused: an earlier clock
    ∷ each 32 4999
    ∷ at 1 (start_call second)
    ∷ at 0 (Call.Step 5050)
    -- refused: a short slice
    ∷ each 31 5060
    ∷ []

-- apart before the row call, together after it
pub shown : (hues (after_row two calls) ≡ 57344 ∷ 0 ∷ []) × (hues (after_row two (calls ++ (each 32 5100 ∷ []))) ≡ 49152 ∷ 49152 ∷ [])
unfolding after_row row_stepped row_cause answered_at place_cause visited after answer command_cause command_answer first_cause lamp_valid all_true color_valid running_valid move_to_valid task_valid command_effect start_answer step_answer started stepped hue_saturation_start hue_saturation_moved timed hue_set permille_of path_delta is_tie distance moved_hue has_flag
shown = (refl, refl)

pub together : ShowSame (rows.lamp_at (after_row two (calls ++ (each 32 5100 ∷ []))) 0) (rows.lamp_at (after_row two (calls ++ (each 32 5100 ∷ []))) 1)
unfolding given quiet after_row row_stepped row_cause answered_at place_cause visited after answer command_cause command_answer first_cause lamp_valid all_true color_valid running_valid move_to_valid task_valid command_effect start_answer step_answer started stepped hue_saturation_start hue_saturation_moved timed hue_set permille_of path_delta is_tie distance moved_hue has_flag
together =
    let command : InRangeCall (command_call first) = (in-range-plain _ (lit< tt, lit< tt), lit< tt) in
    let start : InRangeCall (start_call first) = (record { delta = lit< tt; saturation = tt; ms = lit< tt }, lit< tt) in
    row-together two calls 32 5100 0 1 first second
    (record { places = refl; count = omega arith; mask = refl; lamps = refl })
    (record {
      there = omega arith;
      lamp = refl;
      given = refl;
      premised = record { others = meets _ (in-range-lamp 0 (lit< tt)) (command, (start, (lit< tt, tt))) refl refl refl refl refl; hue = refl };
    })
    (record {
      there = omega arith;
      lamp = refl;
      given = refl;
      premised = record { others = meets _ (in-range-lamp 0 (lit< tt)) (command, (start, tt)) refl refl refl refl refl; hue = refl };
    })
    (record { found = refl; target = refl; direction = refl; tenths = refl; start = refl })
    refl
