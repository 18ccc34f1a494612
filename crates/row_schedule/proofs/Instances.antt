-- The claim for rows, of rows that meet its premises by computation: the last of two lamps, given a move to a hue, started, and
-- turned by row calls among refused ones and calls to its neighbour, ends at its target, and its row shows that; and the lamp at
-- place 4 of ten, with each part of the tie read as numbers.
use Rattle.std.specs.Prelude.{Some}
use Prim.Native.Nat.{ℕ}
use mathlib.Core.Bool.{false}
use mathlib.Core.List.{List, [], ◌∷◌, ◌++◌}
use mathlib.Core.Path.{◌≡◌, refl, ap, ◌∙◌}
use native.Mathlib.Omega.{arith}
use lib.Dec.{lit<}
use lib.ListN.{length, replicate, take, drop}
use Rattle.matter.specs.declared.enums.DirectionEnum.{DirectionEnum}
use Rattle.matter.specs.declared.enums.OnOff.{OnOff}
use Rattle.matter.specs.Causes.{accepted, number_of}
use Rattle.matter.specs.All.{all_true}
use Rattle.matter.specs.Flags.{has_flag}
use Rattle.matter.specs.InRange.{Clock}
use Rattle.notices.specs.declared.Notices.{Notices}
use Rattle.notices.specs.Notices.{filled}
use Rattle.remaining_time.specs.RemainingTime.{reported}
use Rattle.hue.specs.Hue.{distance, path_delta, is_tie, moved_hue}
use Rattle.progress.specs.Progress.{permille_of}
use Rattle.color.specs.Valid.{color_valid}
use Rattle.color.specs.Setters.{hue_set}
use Rattle.tasks.specs.Valid.{move_to_valid, task_valid, running_valid}
use Rattle.lamp.specs.declared.Lamp.{Lamp}
use Rattle.lamp.specs.declared.Call.{Call}
use Rattle.lamp.specs.Answers.{first_cause}
use Rattle.lamp.specs.InRange.{InRangeCall}
use Rattle.lamp.specs.Calls.{hue_saturation_start, started, stepped, start_answer, step_answer, halt_answer}
use Rattle.lamp.specs.Valid.{lamp_valid}
use Rattle.lamp.specs.Passes.{hue_saturation_moved, timed}
use Rattle.commands.specs.Commands.{command_effect}
use Rattle.commands.specs.Answers.{answer, command_cause, command_answer}
use Rattle.schedule.specs.Calls.{after, quiet}
use Rattle.schedule.specs.Schedule.{HueCommand, shown_at, scheduled_from}
use Rattle.schedule.specs.Claim.{move_to, start_of}
use Rattle.schedule.proofs.Examples.{lamp_at, plain, in-range-lamp, in-range-plain}
use Rattle.rows.specs.Rows as rows
use Rattle.rows.specs.Rows.{visited, row_cause, row_stepped, row_bytes, lesser, least_wait, place_cause, answered_at}
use Rattle.rows.specs.RowTable.{AnswersAs}
use Rattle.row_schedule.specs.RowCalls.{RowCall, each, at, after_row, given}
use Rattle.row_schedule.specs.RowClaim.{RowKept, own, owns, step_bytes}
use Rattle.row_schedule.proofs.Examples.{two, ten, down}
use Rattle.row_schedule.proofs.Keeps.{row_keeps}

-- half the circle down, in two tenths
abbrev half : HueCommand
half = record { enhanced = false; hue = 128; direction = DirectionEnum.Down; tenths = 2; options = plain }

abbrev calls : List RowCall
calls =
    at 1 (move_to half OnOff.On 5000)
    ∷ at 0 (Call.Halt 5010)
    ∷ at 1 (start_of half (lamp_at 0) 5020)
    -- refused: earlier than the neighbour's clock
    ∷ each 32 5005
    ∷ each 32 5120
    ∷ at 0 (Call.Halt 5130)
    -- refused: a short slice
    ∷ each 31 5140
    ∷ each 40 5220
    ∷ []

kept : RowKept 1 two calls
unfolding lamp_valid all_true color_valid running_valid path_delta distance
kept =
    row_keeps two calls (record { places = refl; count = omega arith; mask = refl; lamps = refl })
    ((in-range-plain _ (lit< tt, lit< tt), lit< tt), (lit< tt, ((record { delta = lit< tt; saturation = tt; ms = lit< tt }, lit< tt), (lit< tt, (lit< tt, (lit< tt, (lit< tt, (lit< tt, tt))))))))
    1 (omega arith) (in-range-lamp 0 (lit< tt))

pub ends-at-half : (rows.lamp_at (after_row two calls) 1).color.hue ≡ 32768
unfolding given quiet after_row row_stepped row_cause answered_at place_cause visited after answer command_cause command_answer first_cause lamp_valid all_true color_valid running_valid move_to_valid task_valid command_effect start_answer step_answer halt_answer started stepped hue_saturation_start hue_saturation_moved timed hue_set permille_of path_delta is_tie distance moved_hue has_flag
ends-at-half =
    ap (λ (l : Lamp). l.color.hue) (kept.tied.lamp calls [] refl)
    ∙ ((((kept.everywhere [] (start_of half (lamp_at 0) 5020 ∷ Call.Step 5120 ∷ Call.Step 5220 ∷ []) half OnOff.On 5000 refl refl refl
    ).fades [] (Call.Step 5120 ∷ Call.Step 5220 ∷ []) 5020 refl (record { accepted = refl; hue = refl; undisturbed = refl })
    ).everywhere (Call.Step 5120 ∷ Call.Step 5220 ∷ []) [] refl).end refl).0

-- ---- place 4 of ten, whose fade begins 50 ms behind that of place 0

abbrev begun : List RowCall
begun = at 4 (move_to half OnOff.On 5000) ∷ at 0 (Call.Start down 5000) ∷ []

-- till the first row call that is accepted, with a neighbour started and halted
abbrev both : List RowCall
both =
    begun
    ++ (at 4 (start_of half (lamp_at 0) 5050)
    -- refused: earlier than the clock of place 4
    ∷ each 160 5049
    ∷ at 5 (Call.Start down 5060)
    ∷ at 5 (Call.Halt 5070)
    ∷ [])

-- that one asks for 80 ms, as place 0 does, where place 4 asks for 100
abbrev first : List RowCall
first =
    both
    ++ (each 160 5120
    -- refused: a short slice
    ∷ each 159 5130
    ∷ [])

-- so that the next one comes 20 ms early for place 4
abbrev early : List RowCall
early = first ++ (each 160 5200 ∷ [])

-- a refused step, and the end
abbrev ended : List RowCall
ended = early ++ (at 4 (Call.Step 5199) ∷ each 170 5250 ∷ [])

-- a row call when all are idle
abbrev ten_calls : List RowCall
ten_calls = ended ++ (each 160 5260 ∷ [])

in-range-down : (clock : ℕ) → Clock clock → InRangeCall (Call.Start down clock)
in-range-down clock h = (record { delta = lit< tt; saturation = tt; ms = lit< tt }, h)

kept_at4 : RowKept 4 ten ten_calls
unfolding lamp_valid all_true color_valid running_valid path_delta distance
kept_at4 =
    row_keeps ten ten_calls (record { places = refl; count = omega arith; mask = refl; lamps = refl })
    ((in-range-plain _ (lit< tt, lit< tt), lit< tt), (in-range-down 5000 (lit< tt), (in-range-down 5050 (lit< tt), (lit< tt, (in-range-down 5060 (lit< tt), (lit< tt, (lit< tt, (lit< tt, (lit< tt, (lit< tt, (lit< tt, (lit< tt, tt))))))))))))
    4 (omega arith) (in-range-lamp 0 (lit< tt))

-- each part of the tie, for values that the lamp's own side computes to; here the row's side does not compute
lamp-by : {A : Type 0} (f : Lamp → A) (a : A) (ys zs : List RowCall) → ten_calls ≡ ys ++ zs → f (own 4 ten ys) ≡ a → f (rows.lamp_at (after_row ten ys) 4) ≡ a
lamp-by f a ys zs e computed = ap f (kept_at4.tied.lamp ys zs e) ∙ computed

single-by : (ys : List RowCall) (x : Call) (zs : List RowCall) → ten_calls ≡ ys ++ (at 4 x ∷ zs) →
    AnswersAs (answered_at (after_row ten ys) 4 x) (answer (own 4 ten ys) x)
single-by = kept_at4.tied.single

bytes-by : (bytes : List ℕ) (ys : List RowCall) (clock : ℕ) (out : List ℕ) (zs : List RowCall) → ten_calls ≡ ys ++ (each (length out) clock ∷ zs) →
    row_cause (after_row ten ys) (length out) clock ≡ accepted → step_bytes (own 4 ten ys) clock ≡ bytes → take 16 (drop 64 (row_bytes (after_row ten ys) out clock)) ≡ bytes
bytes-by bytes ys clock out zs e a computed = kept_at4.tied.bytes ys clock out zs e a ∙ computed

wait_by : (wait : ℕ) (ys : List RowCall) (size clock : ℕ) (zs : List RowCall) → ten_calls ≡ ys ++ (each size clock ∷ zs) →
    row_cause (after_row ten ys) size clock ≡ accepted → least_wait clock (owns 10 0 ten ys) ≡ wait → (row_stepped (after_row ten ys) size clock).wait ≡ wait
wait_by wait ys size clock zs e a computed = kept_at4.tied.wait ys size clock zs e a ∙ computed

-- `lamp`, and demand 3: its hue after the early row call, three quarters of the way, and at the end
pub hue-at-4 :
    ((rows.lamp_at (after_row ten early) 4).color.hue ≡ 40960)
    × ((rows.lamp_at (after_row ten ended) 4).color.hue ≡ 32768)
unfolding given quiet after_row row_stepped row_cause answered_at place_cause visited after answer command_cause command_answer first_cause lamp_valid all_true color_valid running_valid move_to_valid task_valid command_effect start_answer step_answer halt_answer started stepped hue_saturation_start hue_saturation_moved timed hue_set permille_of path_delta is_tie distance moved_hue has_flag scheduled_from shown_at
hue-at-4 =
    let steps : List Call = Call.Step 5120 ∷ Call.Step 5200 ∷ Call.Step 5199 ∷ Call.Step 5250 ∷ Call.Step 5260 ∷ [] in
    let fade =
    (kept_at4.everywhere [] (start_of half (lamp_at 0) 5050 ∷ steps) half OnOff.On 5000 refl refl refl
    ).fades [] steps 5050 refl (record { accepted = refl; hue = refl; undisturbed = refl })
    in (
      lamp-by (λ l. l.color.hue) _ early _ refl (fade.everywhere (take 2 steps) _ refl).agrees.hue,
      lamp-by (λ l. l.color.hue) _ ended _ refl ((fade.everywhere (take 4 steps) _ refl).end refl).0,
    )

-- `single`: the command gives its task, the start asks for 100 ms, and the step with an earlier clock is refused
pub singles-at-4 :
    ((answered_at ten 4 (move_to half OnOff.On 5000)).task ≡ Some down)
    × ((answered_at ten 4 (move_to half OnOff.On 5000)).notices.places ≡ 17 ∷ replicate 15 0)
    × ((answered_at (after_row ten begun) 4 (start_of half (lamp_at 0) 5050)).wait ≡ 100)
    × (number_of (answered_at (after_row ten early) 4 (Call.Step 5199)).verdict ≡ 4)
unfolding given after_row row_stepped row_cause answered_at place_cause visited after answer command_cause command_answer first_cause lamp_valid all_true color_valid running_valid move_to_valid task_valid command_effect start_answer step_answer halt_answer started stepped hue_saturation_start hue_saturation_moved timed hue_set permille_of path_delta is_tie distance moved_hue has_flag filled
singles-at-4 = (
  (single-by [] (move_to half OnOff.On 5000) _ refl).task,
  ap (λ (n : Notices). n.places) (single-by [] (move_to half OnOff.On 5000) _ refl).notices,
  (single-by begun (start_of half (lamp_at 0) 5050) _ refl).wait,
  ap number_of (single-by early (Call.Step 5199) _ refl).verdict,
)

-- `bytes`: what the four accepted row calls write at place 4, over sevens
pub bytes-at-4 :
    (take 16 (drop 64 (row_bytes (after_row ten both) (replicate 160 7) 5120)) ≡ 13 ∷ 2 ∷ 6 ∷ 7 ∷ 14 ∷ 15 ∷ replicate 10 0)
    × (take 16 (drop 64 (row_bytes (after_row ten first) (replicate 160 7) 5200)) ≡ 13 ∷ 14 ∷ 15 ∷ replicate 13 0)
    × (take 16 (drop 64 (row_bytes (after_row ten (take 10 ten_calls)) (replicate 170 7) 5250)) ≡ 13 ∷ 2 ∷ 6 ∷ 7 ∷ 14 ∷ 15 ∷ 1 ∷ replicate 9 0)
    × (take 16 (drop 64 (row_bytes (after_row ten ended) (replicate 160 7) 5260)) ≡ replicate 16 0)
unfolding given after_row row_stepped row_cause answered_at place_cause visited after answer command_cause command_answer first_cause lamp_valid all_true color_valid running_valid move_to_valid task_valid command_effect start_answer step_answer halt_answer started stepped hue_saturation_start hue_saturation_moved timed hue_set permille_of path_delta is_tie distance moved_hue has_flag filled reported
bytes-at-4 = (
  bytes-by _ both 5120 (replicate 160 7) _ refl refl refl,
  bytes-by _ first 5200 (replicate 160 7) _ refl refl refl,
  bytes-by _ (take 10 ten_calls) 5250 (replicate 170 7) _ refl refl refl,
  bytes-by _ ended 5260 (replicate 160 7) _ refl refl refl,
)

-- `wait`: the least of ten is that of place 0, below the one of place 4; then that of place 4; then none
pub waits-of-ten :
    ((row_stepped (after_row ten both) 160 5120).wait ≡ 80)
    × ((answer (rows.lamp_at (after_row ten both) 4) (Call.Step 5120)).wait ≡ 100)
    × ((row_stepped (after_row ten first) 160 5200).wait ≡ 50)
    × ((row_stepped (after_row ten ended) 160 5260).wait ≡ 0)
unfolding given after_row row_stepped row_cause answered_at place_cause visited after answer command_cause command_answer first_cause lamp_valid all_true color_valid running_valid move_to_valid task_valid command_effect start_answer step_answer halt_answer started stepped hue_saturation_start hue_saturation_moved timed hue_set permille_of path_delta is_tie distance moved_hue has_flag lesser
waits-of-ten = (
  wait_by _ both 160 5120 _ refl refl refl,
  lamp-by (λ l. (answer l (Call.Step 5120)).wait) _ both _ refl refl,
  wait_by _ first 160 5200 _ refl refl refl,
  wait_by _ ended 160 5260 _ refl refl refl,
)
