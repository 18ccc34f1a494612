-- Ten lamps that turn together by one row call, and two fades 50 ms apart, with their waits, by computation.
use Rattle.std.specs.Prelude.{Some, None}
use Prim.Native.Nat.{ℕ, zero, suc}
use mathlib.Core.Bool.{false}
use mathlib.Core.List.{List, [], ◌∷◌, ◌++◌, map}
use mathlib.Core.Path.{◌≡◌, refl}
use lib.ListN.{replicate}
use lib.IntN.{pos, neg_ℤ}
use Rattle.matter.specs.All.{all_true}
use Rattle.hue.specs.Hue.{moved_hue}
use Rattle.progress.specs.Progress.{permille_of, clamp}
use Rattle.color.specs.Valid.{color_valid}
use Rattle.color.specs.Setters.{hue_set}
use Rattle.color.specs.Bounded.{bounded}
use Rattle.tasks.specs.declared.Task.{Task}
use Rattle.tasks.specs.Valid.{move_to_valid, task_valid, running_valid}
use Rattle.lamp.specs.declared.Lamp.{Lamp}
use Rattle.lamp.specs.declared.Call.{Call}
use Rattle.lamp.specs.Answers.{first_cause}
use Rattle.lamp.specs.Calls.{hue_saturation_start, started, stepped, start_answer, step_answer, halt_answer, bounds_answer}
use Rattle.lamp.specs.Valid.{lamp_valid}
use Rattle.lamp.specs.Passes.{hue_saturation_moved, timed}
use Rattle.commands.specs.Answers.{answer}
use Rattle.schedule.proofs.Examples as schedule
use Rattle.rows.specs.declared.Row.{Row}
use Rattle.rows.specs.Rows.{placed, lamp_at, visited, row_cause, row_stepped, lesser, place_cause, answered_at}
use Rattle.row_schedule.specs.RowCalls.{RowCall, each, at, next_row, after_row}

-- idle lamps at hue 0
abbrev pub of_idle : ℕ → Row
of_idle count = record { count = count; running_mask = 0; lamps = replicate 32 (schedule.lamp_at 0) }

abbrev pub ten : Row
ten = of_idle 10

abbrev pub two : Row
two = of_idle 2

-- half the circle down, in two tenths
abbrev pub down : Task
down = Task.HueSaturationMoveTo (record { delta = Some (neg_ℤ (pos 32768)); saturation = None; ms = 200; enhanced = false })

-- a start at each of so many places, from place k on
abbrev pub starts : ℕ → ℕ → List RowCall
starts zero k = []
starts (suc n) k = at k (Call.Start down 5000) ∷ starts n (suc k)

-- two fades begun 50 ms apart, a row call before the second's start, which is refused, then these calls
abbrev fifty_apart : List RowCall → List RowCall
fifty_apart xs = at 0 (Call.Start down 5000) ∷ at 1 (Call.Start down 5050) ∷ each 32 5049 ∷ xs

abbrev pub hues : Row → List ℕ
hues r = map (λ (l : Lamp). l.color.hue) (placed r)

-- one row call turns all ten; two fades begun 50 ms apart, where a row call by the first one's wait is early for the second and one
-- before the second's start is refused; new bounds of the first lamp between, which move its mireds, leave both hues as they were and the
-- second lamp whole; a neighbour started and halted in between leaves the others as they were
pub turns :
    (hues (after_row ten (starts 10 0 ++ (each 160 5100 ∷ []))) ≡ replicate 10 49152)
    × (hues (after_row two (fifty_apart (each 32 5100 ∷ []))) ≡ 49152 ∷ 57344 ∷ [])
    × (hues (after_row two (fifty_apart (at 0 (Call.SetBounds (record { min = 300; max = 600 }) 5060) ∷ each 32 5100 ∷ []))) ≡ 49152 ∷ 57344 ∷ [])
    × (map {B = ℕ × ℕ} (λ l. (l.bounds.min, l.color.mireds)) (placed (after_row two (fifty_apart (at 0 (Call.SetBounds (record { min = 300; max = 600 }) 5060) ∷ [])))) ≡ (300, 300) ∷ (153, 250) ∷ [])
    × (hues (after_row ten (starts 9 0 ++ (at 9 (Call.Start down 5000) ∷ at 9 (Call.Halt 5000) ∷ each 160 5200 ∷ []))) ≡ replicate 9 32768 ++ (0 ∷ []))
unfolding after_row row_stepped row_cause answered_at place_cause visited answer start_answer step_answer halt_answer bounds_answer first_cause started stepped hue_saturation_start hue_saturation_moved timed task_valid move_to_valid lamp_valid color_valid running_valid hue_set bounded clamp permille_of moved_hue all_true
turns = (refl, refl, refl, refl, refl)

-- the waits that the calls ask for
abbrev waits : Row → List RowCall → List ℕ
waits r [] = []
waits r (each size clock ∷ xs) = (row_stepped r size clock).wait ∷ waits (next_row r (each size clock)) xs
waits r (at place x ∷ xs) = (answered_at r place x).wait ∷ waits (next_row r (at place x)) xs

-- by the first one's wait a row call comes at 5100, where the second one's asks for 5150; one at 5120 asks for 80 ms, as the first
-- does, where the second asks for 100: the next, at 5200, is early for it
pub asks :
    (waits two (fifty_apart (each 32 5100 ∷ each 32 5200 ∷ each 32 5250 ∷ [])) ≡ 100 ∷ 100 ∷ 0 ∷ 100 ∷ 50 ∷ 0 ∷ [])
    × (waits two (fifty_apart (each 32 5120 ∷ each 32 5200 ∷ each 32 5250 ∷ [])) ≡ 100 ∷ 100 ∷ 0 ∷ 80 ∷ 50 ∷ 0 ∷ [])
    × ((answer (lamp_at (after_row two (fifty_apart [])) 0) (Call.Step 5120)).wait ≡ 80)
    × ((answer (lamp_at (after_row two (fifty_apart [])) 1) (Call.Step 5120)).wait ≡ 100)
    × (hues (after_row two (fifty_apart (each 32 5120 ∷ each 32 5200 ∷ []))) ≡ 32768 ∷ 40960 ∷ [])
unfolding after_row row_stepped row_cause answered_at place_cause visited answer start_answer step_answer halt_answer first_cause started stepped hue_saturation_start hue_saturation_moved timed task_valid move_to_valid lamp_valid color_valid running_valid hue_set permille_of moved_hue all_true lesser
asks = (refl, refl, refl, refl, refl)
