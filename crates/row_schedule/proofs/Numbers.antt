-- From a valid row: the numbers that never occur, whatever the calls; and the row stays in range.
use Prim.Native.Nat.{ℕ, ◌*◌, ◌≤◌, ◌<◌}
use mathlib.Core.Bool.{Bool, true, false, cond, not, ◌||◌}
use mathlib.Core.List.{List}
use mathlib.Core.Path.{◌≡◌, sym, ap, ◌∙◌, subst}
use native.Mathlib.Omega.{arith}
use lib.Dec.{leb, ltb}
use borrow.Author.Tests.{le-ltb, leb-true, leb-false, ltb-true, ltb-false}
use Rattle.matter.specs.Bounds.{crossed}
use mathlib.Core.Logic.{inl, inr}
use Rattle.matter.specs.Causes as causes
use Rattle.matter.specs.Causes.{accepted, clock_refused, invalid_lamp, short_slice}
use Rattle.matter.specs.Limits.{clock_limit}
use Rattle.tasks.specs.Valid.{task_valid}
use Rattle.tasks.specs.Runs.{runs, moves_mireds}
use Rattle.lamp.specs.declared.Lamp.{Lamp}
use Rattle.lamp.specs.declared.Call.{Call}
use Rattle.lamp.specs.Answers.{bad_clock}
use Rattle.lamp.specs.Valid.{lamp_valid}
use Rattle.lamp.specs.InRange.{InRangeLamp}
use Rattle.commands.specs.Commands.{checks}
use Rattle.commands.specs.Answers.{cause}
use Rattle.commands.proofs.Table.{table, cause-small}
use Rattle.commands.proofs.Kept.{number-is-cause}
use Rattle.schedule.proofs.Lists.{in-range-after}
use Rattle.rows.specs.declared.Row.{Row}
use Rattle.rows.specs.Rows.{lamp_at, placed, any_later, row_cause, row_stepped, answered_at}
use Rattle.rows.proofs.Laws.{either, row_number}
use Rattle.rows.proofs.RowTable.{table-of-rows}
use Rattle.row_schedule.specs.RowCalls.{RowCall, each, at, after_row, InRangeRowCalls}
use Rattle.row_schedule.specs.RowClaim.{RowValid}
use Rattle.row_schedule.proofs.Lists.{each-valid, row-valid-after, its-calls, count-after}
use Rattle.row_schedule.proofs.Keeps.{in_true_row, given-in-range}

-- a valid lamp refuses nothing with 8
valid-no-8 : (l : Lamp) (x : Call) → lamp_valid l ≡ true → causes.number_of (cause l x) ≡ 8 → ⊥
valid-no-8 l (Call.Command r on_off clock) v e =
    let t = table.commands l clock r on_off in
    either (bad_clock l clock) (λ b. omega (arith, t.command-4 v b, e))
    (λ b. either (checks r.command).stop (λ s. omega (arith, t.command-stop v b s, e))
    (λ s. omega (arith, ap causes.number_of (t.command-own v b s), table.own r.command, e)))
valid-no-8 l (Call.Start task clock) v e =
    let t = table.starts l clock task in
    either (bad_clock l clock) (λ b. omega (arith, t.start-4 v b, e))
    (λ b. either (task_valid task) (λ s. omega (arith, t.start-0 v b s, e)) (λ s. omega (arith, t.start-6 v b s, e)))
valid-no-8 l (Call.Step clock) v e =
    let t = table.steps l clock in
    either (runs l.running)
    (λ r. either (bad_clock l clock) (λ b. omega (arith, t.step-4 v r b, e)) (λ b. omega (arith, t.step-0 v r b, e)))
    (λ r. omega (arith, t.step-7 v r, e))
valid-no-8 l (Call.Halt clock) v e =
    let t = table.halts l clock in
    either (bad_clock l clock) (λ b. omega (arith, t.halt-4 v b, e)) (λ b. omega (arith, t.halt-0 v b, e))
valid-no-8 l (Call.SetBounds bounds clock) v e =
    let t = table.bounds l clock bounds in
    either (bad_clock l clock) (λ b. omega (arith, t.bounds-4 v b, e))
    (λ b. either (crossed bounds) (λ u. omega (arith, t.bounds-5 v b (ltb-true _ _ u), e))
    (λ u. let order : bounds.min ≤ bounds.max = ltb-false _ _ u in
    either (moves_mireds l.running) (λ m. omega (arith, t.bounds-18 v b order m, e)) (λ m. omega (arith, t.bounds-0 v b order m, e))))

-- the number of the answer to a call
abbrev pub number_of : Row → RowCall → ℕ
number_of r (each size clock) = causes.number_of (row_stepped r size clock).verdict
number_of r (at place x) = causes.number_of (answered_at r place x).verdict

no-8 : (slice late : Bool) →
    causes.number_of (cond false invalid_lamp (cond slice short_slice (cond (not true) invalid_lamp (cond late clock_refused accepted)))) ≡ 8 → ⊥
no-8 true late e = omega (arith, e)
no-8 false true e = omega (arith, e)
no-8 false false e = omega (arith, e)

valid-row-no-8 : (r : Row) (x : RowCall) → RowValid r → number_of r x ≡ 8 → ⊥
unfolding row_cause
valid-row-no-8 r (each size clock) v e =
    no-8 (ltb size (16 * r.count)) (any_later (placed r) clock || ltb clock_limit clock) (rw (le-ltb 32 r.count v.count, v.mask, v.lamps) at (ap causes.number_of (sym (row_number r size clock)) ∙ e))
valid-row-no-8 r (at place x) v e =
    let t = table-of-rows.places r place x in
    either (leb r.count place)
    (λ h. omega (arith, t.place-10 v.count (leb-true _ _ h), e))
    (λ h. let there = leb-false r.count place h in
    valid-no-8 (lamp_at r place) x (each-valid r.count place r.lamps v.lamps there (omega (arith, v.places, v.count)))
    (ap causes.number_of (sym (number-is-cause (lamp_at r place) x) ∙ sym (t.own v.count there v.mask).verdict) ∙ e))

-- 8 never occurs in any list of calls
pub never-8 : (r : Row) (ys : List RowCall) (x : RowCall) → RowValid r → number_of (after_row r ys) x ≡ 8 → ⊥
never-8 r ys x v = valid-row-no-8 (after_row r ys) x (row-valid-after r ys v)

-- nor 10 for a call to a place below the count
pub never-10 : (r : Row) (ys : List RowCall) (k : ℕ) (x : Call) → RowValid r → k < r.count → causes.number_of (answered_at (after_row r ys) k x).verdict ≡ 10 → ⊥
never-10 r ys k x v h e =
    let w = row-valid-after r ys v in
    let l = lamp_at (after_row r ys) k in
    let own = ((table-of-rows.places (after_row r ys) k x).own w.count (omega (arith, count-after r ys, h)) w.mask).verdict in
    let same : causes.number_of (cause l x) ≡ 10 = ap causes.number_of (sym (number-is-cause l x) ∙ sym own) ∙ e in
    elim (cause-small l x) [ inl h ↦ omega (arith, same) | inr h ↦ omega (arith, same, h.1) ]

-- the widths of every lamp of the row
abbrev pub InRangeRow : Row → Type 0
InRangeRow r = (k : ℕ) → k < r.count → InRangeLamp (lamp_at r k)

pub row-in-range-after : (r : Row) (ys : List RowCall) → RowValid r → InRangeRowCalls ys → InRangeRow r → InRangeRow (after_row r ys)
row-in-range-after r ys v t w k h =
    let there : k < r.count = omega (arith, count-after r ys, h) in
    let valid = each-valid r.count k r.lamps v.lamps there (omega (arith, v.places, v.count)) in
    subst InRangeLamp (sym (its-calls k r ys (in_true_row r v k there))) (in-range-after (lamp_at r k) _ valid (w k there) (given-in-range k r ys t))
