-- The claim for rows: the tie by the lists, demand 3 by the claim of a lamp.
use Rattle.std.specs.Prelude.{is_ok}
use Prim.Native.Nat.{ℕ, zero, suc, ◌+◌, ◌≤◌, ◌<◌}
use mathlib.Core.Bool.{Bool, true, false, cond}
use mathlib.Core.List.{List, [], ◌∷◌, ◌++◌}
use mathlib.Core.Path.{◌≡◌, refl, ap, sym, ◌∙◌}
use native.Mathlib.Omega.{arith}
use lib.Dec.{eqb}
use lib.ListN.{length, take, get_or}
use Rattle.matter.specs.Causes.{accepted}
use Rattle.notices.specs.Notices.{filled}
use Rattle.tasks.specs.Runs.{runs}
use Rattle.lamp.specs.declared.Lamp.{Lamp}
use Rattle.lamp.specs.declared.Call.{Call}
use Rattle.lamp.specs.InRange.{InRangeCall}
use Rattle.commands.specs.Answers.{answer}
use Rattle.schedule.specs.Calls.{InRangeCalls}
use Rattle.schedule.proofs.Keeps.{keeps-schedule}
use Rattle.rows.specs.declared.Row.{Row}
use Rattle.rows.specs.Rows.{lamp_at, visited, answered_at, row_cause, row_stepped, row_bytes, least_wait, no_lamp}
use Rattle.rows.specs.RowTable.{AnswersAs}
use Rattle.rows.proofs.Laws.{InRow, InTrueRow, either, visited-step, single-is}
use Rattle.rows.proofs.Bytes.{sixteen_at, bytes-at}
use Rattle.row_schedule.specs.RowCalls.{RowCall, each, at, next_row, after_row, given_by, given, InRangeRowCall, InRangeRowCalls}
use Rattle.row_schedule.specs.RowClaim.{RowValid, RowClaim, own, owns, step_bytes}
use Rattle.row_schedule.proofs.Lists.{kept-after, true-kept-after, its-calls, count-after, each-valid}

-- what is given is in range
pub in-range-append : (xs ys : List Call) → InRangeCalls xs → InRangeCalls ys → InRangeCalls (xs ++ ys)
in-range-append [] ys a b = b
in-range-append (x ∷ xs) ys a b = (a.0, in-range-append xs ys a.1 b)

when : (b : Bool) (x : Call) → InRangeCall x → InRangeCalls (cond b (x ∷ []) [])
when true x t = (t, tt)
when false x t = tt

by_one : (k : ℕ) (r : Row) (x : RowCall) → InRangeRowCall x → InRangeCalls (given_by k r x)
by_one k r (each size clock) t = when (is_ok (row_cause r size clock)) (Call.Step clock) t
by_one k r (at place x) t = when (eqb place k) x t

pub given-in-range : (k : ℕ) (r : Row) (xs : List RowCall) → InRangeRowCalls xs → InRangeCalls (given k r xs)
unfolding given
given-in-range k r [] t = tt
given-in-range k r (x ∷ xs) t = in-range-append (given_by k r x) _ (by_one k r x t.0) (given-in-range k (next_row r x) xs t.1)

-- ---- sixteen bytes a place

-- what the lamp's step reports is nothing where it is idle
step-bytes : (l : Lamp) (clock : ℕ) → (answer l (Call.Step clock)).notices.places ≡ step_bytes l clock
unfolding visited filled
step-bytes l clock =
    either (runs l.running) (λ e. rw e) (λ e. rw (e, ← (visited-step l clock).1, e))

module _ (r : Row) (valid : RowValid r) (k : ℕ) (h : k < r.count) where
  pub in_row : InRow k r
  in_row = record { there = h; room = record { few = valid.count; places = valid.places } }

  pub in_true_row : InTrueRow k r
  in_true_row = record { in_row = in_row; mask = valid.mask }

  single-after : (ys : List RowCall) (x : Call) → AnswersAs (answered_at (after_row r ys) k x) (answer (own k r ys) x)
  single-after ys x = rw (its-calls k r ys in_true_row) at (single-is (after_row r ys) k x (true-kept-after k r ys in_true_row))

  bytes_after : (ys : List RowCall) (clock : ℕ) (out : List ℕ) → row_cause (after_row r ys) (length out) clock ≡ accepted →
      sixteen_at k (row_bytes (after_row r ys) out clock) ≡ step_bytes (own k r ys) clock
  bytes_after ys clock out e =
      bytes-at (after_row r ys) out clock k (kept-after k r ys in_row) e
      ∙ ap (λ l. (answer l (Call.Step clock)).notices.places) (its-calls k r ys in_true_row)
      ∙ step-bytes (own k r ys) clock

-- ---- the lamps of the row are those that their own calls leave

-- the first places of a list, one after another
abbrev from_place : ℕ → ℕ → List Lamp → List Lamp
from_place zero j xs = []
from_place (suc n) j xs = get_or xs j no_lamp ∷ from_place n (suc j) xs

behind-first : (n j : ℕ) (x : Lamp) (xs : List Lamp) → from_place n (suc j) (x ∷ xs) ≡ from_place n j xs
behind-first zero j x xs = refl
behind-first (suc n) j x xs = ap (λ (ls : List Lamp). get_or xs j no_lamp ∷ ls) (behind-first n (suc j) x xs)

take_places : (n : ℕ) (xs : List Lamp) → n ≤ length xs → take n xs ≡ from_place n 0 xs
take_places zero xs h = refl
take_places (suc n) [] h = absurd (omega arith)
take_places (suc n) (x ∷ xs) h = ap (λ (ls : List Lamp). x ∷ ls) (take_places n xs (omega arith) ∙ sym (behind-first n 0 x xs))

module _ (r : Row) (valid : RowValid r) (ys : List RowCall) where
  each-own : (n j : ℕ) → j + n ≤ r.count → from_place n j (after_row r ys).lamps ≡ owns n j r ys
  each-own zero j h = refl
  each-own (suc n) j h =
      rw (its-calls j r ys (in_true_row r valid j (omega arith)), each-own n (suc j) (omega arith))

  module _ (k : ℕ) (h : k < r.count) where
    wait-is : (size clock : ℕ) → row_cause (after_row r ys) size clock ≡ accepted →
        (row_stepped (after_row r ys) size clock).wait ≡ least_wait clock (owns r.count 0 r ys)
    unfolding row_stepped
    wait-is size clock e =
        let later = after_row r ys in
        let kept = kept-after k r ys (in_row r valid k h) in
        let count : later.count ≡ r.count = count-after r ys in
        rw e (ap (least_wait clock) (take_places later.count later.lamps (omega (arith, kept.room.few, kept.room.places))
        ∙ ap (λ n. from_place n 0 later.lamps) count ∙ each-own r.count 0 (omega arith)))

pub row_keeps : RowClaim
row_keeps r calls valid t k h small =
    record {
      tied =
          record {
            lamp = λ ys zs e. its-calls k r ys (in_true_row r valid k h);
            single = λ ys x zs e. single-after r valid k h ys x;
            bytes = λ ys clock out zs e a. bytes_after r valid k h ys clock out a;
            wait = λ ys size clock zs e a. wait-is r valid ys k h size clock a;
          };
      everywhere =
          keeps-schedule (lamp_at r k) (given k r calls)
          (each-valid r.count k r.lamps valid.lamps h (omega (arith, valid.places, valid.count))) small
          (given-in-range k r calls t);
    }
