-- The table of causes for rows, case by case.
use Rattle.matter.specs.Causes.{accepted, number_of, invalid_lamp, short_slice, clock_refused}
use Prim.Native.Nat.{ℕ, ◌*◌}
use mathlib.Core.Bool.{Bool, true, false, cond, not, ◌&&◌, ◌||◌, and-false}
use mathlib.Core.Path.{◌≡◌, sym, ap, ◌∙◌}
use native.Mathlib.Omega.{arith}
use lib.Dec.{ltb, leb}
use borrow.Author.Tests.{lt-ltb, le-ltb, le-leb, lt-leb, ltb-true, ltb-false, leb-true, leb-false}
use Rattle.matter.specs.Limits.{clock_limit}
use Rattle.lamp.specs.declared.Call.{Call}
use Rattle.commands.proofs.Table.{table}
use Rattle.rows.specs.declared.Row.{Row}
use Rattle.rows.specs.Rows.{placed, mask_true, all_valid, any_later, lamp_at, row_cause, place_cause, answered_at}
use Rattle.rows.specs.RowTable.{RowCauses, PlaceCauses, TableOfRows}
use Rattle.rows.proofs.Laws.{either, row_number}

row-causes : (r : Row) (size clock : ℕ) → RowCauses r size clock
unfolding row_cause
row-causes r size clock =
    let n = ap number_of (row_number r size clock) in
    record {
      count-8 = λ h. n ∙ rw (lt-ltb 32 r.count h);
      slice-9 = λ h k. n ∙ rw (le-ltb 32 r.count h, lt-ltb size (16 * r.count) k);
      mask-8 = λ h k m. n ∙ rw (le-ltb 32 r.count h, le-ltb size (16 * r.count) k, m);
      lamp-8 = λ h k v. n ∙ rw (le-ltb 32 r.count h, le-ltb size (16 * r.count) k, v, and-false);
      clock-4 = λ h k m v c. n ∙ rw (le-ltb 32 r.count h, le-ltb size (16 * r.count) k, m, v, c);
      accepted-0 = λ h k m v c. n ∙ rw (le-ltb 32 r.count h, le-ltb size (16 * r.count) k, m, v, c);
    }

place-causes : (r : Row) (place : ℕ) (x : Call) → PlaceCauses r place x
unfolding answered_at place_cause
place-causes r place x =
    record {
      count-8 = λ h. rw (lt-ltb 32 r.count h);
      place-10 = λ h k. rw (le-ltb 32 r.count h, le-leb r.count place k);
      mask-8 = λ h k m. rw (le-ltb 32 r.count h, lt-leb r.count place k, m);
      own = λ h k m. let e : place_cause r place ≡ accepted = rw (le-ltb 32 r.count h, lt-leb r.count place k, m) in
          record { verdict = rw e; notices = rw e; task = rw e; wait = rw e };
    }

never-3 : (a b c d : Bool) →
    number_of (cond a invalid_lamp (cond b short_slice (cond (not c) invalid_lamp (cond d clock_refused accepted)))) ≡ 3 → ⊥
never-3 true b c d e = omega (arith, e)
never-3 false true c d e = omega (arith, e)
never-3 false false false d e = omega (arith, e)
never-3 false false true true e = omega (arith, e)
never-3 false false true false e = omega (arith, e)

pub table-of-rows : TableOfRows
unfolding row_cause
table-of-rows =
    record {
      rows = row-causes;
      places = place-causes;
      no-3 = λ r size clock e. never-3 (ltb 32 r.count) (ltb size (16 * r.count)) (mask_true r && all_valid (placed r)) (any_later (placed r) clock || ltb clock_limit clock) (ap number_of (sym (row_number r size clock)) ∙ e);
      place-no-3 = λ r place x e.
          either (ltb 32 r.count)
          (λ h. omega (arith, (place-causes r place x).count-8 (ltb-true 32 r.count h), e))
          (λ h. either (leb r.count place)
          (λ k. omega (arith, (place-causes r place x).place-10 (ltb-false 32 r.count h) (leb-true r.count place k), e))
          (λ k. either (mask_true r)
          (λ m. table.no-3 (lamp_at r place) x (ap number_of (sym ((place-causes r place x).own (ltb-false 32 r.count h) (leb-false r.count place k) m).verdict) ∙ e))
          (λ m. omega (arith, (place-causes r place x).mask-8 (ltb-false 32 r.count h) (leb-false r.count place k) m, e))));
    }
