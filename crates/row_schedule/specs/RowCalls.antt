-- Lists of row calls and single calls, and what the lamp at one place is given by them: document 02, A.1.
use Rattle.std.specs.Prelude.{ℕ, cond, List, [], ◌∷◌, ◌++◌, eqb, is_ok}
use Rattle.matter.specs.InRange.{Clock}
use Rattle.lamp.specs.declared.Call.{Call}
use Rattle.lamp.specs.InRange.{InRangeCall}
use Rattle.rows.specs.declared.Row.{Row}
use Rattle.rows.specs.Rows.{row_cause, row_stepped, answered_at}

-- a row call with a slice of so many bytes, and a call at a place
pub data RowCall : Type 0 where
  each : (size clock : ℕ) → RowCall
  at : (place : ℕ) → Call → RowCall

-- the row that a call leaves
abbrev pub next_row : Row → RowCall → Row
next_row r (each size clock) = (row_stepped r size clock).row
next_row r (at place x) = (answered_at r place x).row

-- the row that a list leaves
unfoldable pub after_row : Row → List RowCall → Row
after_row r [] = r
after_row r (x ∷ xs) = after_row (next_row r x) xs

-- "a row call that the row's rules accept is an accepted step of each lamp that runs": a step, which an idle lamp
-- refuses with 7; "a call to another place leaves it [..] as they were"
abbrev pub given_by : ℕ → Row → RowCall → List Call
given_by k r (each size clock) = cond (is_ok (row_cause r size clock)) (Call.Step clock ∷ []) []
given_by k r (at place x) = cond (eqb place k) (x ∷ []) []

-- what the lamp at place k is given
unfoldable pub given : ℕ → Row → List RowCall → List Call
given k r [] = []
given k r (x ∷ xs) = given_by k r x ++ given k (next_row r x) xs

-- the widths of their numbers
abbrev pub InRangeRowCall : RowCall → Type 0
InRangeRowCall (each size clock) = Clock clock
InRangeRowCall (at place x) = InRangeCall x

abbrev pub InRangeRowCalls : List RowCall → Type 0
InRangeRowCalls [] = Unit
InRangeRowCalls (x ∷ xs) = InRangeRowCall x × InRangeRowCalls xs
