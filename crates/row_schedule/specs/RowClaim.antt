-- The claim for rows: document 02, A.1, "The schedule rule then speaks of each lamp of a row, for every list of row
-- calls and single calls". One statement ties the lamp at a place to the calls that it is given, and says the claim of
-- demand 3 of it.
use Rattle.std.specs.Prelude.{ℕ, zero, suc, ◌*◌, ◌≤◌, ◌<◌, true, cond}
use Rattle.std.specs.Prelude.{List, [], ◌∷◌, ◌++◌, ◌≡◌, length, replicate, take, drop}
use Rattle.matter.specs.Causes.{accepted}
use Rattle.tasks.specs.Runs.{runs}
use Rattle.lamp.specs.declared.Lamp.{Lamp}
use Rattle.lamp.specs.declared.Call.{Call}
use Rattle.lamp.specs.InRange.{InRangeLamp}
use Rattle.commands.specs.Answers.{answer}
use Rattle.schedule.specs.Calls.{after}
use Rattle.schedule.specs.Claim.{Everywhere}
use Rattle.rows.specs.declared.Row.{Row}
use Rattle.rows.specs.Rows.{lamp_at, placed, mask_true, all_valid, row_cause, row_stepped, row_bytes, answered_at}
use Rattle.rows.specs.Rows.{least_wait}
use Rattle.rows.specs.RowTable.{AnswersAs}
use Rattle.row_schedule.specs.RowCalls.{RowCall, each, at, after_row, given, InRangeRowCalls}

-- a valid row, of 32 places; its mask is part of that (document 02, A.3)
pub record RowValid (r : Row) : Type 0 where
  pub places : length r.lamps ≡ 32
  pub count : r.count ≤ 32
  pub mask : mask_true r ≡ true
  pub lamps : all_valid (placed r) ≡ true

-- the lamp at place k after the calls `ys`: the one that the calls given to it leave
abbrev pub own : ℕ → Row → List RowCall → Lamp
own k r ys = after (lamp_at r k) (given k r ys)

-- those of so many places, from place j on
abbrev pub owns : ℕ → ℕ → Row → List RowCall → List Lamp
owns zero j r ys = []
owns (suc n) j r ys = own j r ys ∷ owns n (suc j) r ys

-- what a step of a lamp reports, or sixteen zeros where it is idle
abbrev pub step_bytes : Lamp → ℕ → List ℕ
step_bytes l clock = cond (runs l.running) (answer l (Call.Step clock)).notices.places (replicate 16 0)

-- (1) what ties the row to the lamp
pub record Tied (k : ℕ) (r : Row) (calls : List RowCall) : Type 0 where
  -- after every part of the list
  pub lamp : (ys zs : List RowCall) → calls ≡ ys ++ zs → lamp_at (after_row r ys) k ≡ own k r ys
  -- a single call there is answered as that lamp answers it: number, notices, task and wait
  pub single : (ys : List RowCall) (x : Call) (zs : List RowCall) → calls ≡ ys ++ (at k x ∷ zs) →
      AnswersAs (answered_at (after_row r ys) k x) (answer (own k r ys) x)
  -- an accepted row call writes what that lamp's step reports
  pub bytes : (ys : List RowCall) (clock : ℕ) (out : List ℕ) (zs : List RowCall) →
      calls ≡ ys ++ (each (length out) clock ∷ zs) → row_cause (after_row r ys) (length out) clock ≡ accepted →
      take 16 (drop (16 * k) (row_bytes (after_row r ys) out clock)) ≡ step_bytes (own k r ys) clock
  -- and its wait is the least that the steps of these lamps ask, or 0
  pub wait : (ys : List RowCall) (size clock : ℕ) (zs : List RowCall) →
      calls ≡ ys ++ (each size clock ∷ zs) → row_cause (after_row r ys) size clock ≡ accepted →
      (row_stepped (after_row r ys) size clock).wait ≡ least_wait clock (owns r.count 0 r ys)

pub record RowKept (k : ℕ) (r : Row) (calls : List RowCall) : Type 0 where
  pub tied : Tied k r calls
  -- (2) demand 3's claim, of that lamp and the calls that it is given
  pub everywhere : Everywhere (lamp_at r k) (given k r calls)

abbrev pub RowClaim : Type 0
RowClaim =
    (r : Row) (calls : List RowCall) → RowValid r → InRangeRowCalls calls → (k : ℕ) → k < r.count →
    InRangeLamp (lamp_at r k) → RowKept k r calls
