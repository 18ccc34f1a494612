-- What is promised of the running mask: document 02, A.3.
use Rattle.std.specs.Prelude.{Some, None, ℕ, ◌^◌, ◌<◌, ◌≤◌, ◌≡◌, true, false, cond, ◌&&◌, ltb, List, length}
use Rattle.std.specs.Int.{bit_at}
use Rattle.matter.specs.declared.commands.Request.{Request}
use Rattle.matter.specs.declared.enums.OnOff.{OnOff}
use Rattle.tasks.specs.declared.Task.{Task}
use Rattle.tasks.specs.Runs.{runs}
use Rattle.lamp.specs.declared.Call.{Call}
use Rattle.lamp.specs.declared.Lamp.{Lamp}
use Rattle.commands.specs.Answers.{answer}
use Rattle.rows.specs.declared.Row.{Row}
use Rattle.rows.specs.Rows.{mask_true, row_of, lamp_at, row_stepped, answered_at, put_at, lowest_of}

-- of a row whose mask is true
pub record MaskKept (r : Row) : Type 0 where
  -- "Every row call and every single call keeps the word true", refused ones too
  pub row_call : (size clock : ℕ) → mask_true (row_stepped r size clock).row ≡ true
  pub single : (place : ℕ) (x : Call) → mask_true (answered_at r place x).row ≡ true
  -- a call changes the bit of its own place at most: it is then whether the lamp runs after its answer
  pub own : (k : ℕ) (x : Call) → k < r.count →
      bit_at (answered_at r k x).row.running_mask k ≡ cond (runs (answer (lamp_at r k) x).lamp.running) 1 0
  pub others : (place k : ℕ) (x : Call) → (k ≡ place → ⊥) →
      bit_at (answered_at r place x).row.running_mask k ≡ bit_at r.running_mask k
  -- a command never changes the mask
  pub command : (place : ℕ) (request : Request) (on_off : OnOff) (clock : ℕ) →
      (answered_at r place (Call.Command request on_off clock)).row.running_mask ≡ r.running_mask
  -- a start that is done at once clears the bit, whatever ran before
  pub at_once : (k : ℕ) (task : Task) (clock : ℕ) → k < r.count →
      runs (answer (lamp_at r k) (Call.Start task clock)).lamp.running ≡ false →
      bit_at (answered_at r k (Call.Start task clock)).row.running_mask k ≡ 0
  -- "Making and putting keep it true"
  pub put : (place : ℕ) (l : Lamp) → mask_true (put_at r place l) ≡ true

-- of every row
pub record MaskOfRows : Type 0 where
  -- "Making and putting keep it true", whatever the count
  pub made : (count : ℕ) (ls : List Lamp) → mask_true (row_of count ls) ≡ true
  -- a mask is true where each of its bits is: no other is refused for it
  pub agrees : (r : Row) → r.count ≤ 32 → length r.lamps ≡ 32 →
      ((k : ℕ) → bit_at r.running_mask k ≡ cond (ltb k r.count && runs (lamp_at r k).running) 1 0) → mask_true r ≡ true
  -- a lamp put into a row, its mask true or not: that place's bit is whether the lamp runs, the others stay
  pub put_own : (r : Row) (k : ℕ) (l : Lamp) → k < r.count → k < 32 →
      bit_at (put_at r k l).running_mask k ≡ cond (runs l.running) 1 0
  pub put_others : (r : Row) (place k : ℕ) (l : Lamp) → k < 32 → (k ≡ place → ⊥) →
      bit_at (put_at r place l).running_mask k ≡ bit_at r.running_mask k
  -- the lowest place of any mask alone: its bit is set, and none below it
  pub none : lowest_of 0 ≡ None
  pub lowest : (mask k : ℕ) → mask < 2 ^ 32 → bit_at mask k ≡ 1 → ((j : ℕ) → j < k → bit_at mask j ≡ 0) →
      lowest_of mask ≡ Some k
