-- The table of causes for rows: document 02, A.1 and A.3. Each number in its cause and in no other.
use Rattle.std.specs.Prelude.{ℕ, ◌*◌, ◌≤◌, ◌<◌, true, false, ◌||◌, ◌≡◌, ltb}
use Rattle.matter.specs.Causes.{number_of}
use Rattle.matter.specs.Limits.{clock_limit}
use Rattle.lamp.specs.declared.Answer.{Answer}
use Rattle.lamp.specs.declared.Call.{Call}
use Rattle.commands.specs.Answers.{answer}
use Rattle.rows.specs.declared.Row.{Row}
use Rattle.rows.specs.declared.RowAnswer.{RowAnswer}
use Rattle.rows.specs.Rows.{placed, mask_true, lamp_at, all_valid, any_later, row_stepped, answered_at}

-- row calls 8 (count), 9, 8 (mask, lamps), 4
pub record RowCauses (r : Row) (size clock : ℕ) : Type 0 where
  pub count-8 : 32 < r.count → number_of (row_stepped r size clock).verdict ≡ 8
  pub slice-9 : r.count ≤ 32 → size < 16 * r.count → number_of (row_stepped r size clock).verdict ≡ 9
  pub mask-8 : r.count ≤ 32 → 16 * r.count ≤ size → mask_true r ≡ false →
      number_of (row_stepped r size clock).verdict ≡ 8
  pub lamp-8 : r.count ≤ 32 → 16 * r.count ≤ size → all_valid (placed r) ≡ false →
      number_of (row_stepped r size clock).verdict ≡ 8
  pub clock-4 : r.count ≤ 32 → 16 * r.count ≤ size → mask_true r ≡ true → all_valid (placed r) ≡ true →
      (any_later (placed r) clock || ltb clock_limit clock) ≡ true → number_of (row_stepped r size clock).verdict ≡ 4
  pub accepted-0 : r.count ≤ 32 → 16 * r.count ≤ size → mask_true r ≡ true → all_valid (placed r) ≡ true →
      (any_later (placed r) clock || ltb clock_limit clock) ≡ false → number_of (row_stepped r size clock).verdict ≡ 0

-- the answer to a call at a place is a lamp's answer: all of it but the lamp, which is in the row
pub record AnswersAs (a : RowAnswer) (b : Answer) : Type 0 where
  pub verdict : a.verdict ≡ b.verdict
  pub notices : a.notices ≡ b.notices
  pub task : a.task ≡ b.task
  pub wait : a.wait ≡ b.wait

-- calls at a place 8 (count), 10, 8 (mask), then the lamp's own
pub record PlaceCauses (r : Row) (place : ℕ) (x : Call) : Type 0 where
  pub count-8 : 32 < r.count → number_of (answered_at r place x).verdict ≡ 8
  pub place-10 : r.count ≤ 32 → r.count ≤ place → number_of (answered_at r place x).verdict ≡ 10
  pub mask-8 : r.count ≤ 32 → place < r.count → mask_true r ≡ false → number_of (answered_at r place x).verdict ≡ 8
  pub own : r.count ≤ 32 → place < r.count → mask_true r ≡ true →
      AnswersAs (answered_at r place x) (answer (lamp_at r place) x)

pub record TableOfRows : Type 0 where
  pub rows : (r : Row) (size clock : ℕ) → RowCauses r size clock
  pub places : (r : Row) (place : ℕ) (x : Call) → PlaceCauses r place x
  -- document 02, A.12: "in rows and panels too"
  pub no-3 : (r : Row) (size clock : ℕ) → number_of (row_stepped r size clock).verdict ≡ 3 → ⊥
  pub place-no-3 : (r : Row) (place : ℕ) (x : Call) → number_of (answered_at r place x).verdict ≡ 3 → ⊥
