-- What the parts of a row's answer come to.
use Prim.Native.Nat.{ℕ, ◌≤◌}
use mathlib.Core.Path.{◌≡◌, refl}
use mathlib.Core.Bool.{Bool, true, false, ◌||◌}
use mathlib.Core.List.{List, ◌++◌}
use borrow.Author.Tests.{le-leb}
use lib.Dec.{leb}
use lib.ListN.{length}
use Rattle.std.specs.Prelude.{Ok}
use Rattle.lamp.specs.Making.{making}
use Rattle.rows.specs.declared.Row.{Row}
use Rattle.rows.specs.declared.RowStepped.{RowStepped}
use Rattle.rows.specs.Rows.{row_stepped, row_bytes}
use Rattle.lamp_lines.specs.Answers.{status_text}
use Rattle.row_lines.specs.RowAnswers.{lent_bytes, then_row, lent_text, says, fresh_place, step_with, lamp_missing}
use Rattle.row_lines.proofs.Lent.{lent_length}

-- a row call, by the slice as it was lent_bytes, and as it was left
pub step-turn : (r : Row) (fill clock : ℕ) (given lent left : List ℕ) (stepped : RowStepped)
    → lent ≡ lent_bytes fill (length given) → stepped ≡ row_stepped r (length lent) clock → left ≡ row_bytes r lent clock
    → step_with r (length given) fill clock
    ≡ says stepped.row (status_text stepped.verdict ++ then_row stepped.row ++ lent_text stepped.wait left fill)
unfolding step_with
step-turn r fill clock given lent left stepped e f g = rw (g, f, e, lent_length fill (length given))

-- the lamps of a fresh row are those that `new 153 500 31 0 0` makes
pub fresh-made : making (record { min = 153; max = 500 }) 31 0 0 ≡ Ok fresh_place
unfolding making
fresh-made = refl

or-true : (a : Bool) → (a || true) ≡ true
or-true true = refl
or-true false = refl

-- no row has a lamp past place 31
pub missing-past : (count place : ℕ) → 32 ≤ place → lamp_missing count place ≡ true
missing-past count place h = rw (le-leb 32 place h) (or-true (leb count place))
