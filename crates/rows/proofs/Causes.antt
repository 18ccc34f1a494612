-- Why a row call is refused, as the code goes through it; and what an accepted one has shown.
use Rattle.std.specs.Prelude.{is_ok}
use Prim.Native.Nat.{ℕ, ◌*◌, ◌≤◌, ◌<◌, max}
use mathlib.Core.Path.{◌≡◌, refl, sym, ap, ◌∙◌}
use mathlib.Core.Bool.{Bool, true, false, cond, not, ◌&&◌, ◌||◌}
use mathlib.Core.List.{List, [], ◌∷◌}
use native.Mathlib.Omega.{arith}
use borrow.Author.Tests.{ltb-true, ltb-false, leb-false}
use lib.Dec.{ltb, leb}
use Rattle.matter.specs.Causes.{Verdict, accepted, number_of, clock_refused, invalid_lamp}
use Rattle.matter.specs.Limits.{clock_limit}
use Rattle.matter.proofs.Laws.{refused-of, number-0, same_number}
use Rattle.lamp.specs.declared.Lamp.{Lamp}
use Rattle.lamp.specs.Valid.{lamp_valid}
use Rattle.lamp.specs.Answers.{first_cause}
use Rattle.rows.specs.declared.Row.{Row}
use Rattle.rows.specs.Rows.{placed, mask_true, all_valid, any_later, row_cause, place_cause}
use Rattle.rows.specs.Inner.{visits_cause, graver, limit_cause, slice_cause}

-- ---- the graver of two verdicts

-- its number is the greater
pub graver-number : (v w : Verdict) → number_of (graver v w) ≡ max (number_of v) (number_of w)
unfolding graver
graver-number v w = go (ltb (number_of v) (number_of w)) refl
  where
    go : (b : Bool) → ltb (number_of v) (number_of w) ≡ b → number_of (cond b w v) ≡ max (number_of v) (number_of w)
    go true e = omega (arith, ltb-true (number_of v) (number_of w) e)
    go false e = omega (arith, ltb-false (number_of v) (number_of w) e)

pub graver-assoc : (u v w : Verdict) → graver (graver u v) w ≡ graver u (graver v w)
graver-assoc u v w =
    same_number _ _ (omega (arith, graver-number (graver u v) w, graver-number u v, graver-number u (graver v w), graver-number v w))

swap : (u v w : Verdict) → graver u (graver v w) ≡ graver v (graver u w)
swap u v w =
    same_number _ _ (omega (arith, graver-number u (graver v w), graver-number v w, graver-number v (graver u w), graver-number u w))

pub graver_none : (v : Verdict) → graver v accepted ≡ v
graver_none v = same_number _ _ (omega (arith, graver-number v accepted))

pub none_graver : (v : Verdict) → graver accepted v ≡ v
none_graver v = same_number _ _ (omega (arith, graver-number accepted v))

-- it is none where both are none
pub both-none : (v w : Verdict) → graver v w ≡ accepted → (v ≡ accepted) × (w ≡ accepted)
both-none v w e =
    let none : number_of (graver v w) ≡ 0 = ap number_of e in
    (number-0 v (omega (arith, graver-number v w, none)), number-0 w (omega (arith, graver-number v w, none)))

-- ---- the lamps' own causes

-- the worst of a lamp's causes and of the others'
worst : (v a av al b : Bool) →
    graver (cond (not v) invalid_lamp (cond (a || b) clock_refused accepted)) (cond (not av) invalid_lamp (cond (al || b) clock_refused accepted))
    ≡ cond (not (v && av)) invalid_lamp (cond ((a || al) || b) clock_refused accepted)
unfolding graver
worst false a false al b = refl
worst false a true true b = refl
worst false a true false true = refl
worst false a true false false = refl
worst true true false al b = refl
worst true false false al true = refl
worst true false false al false = refl
worst true true true true b = refl
worst true true true false true = refl
worst true true true false false = refl
worst true false true true true = refl
worst true false true true false = refl
worst true false true false true = refl
worst true false true false false = refl

-- the worst of the lamps' own causes and the limit's is the row's
all-lamps : (clock : ℕ) (ls : List Lamp) →
    graver (limit_cause clock) (visits_cause clock ls)
    ≡ cond (not (all_valid ls)) invalid_lamp (cond (any_later ls clock || ltb clock_limit clock) clock_refused accepted)
unfolding first_cause
all-lamps clock [] = graver_none (limit_cause clock)
all-lamps clock (l ∷ ls) =
    swap (limit_cause clock) (first_cause l clock) (visits_cause clock ls) ∙ ap (graver (first_cause l clock)) (all-lamps clock ls)
    ∙ worst (lamp_valid l) (ltb clock l.clock) (all_valid ls) (any_later ls clock) (ltb clock_limit clock)

by_parts : (a b m v : Bool) (short x y : Verdict) → is_ok short ≡ false → x ≡ cond (not v) invalid_lamp y →
    cond a invalid_lamp (cond b short (cond (not (m && v)) invalid_lamp y))
    ≡ cond (is_ok (cond a invalid_lamp (cond b short (cond (not m) invalid_lamp accepted)))) x (cond a invalid_lamp (cond b short (cond (not m) invalid_lamp accepted)))
by_parts true b m v short x y s e = refl
by_parts false true m v short x y s e = rw s
by_parts false false true v short x y s e = sym e
by_parts false false false v short x y s e = refl

-- before the lamps, then over them
pub row-cause : (r : Row) (size clock : ℕ) →
    row_cause r size clock ≡ cond (is_ok (slice_cause r size)) (graver (limit_cause clock) (visits_cause clock (placed r))) (slice_cause r size)
unfolding row_cause slice_cause
row-cause r size clock =
    by_parts (ltb 32 r.count) (ltb size (16 * r.count)) (mask_true r) (all_valid (placed r)) _ _ _ refl (all-lamps clock (placed r))

pub slice_first : (r : Row) (size clock : ℕ) → is_ok (slice_cause r size) ≡ false → row_cause r size clock ≡ slice_cause r size
slice_first r size clock e = row-cause r size clock ∙ rw e

pub lamps-next : (r : Row) (size clock : ℕ) → slice_cause r size ≡ accepted →
    row_cause r size clock ≡ graver (limit_cause clock) (visits_cause clock (placed r))
lamps-next r size clock e = row-cause r size clock ∙ rw e

no_first : (a b m : Bool) (other : Verdict) → cond a invalid_lamp (cond b other (cond (not m) invalid_lamp accepted)) ≡ accepted →
    is_ok other ≡ false → (a ≡ false) × (b ≡ false) × (m ≡ true)
no_first true b m other e n = absurd (refused-of _ refl e)
no_first false true m other e n = absurd (refused-of other n e)
no_first false false false other e n = absurd (refused-of _ refl e)
no_first false false true other e n = (refl, refl, refl)

pub slice_fits : (r : Row) (size : ℕ) → slice_cause r size ≡ accepted → (r.count ≤ 32) × (16 * r.count ≤ size) × (mask_true r ≡ true)
unfolding slice_cause
slice_fits r size e =
    let f = no_first (ltb 32 r.count) (ltb size (16 * r.count)) (mask_true r) _ e refl in
    (ltb-false 32 r.count f.0, ltb-false size (16 * r.count) f.1, f.2)

pub place-there : (r : Row) (place : ℕ) → place_cause r place ≡ accepted → (r.count ≤ 32) × (place < r.count) × (mask_true r ≡ true)
unfolding place_cause
place-there r place e =
    let f = no_first (ltb 32 r.count) (leb r.count place) (mask_true r) _ e refl in
    (ltb-false 32 r.count f.0, leb-false r.count place f.1, f.2)
