-- Over every list of row calls and single calls, a lamp of the row is the one that its own calls leave.
use Rattle.std.specs.Prelude.{is_ok}
use Prim.Native.Nat.{ℕ, zero, suc, ◌≤◌, ◌<◌}
use mathlib.Core.Bool.{true, false, true≢false}
use mathlib.Core.List.{List, [], ◌∷◌, ◌++◌, append_assoc}
use mathlib.Core.Path.{◌≡◌, refl, ap, sym, ◌∙◌, subst}
use native.Mathlib.Omega.{arith}
use lib.Dec.{eqb}
use lib.ListN.{length, take, get_or, set, length-set}
use borrow.Author.Tests.{eqb-true, eqb-false}
use Rattle.lamp.specs.declared.Lamp.{Lamp}
use Rattle.lamp.specs.declared.Call.{Call}
use Rattle.matter.proofs.Laws.{and_left, and_right, accepted-of}
use Rattle.lamp.specs.Valid.{lamp_valid}
use Rattle.commands.specs.Answers.{answer}
use Rattle.commands.proofs.Kept.{valid-kept}
use Rattle.schedule.specs.Calls.{after}
use Rattle.schedule.proofs.Lists.{after-append}
use Rattle.rows.specs.declared.Row.{Row}
use Rattle.rows.specs.Rows.{map_to, visited, no_lamp, lamp_at, all_valid, mask_true, row_cause, row_stepped, place_cause, answered_at, with_lamps}
use Rattle.rows.proofs.Causes.{place-there}
use Rattle.rows.proofs.Visiting.{length-map_to}
use Rattle.rows.proofs.Laws.{InRow, InTrueRow, either, accepted-mask, visited-step, row-lamp, row-past, single-lamp, single-others, single-count, with-true}
use Rattle.row_schedule.specs.RowClaim.{RowValid}
use Rattle.row_schedule.specs.RowCalls.{RowCall, each, at, next_row, after_row, given_by, given}

-- the two sides of each call
each-yes : (r : Row) (size clock : ℕ) → is_ok (row_cause r size clock) ≡ true →
    next_row r (each size clock) ≡ with_lamps r (map_to r.count (λ l. (visited l clock).lamp) r.lamps)
unfolding row_stepped
each-yes r size clock e = simp (next_row, e)

each-no : (r : Row) (size clock : ℕ) → is_ok (row_cause r size clock) ≡ false → next_row r (each size clock) ≡ r
unfolding row_stepped
each-no r size clock e = simp (next_row, e)

at-yes : (r : Row) (place : ℕ) (x : Call) → is_ok (place_cause r place) ≡ true →
    next_row r (at place x) ≡ with_lamps r (set r.lamps place (answer (lamp_at r place) x).lamp)
unfolding answered_at
at-yes r place x e = simp (next_row, e)

at-no : (r : Row) (place : ℕ) (x : Call) → is_ok (place_cause r place) ≡ false → next_row r (at place x) ≡ r
unfolding answered_at
at-no r place x e = simp (next_row, e)

-- one call: the lamp at k after it
one_each : (k : ℕ) (r : Row) (size clock : ℕ) → InRow k r →
    lamp_at (next_row r (each size clock)) k ≡ after (lamp_at r k) (given_by k r (each size clock))
unfolding after
one_each k r size clock h =
    either (is_ok (row_cause r size clock))
    (λ e. rw e (row-lamp r size clock k h (accepted-of _ e)))
    (λ e. ap (λ (q : Row). lamp_at q k) (each-no r size clock e) ∙ rw e)

one_at : (k : ℕ) (r : Row) (place : ℕ) (x : Call) → InTrueRow k r → lamp_at (next_row r (at place x)) k ≡ after (lamp_at r k) (given_by k r (at place x))
unfolding after
one_at k r place x h =
    either (eqb place k)
    (λ f. rw f (ap (λ (p : ℕ). lamp_at (answered_at r p x).row k) (eqb-true place k f) ∙ single-lamp r k x h))
    (λ f. rw f (single-others r place k x (λ q. eqb-false place k f (sym q))))

one : (k : ℕ) (r : Row) (x : RowCall) → InTrueRow k r → lamp_at (next_row r x) k ≡ after (lamp_at r k) (given_by k r x)
one k r (each size clock) h = one_each k r size clock h.in_row
one k r (at place x) h = one_at k r place x h

kept : (k : ℕ) (r : Row) (x : RowCall) → InRow k r → InRow k (next_row r x)
kept k r (each size clock) h =
    either (is_ok (row_cause r size clock))
    (λ e. subst (InRow k) (sym (each-yes r size clock e)) (record { there = h.there; room = record { few = h.room.few; places = simp length-map_to h.room.places } }))
    (λ e. subst (InRow k) (sym (each-no r size clock e)) h)
kept k r (at place x) h =
    either (is_ok (place_cause r place))
    (λ e. subst (InRow k) (sym (at-yes r place x e)) (record { there = h.there; room = record { few = h.room.few; places = simp length-set h.room.places } }))
    (λ e. subst (InRow k) (sym (at-no r place x e)) h)

-- a true mask stays true
abbrev True : Row → Type 0
True r = mask_true r ≡ true

mask_kept : (r : Row) (x : RowCall) → mask_true r ≡ true → mask_true (next_row r x) ≡ true
mask_kept r (each size clock) m =
    either (is_ok (row_cause r size clock))
    (λ e. subst True (sym (each-yes r size clock e)) (with-true r _))
    (λ e. subst True (sym (each-no r size clock e)) m)
mask_kept r (at place x) m =
    either (is_ok (place_cause r place))
    (λ e. subst True (sym (at-yes r place x e)) (with-true r _))
    (λ e. subst True (sym (at-no r place x e)) m)

true_kept : (k : ℕ) (r : Row) (x : RowCall) → InTrueRow k r → InTrueRow k (next_row r x)
true_kept k r x h = record { in_row = kept k r x h.in_row; mask = mask_kept r x h.mask }

-- no call changes the count
count-one : (r : Row) (x : RowCall) → (next_row r x).count ≡ r.count
count-one r (each size clock) =
    either (is_ok (row_cause r size clock)) (λ e. ap (λ (q : Row). q.count) (each-yes r size clock e)) (λ e. ap (λ (q : Row). q.count) (each-no r size clock e))
count-one r (at place x) = single-count r place x

pub count-after : (r : Row) (xs : List RowCall) → (after_row r xs).count ≡ r.count
unfolding after_row
count-after r [] = refl
count-after r (x ∷ xs) = count-after (next_row r x) xs ∙ count-one r x

pub kept-after : (k : ℕ) (r : Row) (xs : List RowCall) → InRow k r → InRow k (after_row r xs)
unfolding after_row
kept-after k r [] h = h
kept-after k r (x ∷ xs) h = kept-after k (next_row r x) xs (kept k r x h)

pub true-kept-after : (k : ℕ) (r : Row) (xs : List RowCall) → InTrueRow k r → InTrueRow k (after_row r xs)
unfolding after_row
true-kept-after k r [] h = h
true-kept-after k r (x ∷ xs) h = true-kept-after k (next_row r x) xs (true_kept k r x h)

pub its-calls : (k : ℕ) (r : Row) (xs : List RowCall) → InTrueRow k r → lamp_at (after_row r xs) k ≡ after (lamp_at r k) (given k r xs)
unfolding after_row given after
its-calls k r [] h = refl
its-calls k r (x ∷ xs) h =
    its-calls k (next_row r x) xs (true_kept k r x h)
    ∙ ap (λ l. after l (given k (next_row r x) xs)) (one k r x h)
    ∙ sym (after-append (lamp_at r k) (given_by k r x) (given k (next_row r x) xs))

-- ---- a valid row stays valid

all-visited : (clock n : ℕ) (xs : List Lamp) → all_valid (take n xs) ≡ true →
    all_valid (take n (map_to n (λ l. (visited l clock).lamp) xs)) ≡ true
all-visited clock zero xs e = refl
all-visited clock (suc n) [] e = refl
all-visited clock (suc n) (x ∷ xs) e =
    let first : lamp_valid (visited x clock).lamp ≡ true =
    ap lamp_valid (visited-step x clock).0 ∙ valid-kept x (Call.Step clock) (and_left (lamp_valid x) _ e)
    in
    rw (first, all-visited clock n xs (and_right (lamp_valid x) _ e))

all_set : (n k : ℕ) (xs : List Lamp) (l : Lamp) → lamp_valid l ≡ true → all_valid (take n xs) ≡ true → all_valid (take n (set xs k l)) ≡ true
all_set zero k xs l v e = refl
all_set (suc n) k [] l v e = refl
all_set (suc n) zero (x ∷ xs) l v e = rw (v, and_right (lamp_valid x) _ e)
all_set (suc n) (suc k) (x ∷ xs) l v e = rw (and_left (lamp_valid x) _ e, all_set n k xs l v (and_right (lamp_valid x) _ e))

-- each lamp of a valid row is valid
pub each-valid : (n k : ℕ) (ls : List Lamp) → all_valid (take n ls) ≡ true → k < n → k < length ls → lamp_valid (get_or ls k no_lamp) ≡ true
each-valid zero k ls v h m = absurd (omega arith)
each-valid (suc n) k [] v h m = absurd (omega arith)
each-valid (suc n) zero (l ∷ ls) v h m = and_left (lamp_valid l) _ v
each-valid (suc n) (suc k) (l ∷ ls) v h m = each-valid n k ls (and_right (lamp_valid l) _ v) (omega arith) (omega arith)

pub row-valid-kept : (r : Row) (x : RowCall) → RowValid r → RowValid (next_row r x)
row-valid-kept r (each size clock) v =
    either (is_ok (row_cause r size clock))
    (λ e. subst RowValid (sym (each-yes r size clock e)) (record { places = simp length-map_to v.places; count = v.count; mask = with-true r _; lamps = all-visited clock r.count r.lamps v.lamps }))
    (λ e. subst RowValid (sym (each-no r size clock e)) v)
row-valid-kept r (at place x) v =
    either (is_ok (place_cause r place))
    (λ e. let there = place-there r place (accepted-of _ e) in
    let old = each-valid r.count place r.lamps v.lamps there.1 (omega (arith, there, v.places)) in
    subst RowValid (sym (at-yes r place x e)) (record { places = simp length-set v.places; count = v.count; mask = with-true r _; lamps = all_set r.count place r.lamps _ (valid-kept (lamp_at r place) x old) v.lamps }))
    (λ e. subst RowValid (sym (at-no r place x e)) v)

pub row-valid-after : (r : Row) (xs : List RowCall) → RowValid r → RowValid (after_row r xs)
unfolding after_row
row-valid-after r [] v = v
row-valid-after r (x ∷ xs) v = row-valid-after (next_row r x) xs (row-valid-kept r x v)

-- ---- a list behind another

pub after-row-append : (r : Row) (xs ys : List RowCall) → after_row r (xs ++ ys) ≡ after_row (after_row r xs) ys
unfolding after_row
after-row-append r [] ys = refl
after-row-append r (x ∷ xs) ys = after-row-append (next_row r x) xs ys

pub given-append : (k : ℕ) (r : Row) (xs ys : List RowCall) → given k r (xs ++ ys) ≡ given k r xs ++ given k (after_row r xs) ys
unfolding given after_row
given-append k r [] ys = refl
given-append k r (x ∷ xs) ys =
    rw (given-append k (next_row r x) xs ys) (sym (append_assoc (given_by k r x) (given k (next_row r x) xs) (given k (after_row (next_row r x) xs) ys)))

-- ---- lamps in equal state that are given equal calls stay equal: ten that are started alike, and then row calls

-- a row whose mask is not true is refused each call, and stays
stuck_one : (r : Row) (x : RowCall) → mask_true r ≡ false → next_row r x ≡ r
stuck_one r (each size clock) m =
    either (is_ok (row_cause r size clock))
    (λ e. absurd (true≢false (sym (accepted-mask r size clock (accepted-of _ e)) ∙ m)))
    (λ e. each-no r size clock e)
stuck_one r (at place x) m =
    either (is_ok (place_cause r place))
    (λ e. absurd (true≢false (sym (place-there r place (accepted-of _ e)).2 ∙ m)))
    (λ e. at-no r place x e)

stuck : (r : Row) (xs : List RowCall) → mask_true r ≡ false → after_row r xs ≡ r
unfolding after_row
stuck r [] m = refl
stuck r (x ∷ xs) m = ap (λ (q : Row). after_row q xs) (stuck_one r x m) ∙ stuck r xs m

pub stay-equal : (r : Row) (j k : ℕ) (xs : List RowCall) → InRow j r → InRow k r → lamp_at r j ≡ lamp_at r k →
    given j r xs ≡ given k r xs → lamp_at (after_row r xs) j ≡ lamp_at (after_row r xs) k
stay-equal r j k xs a b same e =
    either (mask_true r)
    (λ m. its-calls j r xs (record { in_row = a; mask = m }) ∙ rw (same, e) (sym (its-calls k r xs (record { in_row = b; mask = m }))))
    (λ m. rw (stuck r xs m) same)

-- a row call, accepted or not, gives two places the same
pub row-call-given : (r : Row) (j k size clock : ℕ) → given_by j r (each size clock) ≡ given_by k r (each size clock)
row-call-given r j k size clock = refl

-- ---- a lamp past the last place is no part of the row

past_one : (k : ℕ) (r : Row) (x : RowCall) → r.count ≤ k → lamp_at (next_row r x) k ≡ lamp_at r k
past_one k r (each size clock) h = row-past r size clock k h
past_one k r (at place x) h =
    either (is_ok (place_cause r place))
    (λ e. let there = place-there r place (accepted-of _ e) in single-others r place k x (λ q. omega (arith, there.1, q, h)))
    (λ e. ap (λ (q : Row). lamp_at q k) (at-no r place x e))

pub past-stays : (k : ℕ) (r : Row) (xs : List RowCall) → r.count ≤ k → lamp_at (after_row r xs) k ≡ lamp_at r k
unfolding after_row
past-stays k r [] h = refl
past-stays k r (x ∷ xs) h = past-stays k (next_row r x) xs (omega (arith, count-one r x, h)) ∙ past_one k r x h
