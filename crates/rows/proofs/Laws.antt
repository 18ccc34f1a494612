-- What a row call and a call at a place come to, seen from one lamp.
use Rattle.std.specs.Prelude.{None, is_ok, Ok, Err}
use Prim.Native.Nat.{ℕ, zero, suc, ◌+◌, ◌*◌, ◌≤◌, ◌<◌, min}
use mathlib.Core.Bool.{Bool, true, false, cond, not, ◌||◌}
use mathlib.Core.List.{List, [], ◌∷◌}
use mathlib.Core.Path.{◌≡◌, refl, ap, sym, ◌∙◌}
use native.Mathlib.Nat.{add-zero}
use native.Mathlib.Omega.{arith}
use lib.Dec.{leb, ltb}
use lib.ListN.{length, get_or, set}
use lib.Seq.{get_or-take, get_or-set_same, get_or-set_other, set-get_or, length-take-le}
use borrow.Author.Tests.{eq-eqb, le-ltb, le-leb, lt-leb, leb-false, ltb-false, eqb-true}
use Rattle.matter.specs.Limits.{clock_limit}
use Rattle.notices.specs.Notices.{noted}
use Rattle.tasks.specs.Runs.{runs}
use Rattle.lamp.specs.declared.Lamp.{Lamp}
use Rattle.lamp.specs.declared.Answer.{Answer}
use Rattle.lamp.specs.declared.Call.{Call}
use Rattle.lamp.specs.Answers.{at_clock, bad_clock, first_cause, unchanged}
use Rattle.lamp.specs.Valid.{lamp_valid}
use Rattle.lamp.specs.Calls.{choose, done, stepped, step_cause, step_answer}
use Rattle.commands.specs.Answers.{cause, answer}
use Rattle.commands.proofs.Kept.{refused-same, number-is-cause}
use Rattle.rows.specs.declared.Row.{Row}
use Rattle.rows.specs.RowTable.{AnswersAs}
use Rattle.rows.specs.Rows.{map_to, visited, no_lamp, lamp_at, placed, mask_true, row_cause, row_stepped, row_bytes, place_cause, answered_at, row_of, put_at, with_lamps}
use Rattle.rows.specs.Inner.{visits_cause, graver, limit_cause, slice_cause}
use Rattle.rows.proofs.Visiting.{step-map_to, length-map_to, step-number}
use Rattle.matter.specs.Causes.{Verdict, number_of, accepted, clock_refused, invalid_lamp, step_while_idle}
use Rattle.matter.proofs.Laws.{accepted-of, refused-of, not-ok}
use Rattle.rows.proofs.Causes.{both-none, none_graver, lamps-next, row-cause, slice_fits, place-there}

-- a row's own count and array, and a place of it
pub record Room (r : Row) : Type 0 where
  pub few : r.count ≤ 32
  pub places : length r.lamps ≡ 32

pub record InRow (k : ℕ) (r : Row) : Type 0 where
  pub there : k < r.count
  pub room : Room r

-- a place of a row whose mask is true, too: a single call to any other row is refused
pub record InTrueRow (k : ℕ) (r : Row) : Type 0 where
  pub in_row : InRow k r
  pub mask : mask_true r ≡ true

in_array : (k : ℕ) (r : Row) → InRow k r → k < length r.lamps
in_array k r h = omega (arith, h.there, h.room.few, h.room.places)

pub either : {A : Type 0} (b : Bool) → (b ≡ true → A) → (b ≡ false → A) → A
either true f g = f refl
either false f g = g refl

-- ---- a place

-- a place of the row after the call is that place's own lamp, visited
pub its_own : {A : Type 0} (f : A → A) (n k : ℕ) (xs : List A) (d : A) → k < n → k < length xs → get_or (map_to n f xs) k d ≡ f (get_or xs k d)
its_own f zero k xs d h m = absurd (omega arith)
its_own f (suc n) k [] d h m = absurd (omega arith)
its_own f (suc n) zero (x ∷ xs) d h m = refl
its_own f (suc n) (suc k) (x ∷ xs) d h m = its_own f n k xs d (omega arith) (omega arith)

-- and a place past the last stays
pub past-stays : {A : Type 0} (f : A → A) (n k : ℕ) (xs : List A) (d : A) → n ≤ k → get_or (map_to n f xs) k d ≡ get_or xs k d
past-stays f zero k xs d h = refl
past-stays f (suc n) k [] d h = refl
past-stays f (suc n) zero (x ∷ xs) d h = absurd (omega arith)
past-stays f (suc n) (suc k) (x ∷ xs) d h = past-stays f n k xs d (omega arith)

-- a visit is what the lamp's own step gives: an idle lamp refuses it, stays, and has nothing to report and no wait
idle-refuses : (v bad : Bool) (l : Lamp) (a : Answer) →
    let n : Verdict = cond (not v) invalid_lamp (cond (not false) step_while_idle (cond bad clock_refused accepted)) in choose n l a ≡ unchanged l n
idle-refuses true bad l a = refl
idle-refuses false bad l a = refl

pub idle-answer : (l : Lamp) (clock : ℕ) → runs l.running ≡ false → step_answer l clock ≡ unchanged l (step_cause l clock)
unfolding step_answer
idle-answer l clock e = rw e (idle-refuses (lamp_valid l) (bad_clock l clock) l (done (stepped (at_clock l clock) l.running)))

pub visited-step : (l : Lamp) (clock : ℕ) →
    ((visited l clock).lamp ≡ (answer l (Call.Step clock)).lamp)
    × ((visited l clock).notices ≡ (answer l (Call.Step clock)).notices)
    × ((visited l clock).wait ≡ (answer l (Call.Step clock)).wait)
unfolding visited answer
visited-step l clock =
    either (runs l.running) (λ e. rw e (refl, refl, refl)) (λ e. rw (e, idle-answer l clock e) (refl, refl, refl))

-- ---- in an accepted row call each running lamp's own step has number 0

none-worst : (clock k : ℕ) (ls : List Lamp) → visits_cause clock ls ≡ accepted → k < length ls → first_cause (get_or ls k no_lamp) clock ≡ accepted
none-worst clock k [] e h = absurd (omega arith)
none-worst clock zero (l ∷ ls) e h = (both-none (first_cause l clock) (visits_cause clock ls) e).0
none-worst clock (suc k) (l ∷ ls) e h = none-worst clock k ls (both-none (first_cause l clock) (visits_cause clock ls) e).1 (omega arith)

-- an accepted row call's slice fits, and its count is that of a row
slice-none : (s x : Verdict) → cond (is_ok s) x s ≡ accepted → s ≡ accepted
slice-none (Ok u) x e = refl
slice-none (Err refusal) x e = e

pub accepted-slice : (r : Row) (size clock : ℕ) → row_cause r size clock ≡ accepted → slice_cause r size ≡ accepted
accepted-slice r size clock e = slice-none (slice_cause r size) _ (sym (row-cause r size clock) ∙ e)

pub accepted-few : (r : Row) (size clock : ℕ) → row_cause r size clock ≡ accepted → r.count ≤ 32
accepted-few r size clock e = (slice_fits r size (accepted-slice r size clock e)).0

pub accepted-lamps : (r : Row) (size clock : ℕ) → row_cause r size clock ≡ accepted → visits_cause clock (placed r) ≡ accepted
accepted-lamps r size clock e =
    (both-none (limit_cause clock) (visits_cause clock (placed r)) (sym (lamps-next r size clock (accepted-slice r size clock e)) ∙ e)).1

pub accepted-mask : (r : Row) (size clock : ℕ) → row_cause r size clock ≡ accepted → mask_true r ≡ true
accepted-mask r size clock e = (slice_fits r size (accepted-slice r size clock e)).2

-- its places are the row's
pub placed-many : (r : Row) → Room r → length (placed r) ≡ r.count
placed-many r h = length-take-le r.count r.lamps (omega (arith, h.few, h.places))

pub accepted-first : (r : Row) (size clock k : ℕ) → InRow k r → row_cause r size clock ≡ accepted → first_cause (lamp_at r k) clock ≡ accepted
accepted-first r size clock k h e =
    ap (λ l. first_cause l clock) (sym (get_or-take r.count r.lamps k no_lamp h.there))
    ∙ none-worst clock k (placed r) (accepted-lamps r size clock e) (omega (arith, placed-many r h.room, h.there))

-- what it shows of such a lamp: its clock is no later, and the call's within the limit
clock-good : (v late high : Bool) → cond (not v) invalid_lamp (cond (late || high) clock_refused accepted) ≡ accepted → (late ≡ false) × (high ≡ false)
clock-good true false false e = (refl, refl)
clock-good true true high e = absurd (refused-of clock_refused refl e)
clock-good true false true e = absurd (refused-of clock_refused refl e)
clock-good false late high e = absurd (refused-of invalid_lamp refl e)

pub first-none : (l : Lamp) (clock : ℕ) → first_cause l clock ≡ accepted → (l.clock ≤ clock) × (clock ≤ clock_limit)
unfolding first_cause
first-none l clock e =
    let f = clock-good (lamp_valid l) (ltb clock l.clock) (ltb clock_limit clock) e in
    (ltb-false clock l.clock f.0, ltb-false clock_limit clock f.1)

pub own-step : (r : Row) (size clock k : ℕ) → InRow k r → row_cause r size clock ≡ accepted → runs (lamp_at r k).running ≡ true →
    (answer (lamp_at r k) (Call.Step clock)).verdict ≡ accepted
unfolding answer
own-step r size clock k h e running = step-number (lamp_at r k) clock running ∙ accepted-first r size clock k h e

-- the lamp at a place after an accepted row call is what its own step leaves
pub row-lamp : (r : Row) (size clock k : ℕ) → InRow k r → row_cause r size clock ≡ accepted →
    lamp_at (row_stepped r size clock).row k ≡ (answer (lamp_at r k) (Call.Step clock)).lamp
unfolding row_stepped
row-lamp r size clock k h e =
    rw e (its_own (λ l. (visited l clock).lamp) r.count k r.lamps no_lamp h.there (in_array k r h) ∙ (visited-step (lamp_at r k) clock).0)

-- a lamp past the last place is no part of the row
pub row-past : (r : Row) (size clock k : ℕ) → r.count ≤ k → lamp_at (row_stepped r size clock).row k ≡ lamp_at r k
unfolding row_stepped
row-past r size clock k h =
    either (is_ok (row_cause r size clock))
    (λ e. rw e (past-stays (λ l. (visited l clock).lamp) r.count k r.lamps no_lamp h))
    (λ e. rw e)

pub row_count : (r : Row) (size clock : ℕ) → (row_stepped r size clock).row.count ≡ r.count
unfolding row_stepped
row_count r size clock = either (is_ok (row_cause r size clock)) (λ e. rw e) (λ e. rw e)

-- the number of a row call is its cause, and where there is one nothing changes, the slice included
pub row_number : (r : Row) (size clock : ℕ) → (row_stepped r size clock).verdict ≡ row_cause r size clock
unfolding row_stepped
row_number r size clock =
    either (is_ok (row_cause r size clock)) (λ e. rw e (sym (accepted-of _ e))) (λ e. rw e)

pub row-refused : (r : Row) (out : List ℕ) (clock : ℕ) → (row_cause r (length out) clock ≡ accepted → ⊥) →
    (row_stepped r (length out) clock ≡ record { verdict = row_cause r (length out) clock; row = r; wait = 0 }) × (row_bytes r out clock ≡ out)
unfolding row_stepped row_bytes
row-refused r out clock n = rw (not-ok (row_cause r (length out) clock) n) (refl, refl)

-- it is accepted where the slice fits, the clock is none above the limit, and no lamp of the row, idle ones included, has a cause
all_first : (clock : ℕ) (ls : List Lamp) → ((k : ℕ) → k < length ls → first_cause (get_or ls k no_lamp) clock ≡ accepted) → visits_cause clock ls ≡ accepted
all_first clock [] f = refl
all_first clock (l ∷ ls) f =
    ap (λ v. graver v (visits_cause clock ls)) (f 0 (omega arith)) ∙ none_graver (visits_cause clock ls)
    ∙ all_first clock ls (λ k h. f (suc k) (omega arith))

pub row-accepts : (r : Row) (size clock : ℕ) → Room r → mask_true r ≡ true → 16 * r.count ≤ size → clock ≤ clock_limit →
    ((k : ℕ) → k < r.count → first_cause (lamp_at r k) clock ≡ accepted) → (row_stepped r size clock).verdict ≡ accepted
unfolding slice_cause
row-accepts r size clock h mask fits low f =
    let slice : slice_cause r size ≡ accepted = rw (le-ltb 32 r.count h.few, le-ltb size (16 * r.count) fits, mask) in
    let limit : limit_cause clock ≡ accepted = rw (le-ltb clock_limit clock low) in
    let lamps = all_first clock (placed r) (λ k m.
    let there : k < r.count = omega (arith, placed-many r h, m) in
    ap (λ l. first_cause l clock) (get_or-take r.count r.lamps k no_lamp there) ∙ f k there) in
    row_number r size clock ∙ lamps-next r size clock slice ∙ ap (λ v. graver v (visits_cause clock (placed r))) limit ∙ none_graver (visits_cause clock (placed r)) ∙ lamps

-- a row made of lamps has their mask, and so has each row that a call leaves
pub with-true : (r : Row) (ls : List Lamp) → mask_true (with_lamps r ls) ≡ true
with-true r ls = eq-eqb _ _ refl

pub same-row : (r : Row) → mask_true r ≡ true → with_lamps r r.lamps ≡ r
same-row r e = ap (λ m. record { count = r.count; running_mask = m; lamps = r.lamps }) (sym (eqb-true _ _ e))

-- ---- the row call is the single steps of its places, one after another in rising place

pub no-cause : (r : Row) (k : ℕ) → InTrueRow k r → place_cause r k ≡ accepted
unfolding place_cause
no-cause r k h = rw (le-ltb 32 r.count h.in_row.room.few, lt-leb r.count k h.in_row.there, h.mask)

-- and in a row whose mask is not true 8
pub wrong-mask : (r : Row) (k : ℕ) → InRow k r → mask_true r ≡ false → place_cause r k ≡ invalid_lamp
unfolding place_cause
wrong-mask r k h m = rw (le-ltb 32 r.count h.room.few, lt-leb r.count k h.there, m)

-- its number is 8
pub wrong-mask-8 : (r : Row) (k : ℕ) → InRow k r → mask_true r ≡ false → number_of (place_cause r k) ≡ 8
wrong-mask-8 r k h m = ap number_of (wrong-mask r k h m)

abbrev pub step_each : ℕ → ℕ → Row → ℕ → Row
step_each zero k r clock = r
step_each (suc left) k r clock = step_each left (suc k) (answered_at r k (Call.Step clock)).row clock

module _ (clock : ℕ) where
  abbrev visit : Lamp → Lamp
  visit l = (visited l clock).lamp

  one_more : (n : ℕ) (xs : List Lamp) → set (map_to n visit xs) n (visit (get_or (map_to n visit xs) n no_lamp)) ≡ map_to (suc n) visit xs
  one_more n xs = rw (past-stays visit n n xs no_lamp (omega arith)) (step-map_to n visit xs no_lamp)

  at_place : (r : Row) (k : ℕ) → InTrueRow k r →
      (answered_at r k (Call.Step clock)).row ≡ with_lamps r (set r.lamps k (visit (lamp_at r k)))
  unfolding answered_at
  at_place r k h = rw (no-cause r k h, (visited-step (lamp_at r k) clock).0)

  from : (r : Row) (left k : ℕ) → Room r → k + left ≤ r.count →
      step_each left k (with_lamps r (map_to k visit r.lamps)) clock ≡ with_lamps r (map_to (k + left) visit r.lamps)
  from r zero k h m = ap (λ n. with_lamps r (map_to n visit r.lamps)) (sym (add-zero k))
  from r (suc left) k h m =
      let room : Room (with_lamps r (map_to k visit r.lamps)) = record { few = h.few; places = length-map_to k visit r.lamps ∙ h.places } in
      let e : suc k + left ≡ k + suc left = omega arith in
      ap (λ q. step_each left (suc k) q clock) (at_place (with_lamps r (map_to k visit r.lamps)) k (record { in_row = record { there = omega arith; room = room }; mask = with-true r (map_to k visit r.lamps) }) ∙ ap (with_lamps r) (one_more k r.lamps))
      ∙ from r left (suc k) h (omega arith) ∙ ap (λ n. with_lamps r (map_to n visit r.lamps)) e

  pub singly-is : (r : Row) (size : ℕ) → length r.lamps ≡ 32 → row_cause r size clock ≡ accepted →
      step_each r.count 0 r clock ≡ (row_stepped r size clock).row
  unfolding row_stepped
  singly-is r size len e =
      let room : Room r = record { few = accepted-few r size clock e; places = len } in
      let all : 0 + r.count ≡ r.count = omega arith in
      let start = ap (λ q. step_each r.count 0 q clock) (sym (same-row r (accepted-mask r size clock e))) in
      rw e (start ∙ from r r.count 0 room (omega arith) ∙ ap (λ n. with_lamps r (map_to n visit r.lamps)) all)

-- ---- a single call is the lamp's own answer at that place, with every other lamp and the count as they were

pub single-is : (r : Row) (k : ℕ) (x : Call) → InTrueRow k r → AnswersAs (answered_at r k x) (answer (lamp_at r k) x)
unfolding answered_at
single-is r k x h =
    let e = no-cause r k h in
    record { verdict = rw e; notices = rw e; task = rw e; wait = rw e }

pub single-lamp : (r : Row) (k : ℕ) (x : Call) → InTrueRow k r → lamp_at (answered_at r k x).row k ≡ (answer (lamp_at r k) x).lamp
unfolding answered_at
single-lamp r k x h = rw (no-cause r k h) (get_or-set_same r.lamps k (answer (lamp_at r k) x).lamp no_lamp (in_array k r h.in_row))

pub single-others : (r : Row) (place k : ℕ) (x : Call) → (k ≡ place → ⊥) → lamp_at (answered_at r place x).row k ≡ lamp_at r k
unfolding answered_at
single-others r place k x n =
    either (is_ok (place_cause r place))
    (λ e. rw e (get_or-set_other r.lamps place k (answer (lamp_at r place) x).lamp no_lamp n))
    (λ e. rw e)

pub single-count : (r : Row) (place : ℕ) (x : Call) → (answered_at r place x).row.count ≡ r.count
unfolding answered_at
single-count r place x = either (is_ok (place_cause r place)) (λ e. rw e) (λ e. rw e)

-- one that is refused, for the place or by its lamp, leaves the row as it was, reports nothing, and has no task and wait 0
pub single-refused : (r : Row) (k : ℕ) (x : Call) → ((answered_at r k x).verdict ≡ accepted → ⊥) →
    answered_at r k x ≡ record { verdict = (answered_at r k x).verdict; row = r; notices = noted []; task = None; wait = 0 }
unfolding answered_at
single-refused r k x n =
    either (is_ok (place_cause r k))
    (λ e. let same = refused-same (lamp_at r k) x (λ z. (rw e at n) (number-is-cause (lamp_at r k) x ∙ z)) in
    let stays = ap (with_lamps r) (set-get_or r.lamps k no_lamp) ∙ same-row r (place-there r k (accepted-of _ e)).2 in
    rw (e, same) (ap (λ (q : Row). record { verdict = cause (lamp_at r k) x; row = q; notices = noted []; task = None; wait = 0 }) stays))
    (λ e. rw e)

-- ---- making a row, and putting a lamp into it

pub made : (count : ℕ) (ls : List Lamp) → ((row_of count ls).count ≡ count) × ((row_of count ls).lamps ≡ ls)
made count ls = (refl, refl)

pub put_in : (r : Row) (k : ℕ) (l : Lamp) → InRow k r →
    (lamp_at (put_at r k l) k ≡ l) × ((put_at r k l).count ≡ r.count) × ((j : ℕ) → (j ≡ k → ⊥) → lamp_at (put_at r k l) j ≡ lamp_at r j)
unfolding put_at
put_in r k l h =
    rw (lt-leb r.count k h.there, lt-leb 32 k (omega (arith, h.there, h.room.few)))
    (get_or-set_same r.lamps k l no_lamp (in_array k r h), refl, λ j n. get_or-set_other r.lamps k j l no_lamp n)

-- at and past the count nothing is put, and nothing past the array
pub put-past : (r : Row) (k : ℕ) (l : Lamp) → min r.count 32 ≤ k → put_at r k l ≡ r
unfolding put_at
put-past r k l h =
    either (leb r.count k)
    (λ e. rw e)
    (λ e. rw (e, le-leb 32 k (omega (arith, leb-false r.count k e, h))))
