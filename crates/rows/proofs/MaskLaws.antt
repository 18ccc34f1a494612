-- What every call leaves of the running mask.
use Rattle.std.specs.Prelude.{Some, is_ok}
use Rattle.std.proofs.Common.{◌≡◌, ℕ, ◌^◌, ◌<◌, ◌≤◌, true, cond, ◌&&◌, ◌||◌, length, set, eqb, leb, ltb, refl, ap, sym, ◌∙◌, arith, eqb-true, eq-eqb, leb-false, ltb-true, ltb-false, is_ok}
use borrow.Author.Tests.{lt-leb}
use Rattle.std.specs.Int.{w32, bit_at, trailing_zeros}
use Rattle.std.proofs.lemmas.Bool.{eqb-false}
use Rattle.std.proofs.lemmas.List.{length-set, get_or-take, get_or_past}
use Rattle.std.proofs.lemmas.Nat.Bits.{same_from_bits, bit_at-zero, bit_at-trailing_zeros}
use Rattle.matter.specs.declared.commands.Request.{Request}
use Rattle.matter.specs.declared.enums.OnOff.{OnOff}
use Rattle.matter.proofs.Laws.{or_left, or_right}
use Rattle.tasks.specs.declared.Running.{Running}
use Rattle.tasks.specs.Runs.{runs}
use Rattle.lamp.specs.declared.Call.{Call}
use Rattle.lamp.specs.declared.Lamp.{Lamp}
use Rattle.commands.specs.Answers.{answer}
use Rattle.commands.proofs.Unchanged.{unchanged}
use Rattle.rows.specs.declared.Row.{Row}
use Rattle.rows.specs.Rows.{mask_true, placed, no_lamp, lamp_at, row_cause, row_stepped, place_cause, answered_at, put_at, lowest_of, Readings}
use Rattle.rows.specs.Mask.{MaskKept, MaskOfRows}
use Rattle.rows.proofs.Laws.{Room, either, placed-many, with-true, single-lamp, single-others, single-count}
use Rattle.rows.proofs.Masks.{mask-bit, bit_here, bit_elsewhere, readings, stored-true}

module _ (r : Row) (room : Room r) (m : mask_true r ≡ true) where
  row-call-true : (size clock : ℕ) → mask_true (row_stepped r size clock).row ≡ true
  unfolding row_stepped
  row-call-true size clock = either (is_ok (row_cause r size clock)) (λ e. rw e (with-true r _)) (λ e. rw e m)

  single-true : (place : ℕ) (x : Call) → mask_true (answered_at r place x).row ≡ true
  unfolding answered_at
  single-true place x = either (is_ok (place_cause r place)) (λ e. rw e (with-true r _)) (λ e. rw e m)

  put-true : (place : ℕ) (l : Lamp) → mask_true (put_at r place l) ≡ true
  unfolding put_at
  put-true place l =
      either (leb r.count place || leb 32 place)
      (λ e. rw e m)
      (λ e. let there = leb-false r.count place (or_left (leb r.count place) (leb 32 place) e) in
      rw e (ap mask_true (stored-true r place l m there room.few room.places) ∙ with-true r (set r.lamps place l)))

  -- the readings of the row after a single call
  single-array : (place : ℕ) (x : Call) → length (answered_at r place x).row.lamps ≡ 32
  unfolding answered_at
  single-array place x =
      either (is_ok (place_cause r place)) (λ e. rw e (length-set r.lamps place _ ∙ room.places)) (λ e. rw e room.places)

  after : (place : ℕ) (x : Call) → Readings (answered_at r place x).row
  after place x =
      readings (answered_at r place x).row (single-true place x) (omega (arith, single-count r place x, room.few)) (single-array place x)

  before : Readings r
  before = readings r m room.few room.places

  abbrev bit_of : Lamp → ℕ
  bit_of l = cond (runs l.running) 1 0

  own : (k : ℕ) (x : Call) → k < r.count → bit_at (answered_at r k x).row.running_mask k ≡ bit_of (answer (lamp_at r k) x).lamp
  own k x there =
      (after k x).bits k (omega (arith, single-count r k x, there))
      ∙ ap bit_of (single-lamp r k x (record { in_row = record { there = there; room = room }; mask = m }))

  no_bit : (place k : ℕ) (x : Call) → r.count ≤ k → bit_at (answered_at r place x).row.running_mask k ≡ bit_at r.running_mask k
  no_bit place k x past = (after place x).past k (omega (arith, single-count r place x, past)) ∙ sym (before.past k past)

  others : (place k : ℕ) (x : Call) → (k ≡ place → ⊥) → bit_at (answered_at r place x).row.running_mask k ≡ bit_at r.running_mask k
  others place k x n =
      either (ltb k r.count)
      (λ e. let there = ltb-true k r.count e in
      (after place x).bits k (omega (arith, single-count r place x, there)) ∙ ap bit_of (single-others r place k x n) ∙ sym (before.bits k there))
      (λ e. no_bit place k x (ltb-false k r.count e))

  command-bit : (place : ℕ) (request : Request) (on_off : OnOff) (clock : ℕ) →
      let x : Call = Call.Command request on_off clock in bit_at (answered_at r place x).row.running_mask place ≡ bit_at r.running_mask place
  command-bit place request on_off clock =
      let x : Call = Call.Command request on_off clock in
      either (ltb place r.count)
      (λ e. let there = ltb-true place r.count e in
      own place x there ∙ ap (λ (run : Running). cond (runs run) 1 0) ((unchanged (lamp_at r place)).command-running request on_off clock) ∙ sym (before.bits place there))
      (λ e. no_bit place place x (ltb-false place r.count e))

  pub mask-kept : MaskKept r
  mask-kept =
      record {
        row_call = row-call-true;
        single = single-true;
        own = own;
        others = others;
        command = λ place request on_off clock.
            same_from_bits _ _ (λ k. either (eqb k place)
            (λ e. rw (eqb-true k place e) (command-bit place request on_off clock))
            (λ e. others place k (Call.Command request on_off clock) (eqb-false k place e)));
        at_once = λ k task clock there idle. own k (Call.Start task clock) there ∙ rw idle;
        put = put-true;
      }

agrees : (r : Row) → r.count ≤ 32 → length r.lamps ≡ 32 →
    ((k : ℕ) → bit_at r.running_mask k ≡ cond (ltb k r.count && runs (lamp_at r k).running) 1 0) → mask_true r ≡ true
agrees r few len h =
    let bit_of : Lamp → ℕ = λ l. cond (runs l.running) 1 0 in
    let many = placed-many r (record { few = few; places = len }) in
    eq-eqb _ _ (same_from_bits _ _ (λ k. h k ∙ sym (mask-bit (placed r) k ∙ either (ltb k r.count)
    (λ e. rw e (ap bit_of (get_or-take r.count r.lamps k no_lamp (ltb-true k r.count e))))
    (λ e. rw e (ap bit_of (get_or_past (placed r) k no_lamp (omega (arith, ltb-false k r.count e))))))))

put-own : (r : Row) (k : ℕ) (l : Lamp) → k < r.count → k < 32 →
    bit_at (put_at r k l).running_mask k ≡ cond (runs l.running) 1 0
unfolding put_at
put-own r k l there low = rw (lt-leb r.count k there, lt-leb 32 k low) (bit_here r.running_mask k (runs l.running) low)

put-others : (r : Row) (place k : ℕ) (l : Lamp) → k < 32 → (k ≡ place → ⊥) →
    bit_at (put_at r place l).running_mask k ≡ bit_at r.running_mask k
unfolding put_at
put-others r place k l low n =
    either (leb r.count place || leb 32 place)
    (λ e. rw e)
    (λ e. rw e (bit_elsewhere r.running_mask place k (runs l.running) (leb-false 32 place (or_right (leb r.count place) (leb 32 place) e)) low n))

lowest-at : (mask k : ℕ) → mask < 2 ^ 32 → bit_at mask k ≡ 1 → ((j : ℕ) → j < k → bit_at mask j ≡ 0) →
    lowest_of mask ≡ Some k
lowest-at mask k fits set_here none_below =
    either (eqb mask 0)
    (λ e. absurd (omega (arith, (rw (eqb-true mask 0 e) at set_here), bit_at-zero k)))
    (λ e. let t = bit_at-trailing_zeros w32 mask (omega (arith, eqb-false mask 0 e)) fits in
    let at_most : trailing_zeros w32 mask ≤ k = either (ltb k (trailing_zeros w32 mask))
    (λ l. absurd (omega (arith, t.2 k (ltb-true k _ l), set_here))) (λ l. ltb-false k _ l) in
    let at_least : k ≤ trailing_zeros w32 mask = either (ltb (trailing_zeros w32 mask) k)
    (λ l. absurd (omega (arith, none_below _ (ltb-true _ k l), t.1))) (λ l. ltb-false _ k l) in
    let same : trailing_zeros w32 mask ≡ k = omega (arith, at_most, at_least) in
    rw e (ap Some same))

pub mask-of-rows : MaskOfRows
mask-of-rows =
    record {
      made = λ count ls. eq-eqb _ _ refl;
      agrees = agrees;
      put_own = put-own;
      put_others = put-others;
      none = refl;
      lowest = lowest-at;
    }
