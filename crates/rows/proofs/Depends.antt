-- "In an accepted call a lamp's record and notices depend on its own record, the call and the clock, never on another lamp's."
use Rattle.matter.specs.Causes.{accepted}
use Prim.Native.Nat.{ℕ}
use mathlib.Core.Bool.{true, false}
use mathlib.Core.List.{List}
use mathlib.Core.Path.{◌≡◌, refl, ap, sym, ◌∙◌}
use lib.ListN.{length}
use Rattle.lamp.specs.declared.Call.{Call}
use Rattle.commands.specs.Answers.{answer}
use Rattle.rows.specs.declared.Row.{Row}
use Rattle.rows.specs.Rows.{lamp_at, mask_true, row_cause, row_stepped, row_bytes, answered_at}
use Rattle.rows.proofs.Laws.{InRow, InTrueRow, either, wrong-mask, row-lamp, single-is, single-lamp, single-others}
use Rattle.rows.proofs.Bytes.{sixteen_at, bytes-at}

-- two rows with the same lamp at a place: the other lamps and the count are free
pub record AgreeAt (k : ℕ) (r q : Row) : Type 0 where
  pub left : InRow k r
  pub right : InRow k q
  pub same : lamp_at r k ≡ lamp_at q k

-- a row call that both accept, whatever slices are lent: the same record there, and the same sixteen bytes
pub row-call-depends : (r q : Row) (out other : List ℕ) (clock k : ℕ) → AgreeAt k r q →
    row_cause r (length out) clock ≡ accepted → row_cause q (length other) clock ≡ accepted →
    (lamp_at (row_stepped r (length out) clock).row k ≡ lamp_at (row_stepped q (length other) clock).row k)
    × (sixteen_at k (row_bytes r out clock) ≡ sixteen_at k (row_bytes q other clock))
row-call-depends r q out other clock k a e f = (
  row-lamp r (length out) clock k a.left e ∙ ap (λ l. (answer l (Call.Step clock)).lamp) a.same ∙ sym (row-lamp q (length other) clock k a.right f),
  bytes-at r out clock k a.left e ∙ ap (λ l. (answer l (Call.Step clock)).notices.places) a.same ∙ sym (bytes-at q other clock k a.right f),
)

abbrev SameThere : Row → Row → ℕ → Call → Type 0
SameThere r q k x =
    (lamp_at (answered_at r k x).row k ≡ lamp_at (answered_at q k x).row k)
    × ((answered_at r k x).verdict ≡ (answered_at q k x).verdict) × ((answered_at r k x).notices ≡ (answered_at q k x).notices)
    × ((answered_at r k x).task ≡ (answered_at q k x).task) × ((answered_at r k x).wait ≡ (answered_at q k x).wait)

both_true : (r q : Row) (k : ℕ) (x : Call) → AgreeAt k r q → mask_true r ≡ true → mask_true q ≡ true → SameThere r q k x
both_true r q k x a m n =
    let left : InTrueRow k r = record { in_row = a.left; mask = m } in
    let right : InTrueRow k q = record { in_row = a.right; mask = n } in
    let s = single-is r k x left in
    let t = single-is q k x right in (
      single-lamp r k x left ∙ ap (λ l. (answer l x).lamp) a.same ∙ sym (single-lamp q k x right),
      s.verdict ∙ ap (λ l. (answer l x).verdict) a.same ∙ sym t.verdict,
      s.notices ∙ ap (λ l. (answer l x).notices) a.same ∙ sym t.notices,
      s.task ∙ ap (λ l. (answer l x).task) a.same ∙ sym t.task,
      s.wait ∙ ap (λ l. (answer l x).wait) a.same ∙ sym t.wait,
    )

-- where neither mask is true, both calls are refused with 8
both_wrong : (r q : Row) (k : ℕ) (x : Call) → AgreeAt k r q → mask_true r ≡ false → mask_true q ≡ false → SameThere r q k x
unfolding answered_at
both_wrong r q k x a m n = rw (wrong-mask r k a.left m, wrong-mask q k a.right n) (a.same, refl, refl, refl, refl)

-- a single call there, accepted or not, in two rows whose masks are both true or both not: the same record, number, notices, task and wait
pub single-depends : (r q : Row) (k : ℕ) (x : Call) → AgreeAt k r q → mask_true r ≡ mask_true q →
    (lamp_at (answered_at r k x).row k ≡ lamp_at (answered_at q k x).row k)
    × ((answered_at r k x).verdict ≡ (answered_at q k x).verdict) × ((answered_at r k x).notices ≡ (answered_at q k x).notices)
    × ((answered_at r k x).task ≡ (answered_at q k x).task) × ((answered_at r k x).wait ≡ (answered_at q k x).wait)
single-depends r q k x a e =
    either (mask_true r) (λ m. both_true r q k x a m (sym e ∙ m)) (λ m. both_wrong r q k x a m (sym e ∙ m))

-- a single call elsewhere, accepted or not
pub elsewhere-depends : (r q : Row) (place k : ℕ) (x : Call) → AgreeAt k r q → (k ≡ place → ⊥) →
    lamp_at (answered_at r place x).row k ≡ lamp_at (answered_at q place x).row k
elsewhere-depends r q place k x a n = single-others r place k x n ∙ a.same ∙ sym (single-others q place k x n)
