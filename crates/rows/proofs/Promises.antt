-- What other demands promise of every answer, for rows: notice 18 in its cause alone, and at most 14 notices with zeros behind them.
use Rattle.matter.specs.Causes.{accepted}
use Rattle.std.specs.Prelude.{is_ok}
use Prim.Native.Nat.{ℕ, ◌≤◌}
use mathlib.Core.Bool.{true≢false}
use mathlib.Core.List.{List, []}
use mathlib.Core.Logic.{◌↔◌}
use mathlib.Core.Path.{◌≡◌, refl, ap, sym}
use native.Mathlib.Omega.{arith}
use lib.ListN.{length, get_or}
use Rattle.notices.specs.declared.Notices.{Notices}
use Rattle.notices.specs.Names.{hue_tie}
use Rattle.notices.specs.Notices.{filled}
use Rattle.lamp.specs.declared.Call.{Call}
use Rattle.commands.specs.Answers.{answer}
use Rattle.commands.proofs.Table.{table}
use Rattle.commands.proofs.Ties.{ties}
use Rattle.rows.specs.declared.Row.{Row}
use Rattle.rows.specs.Rows.{lamp_at, row_cause, row_bytes, place_cause, answered_at}
use Rattle.rows.proofs.Laws.{InRow, InTrueRow, either, single-is}
use Rattle.rows.proofs.Bytes.{sixteen_at, bytes-at}

-- ---- document 02, A.6: 18 "comes in no other case"

-- no sixteen bytes of an accepted row call hold 18
pub row-never-18 : (r : Row) (out : List ℕ) (clock k : ℕ) → InRow k r → row_cause r (length out) clock ≡ accepted → (byte : ℕ) →
    get_or (sixteen_at k (row_bytes r out clock)) byte 0 ≡ hue_tie → ⊥
row-never-18 r out clock k h e byte there =
    true≢false (sym ((ties (lamp_at r k) (Call.Step clock)).alone byte (rw (bytes-at r out clock k h e) at there)))

-- a single call has 18 at a place of its list exactly where the lamp alone has it there
pub single-18 : (r : Row) (k : ℕ) (x : Call) → InTrueRow k r → (place : ℕ) →
    (get_or (answered_at r k x).notices.places place 0 ≡ hue_tie) ↔ (get_or (answer (lamp_at r k) x).notices.places place 0 ≡ hue_tie)
single-18 r k x h place =
    let same = (single-is r k x h).notices in (λ e. rw same at e, λ e. rw same e)

-- ---- document 01: at most 14 notices, "unused places 0"

pub record FewIn (places : List ℕ) : Type 0 where
  pub reported : List ℕ
  pub listed : places ≡ filled reported
  pub few : length reported ≤ 14

lamp-few : (r : Row) (k : ℕ) (x : Call) → FewIn (answer (lamp_at r k) x).notices.places
lamp-few r k x =
    let f = table.few (lamp_at r k) x in
    record { reported = f.reported; listed = ap (λ (n : Notices). n.places) f.listed; few = f.few }

-- the sixteen bytes of each place of an accepted row call
pub row-few : (r : Row) (out : List ℕ) (clock k : ℕ) → InRow k r → row_cause r (length out) clock ≡ accepted →
    FewIn (sixteen_at k (row_bytes r out clock))
row-few r out clock k h e = rw (bytes-at r out clock k h e) (lamp-few r k (Call.Step clock))

-- the list of a single call, at a place of the row or at none
pub single-few : (r : Row) (k : ℕ) (x : Call) → FewIn (answered_at r k x).notices.places
unfolding answered_at
single-few r k x =
    either (is_ok (place_cause r k))
    (λ e. rw e (lamp-few r k x))
    (λ e. rw e (record { reported = []; listed = refl; few = omega arith }))
