-- The first cause refuses, the slice's or the worst of the lamps'; else the visits are the row's.
use Rattle.std.proofs.Common.{◌≡◌, ℕ, ◌*◌, ◌≤◌, ◌++◌, sym, ap, ◌∙◌, List, length, take, drop, take-append-drop, zero-add, arith}
use Rattle.std.specs.Prelude.{is_ok}
use Rattle.matter.specs.Causes.{Verdict, accepted}
use Rattle.std.proofs.lemmas.List.{length-take-le}
use Rattle.rows.specs.declared.Row.{Row}
use Rattle.rows.specs.Rows.{placed, bytes_of, row_cause, row_stepped, row_bytes}
use Rattle.rows.specs.Inner.{visits_cause, graver, limit_cause, slice_cause}
use Rattle.rows.proofs.Visiting.{by_parts}
use Rattle.rows.proofs.Causes.{slice_first, lamps-next, slice_fits, both-none}
use Rattle.rows.proofs.Row.step.Goals as goal

-- the worst of the lamps' own causes is the row's
cause-is : (r : Row) (size clock : ℕ) (verdict limit visits : Verdict) → slice_cause r size ≡ accepted → verdict ≡ graver limit visits →
    limit ≡ limit_cause clock → visits ≡ visits_cause clock (placed r) → row_cause r size clock ≡ verdict
cause-is r size clock verdict limit visits ok e l v = lamps-next r size clock ok ∙ rw (← l, ← v) (sym e)

-- as many bytes are copied as the slice has room for
copied : (r : Row) (size : ℕ) (bytes : List ℕ) → slice_cause r size ≡ accepted → length bytes ≡ 512 →
    (length (take (16 * r.count) bytes) ≡ 16 * r.count) × (16 * r.count ≤ size)
copied r size bytes ok long =
    let f = slice_fits r size ok in
    (length-take-le (16 * r.count) bytes (omega (arith, f.0, long)), f.1)

pub returns-in-Err : goal.returns-in-Err
unfolding row_stepped row_bytes
returns-in-Err c =
    let e = sym c.slice_cause.ensures ∙ c.in-Err.is in
    let first = slice_first c.args.self (length c.args.out.now) c.args.clock (ap is_ok e) ∙ e in
    record { answer = rw first c.refused.ensures; slice = rw first }

pub returns-in-Err-first_of : goal.returns-in-Err-first_of
unfolding row_stepped row_bytes
returns-in-Err-first_of c =
    let ok = sym c.slice_cause.ensures ∙ c.in_default.is in
    let first = cause-is c.args.self (length c.args.out.now) c.args.clock _ _ _ ok c.first_of.ensures c.limit_cause.ensures c.visit_all-next.ensures.cause ∙ c.in-Err-first_of.is in
    record { answer = rw first c.refused-in-Err-first_of.ensures; slice = rw first }

pub slice_bounds-copy-end : goal.slice_bounds-copy-end
slice_bounds-copy-end c =
    let ok = sym c.slice_cause.ensures ∙ c.in_default.is in
    sym (copied c.args.self _ c.visit_all-next.new.bytes ok c.visit_all-next.auto.bytes).0

pub copy-requires : goal.copy-requires
copy-requires c =
    let ok = sym c.slice_cause.ensures ∙ c.in_default.is in
    let room = copied c.args.self _ c.visit_all-next.new.bytes ok c.visit_all-next.auto.bytes in
    omega (arith, room.0, room.1)

pub returns : goal.returns
unfolding row_stepped row_bytes
returns c =
    let ok = sym c.slice_cause.ensures ∙ c.in_default.is in
    let none = cause-is c.args.self (length c.args.out.now) c.args.clock _ _ _ ok c.first_of.ensures c.limit_cause.ensures c.visit_all-next.ensures.cause ∙ c.in_default-first_of.is in
    let both = both-none c.limit_cause.result c.visit_all-next.result.verdict (sym c.first_of.ensures ∙ c.in_default-first_of.is) in
    let visits = c.visit_all-next.ensures in
    let many = 16 * c.args.self.count in
    let long = (copied c.args.self _ c.visit_all-next.new.bytes ok c.visit_all-next.auto.bytes).0 in
    let front = rw (zero-add, long) at c.copy.ensures.front in
    let back = rw (zero-add, long) at c.copy.ensures.back in
    let whole : c.copy.new.out ≡ bytes_of c.args.clock (placed c.args.self) ++ drop many c.args.out.now =
    sym (take-append-drop many c.copy.new.out) ∙ rw (front, back, visits.reported) in
    record { answer = rw none (by_parts _ both.1 visits.row visits.wait); slice = rw none whole }
