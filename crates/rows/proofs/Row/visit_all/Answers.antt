-- A place visited is one that is left to visit no more.
use Rattle.std.proofs.Common.{◌≡◌, ◌+◌, ◌*◌, ◌<◌, ◌≤◌, sym, ◌∙◌, length, take, get_or, drop_of_length-le, arith, rules}
use Rattle.std.proofs.lemmas.List.{length-take, length-take-le, get_or-take}
use Rattle.rows.specs.Rows.{placed, no_lamp}
use Rattle.rows.proofs.Causes.{graver_none}
use Rattle.rows.proofs.Visiting.{lamps-more, wait-more, cause-more, bytes-more}
use Rattle.rows.proofs.Row.visit_all.Goals as goal

pub loop-place-preserved : goal.loop-place-preserved
loop-place-preserved c =
    let xs = placed c.args.self in
    let l = c.loop-place in
    let i = l.place in
    let clock = c.args.clock in
    let was = l.invariant in
    let v = c.visit-a.ensures in
    let low : i < c.args.self.count = c.loop-place-test.true in
    let array : length c.args.self.lamps ≡ 32 = search rules in
    let there : i < length xs = omega (arith, low, length-take-le c.args.self.count c.args.self.lamps (omega (arith, array, c.requires.few))) in
    let same : get_or xs i no_lamp ≡ get_or c.args.self.lamps i no_lamp = get_or-take c.args.self.count c.args.self.lamps i no_lamp low in
    let next16 : 16 * (i + 1) ≡ 16 * i + 16 = omega arith in record {
      lamps = rw (v.lamp, ← same) (lamps-more c.args.self.lamps c.args.self.count i clock _ low l.lamps was.lamps);
      wait = rw (c.least-wait.ensures, v.wait, ← same) (wait-more xs i clock there _ l.wait was.wait);
      cause = rw (c.first_of-verdict.ensures, v.cause, ← same) (cause-more xs i clock there _ l.verdict was.cause);
      reported =
          rw (next16, c.put.ensures.front, v.notices, ← same) (bytes-more xs i clock there _ (take (16 * i) l.bytes) was.reported);
    }

pub returns-clause-cause : goal.returns-clause-cause
returns-clause-cause c =
    let past : length (placed c.args.self) ≤ c.loop-place.place = omega (arith, c.loop-place-test.false, length-take c.args.self.count c.args.self.lamps) in
    let none = drop_of_length-le (placed c.args.self) {i = c.loop-place.place} past in
    sym (graver_none c.loop-place.verdict) ∙ (rw none at c.loop-place.invariant.cause)
