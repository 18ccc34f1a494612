-- What is visited, with what is left to visit, is the whole.
use Rattle.std.proofs.Common.{◌≡◌, ◌*◌, ◌++◌, take, drop}
use Rattle.rows.specs.Rows.{placed, map_to, visited, lesser, least_wait, bytes_of}
use Rattle.rows.specs.Inner.{visits_cause, graver}
use Rattle.rows.proofs.Row.visit_all.Given as goal

abbrev pub invariant-loop-place : goal.invariant-loop-place
invariant-loop-place l = record {
  lamps : l.lamps ≡ map_to l.place (λ x. (visited x l.clock).lamp) l.self.lamps;
  wait : lesser l.wait (least_wait l.clock (drop l.place (placed l.self))) ≡ least_wait l.clock (placed l.self);
  cause : graver l.verdict (visits_cause l.clock (drop l.place (placed l.self))) ≡ visits_cause l.clock (placed l.self);
  reported : take (16 * l.place) l.bytes ++ bytes_of l.clock (drop l.place (placed l.self)) ≡ bytes_of l.clock (placed l.self);
}
