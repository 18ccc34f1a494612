-- The lamps from this place on have been read.
use Rattle.std.proofs.Common.{◌≡◌, ◌≤◌, length, drop}
use Rattle.rows.specs.Rows.{running_count, first_running}
use Rattle.measure.proofs.readings.of_lamps.Given as goal

abbrev pub invariant-loop-place : goal.invariant-loop-place
invariant-loop-place l = record {
  in_range : l.place ≤ length l.lamps;
  count : l.count ≡ running_count (drop l.place l.lamps);
  lowest : l.lowest ≡ first_running l.place (drop l.place l.lamps);
}
