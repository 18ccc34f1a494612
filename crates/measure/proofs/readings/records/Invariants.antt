-- What is left to read, from the lamps and sums so far, is the whole.
use Rattle.std.proofs.Common.{◌≡◌, length, drop}
use Rattle.measure.specs.Readings.{records_from, records_read}
use Rattle.measure.proofs.readings.records.Given as goal

abbrev pub invariant-loop-turn : goal.invariant-loop-turn
invariant-loop-turn l = record {
  places : length l.lamps ≡ 32;
  whole : records_from l.lamp l.lamps l.sums (drop l.turn-index l.turns) ≡ records_read l.lamp l.turns;
}
