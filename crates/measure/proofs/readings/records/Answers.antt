-- Turn by turn.
use Rattle.std.proofs.Common.{◌∙◌}
use Rattle.std.proofs.Math.ListN.{drop_of_length-le}
use Rattle.std.proofs.lemmas.List.{drop_more, length-set}
use Rattle.measure.specs.Readings.{records_from}
use Rattle.measure.proofs.readings.records.Goals as goal

pub loop-turn-preserved : goal.loop-turn-preserved
unfolding records_from
loop-turn-preserved c = record {
  places = length-set c.loop-turn.lamps _ c.turned.result ∙ c.loop-turn.invariant.places;
  whole = rw (c.add-sums.ensures, c.of_lamps.ensures, c.turned.ensures) (rw (drop_more c.args.turns.now c.loop-turn.turn-index 0 c.loop-turn-test.true) at c.loop-turn.invariant.whole);
}

pub returns : goal.returns
unfolding records_from
returns c = rw (drop_of_length-le c.args.turns.now {i = c.loop-turn.turn-index} c.loop-turn-test.false) at c.loop-turn.invariant.whole
