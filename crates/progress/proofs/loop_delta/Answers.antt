-- `loop_delta`: the turn is far below half of 64 bits, so that it and its negation fit.
use Rattle.std.proofs.Common.{arith}
use Rattle.std.proofs.lemmas.Int.{ints}
use Rattle.progress.proofs.Laws.{loop-turn-small}
use Rattle.progress.proofs.loop_delta.Goals as goal

pub overflow_cast-turn : goal.overflow_cast-turn
overflow_cast-turn c = grind (arith, ints, loop-turn-small)

pub overflow_sub-result : goal.overflow_sub-result
overflow_sub-result c = grind (arith, ints, loop-turn-small)

pub returns-in-Increment : goal.returns-in-Increment
returns-in-Increment c = rw c.in-Increment.is (omega (arith, ints, loop-turn-small, c.loop_turn-turn.ensures))

pub returns-in-Decrement : goal.returns-in-Decrement
returns-in-Decrement c = rw c.in-Decrement.is (omega (arith, ints, loop-turn-small, c.loop_turn-turn.ensures))
