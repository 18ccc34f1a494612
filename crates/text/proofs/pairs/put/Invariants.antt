-- The bytes of the pairs passed, and behind them what there was.
use Rattle.std.proofs.Common.{◌≡◌, ◌≤◌, ◌++◌, take, drop, length}
use Rattle.text.specs.Pairs.{bytes_of}
use Rattle.text.proofs.pairs.put.Given as goal

abbrev pub invariant-loop-i : goal.invariant-loop-i
invariant-loop-i l = record {
  inside : l.i ≤ length (bytes_of l.word);
  put : l.out ≡ take l.i (bytes_of l.word) ++ drop l.i l.fn.out;
}
