-- The loop has run the first calls, as many as it has seen; the others are left.
use Rattle.std.proofs.Common.{◌≡◌, ◌*◌, length, drop}
use Rattle.std.specs.Slice.Iter.{chunks_exact_rest, chunks_exact_size}
use Rattle.measure.specs.Runs.{ran}
use Rattle.measure.proofs.run.Given as goal

abbrev pub invariant-loop-call : goal.invariant-loop-call
invariant-loop-call l = record {
  size : chunks_exact_size l.call-iterator ≡ 10;
  so_far : ran l.fn.lamp l.calls (length l.yielded) ≡ l.ran;
  left : chunks_exact_rest l.call-iterator ≡ drop (length l.yielded * 10) l.calls;
}
