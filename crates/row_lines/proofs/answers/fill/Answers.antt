-- A byte filled is one that is left to fill no more.
use Rattle.std.proofs.Common.{◌<◌, ◌≤◌, length, length-set, arith}
use Rattle.row_lines.proofs.Lent.{lent-more, lent-all}
use Rattle.row_lines.proofs.answers.fill.Goals as goal

pub loop-i-preserved : goal.loop-i-preserved
loop-i-preserved c =
    let l = c.loop-i in
    let n = length c.args.bytes.now in
    let more : l.i < n = omega (arith, c.loop-i-test.true, l.invariant.same_length) in record {
      same_length = simp length-set l.invariant.same_length;
      whole = rw c.byte_at.ensures (lent-more l.bytes c.args.from n l.i more l.invariant.same_length l.invariant.whole);
    }

pub returns : goal.returns
returns c =
    let l = c.loop-i in
    let n = length c.args.bytes.now in
    let all : n ≤ l.i = omega (arith, c.loop-i-test.false, l.invariant.same_length) in
    lent-all l.bytes c.args.from n l.i all l.invariant.same_length l.invariant.whole
