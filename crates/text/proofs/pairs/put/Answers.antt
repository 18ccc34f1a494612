use Rattle.std.proofs.Common.{◌≡◌, length, arith}
use Rattle.text.specs.Pairs.{bytes_of}
use Rattle.text.proofs.PairLaws.{bytes_half, byte_at, put_next, put_all}
use Rattle.text.proofs.pairs.put.Goals as goal

pub loop-i-preserved : goal.loop-i-preserved
loop-i-preserved c =
    let w = c.args.word.now in let i = c.loop-i.i in
    record {
      inside = omega (arith, bytes_half w);
      put = rw (c.loop-i.invariant.put, c.hex_value.ensures.0, c.hex_value-in-loop-i.ensures.0, ← (byte_at w i (omega arith)))
          (put_next c.args.out.now (bytes_of w) i (omega (arith, bytes_half w)) c.requires);
    }

pub returns : goal.returns
returns c =
    let w = c.args.word.now in
    let end : c.loop-i.i ≡ length (bytes_of w) = omega (arith, bytes_half w) in
    rw (c.loop-i.invariant.put, end) (put_all c.args.out.now (bytes_of w))
