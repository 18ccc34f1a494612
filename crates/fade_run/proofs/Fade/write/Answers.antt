use Rattle.std.proofs.Common.{sym, arith}
use Rattle.fade_run.proofs.Laws.{one_more}
use Rattle.fade_run.proofs.Fade.write.Goals as goal

pub loop-out-smaller : goal.loop-out-smaller
loop-out-smaller c =
    let wrote = c.write_next-at.ensures in
    let more = one_more c.loop-out.self _ c.loop-out.out _ c.loop-out.at _ _ (sym c.if-not-is_over.ensures) (omega arith) wrote.0 wrote.1 c.loop-out.invariant.whole in
    omega (arith, more.further-on, more.inside, more.length-kept)

pub loop-out-preserved : goal.loop-out-preserved
loop-out-preserved c =
    let wrote = c.write_next-at.ensures in
    let more = one_more c.loop-out.self _ c.loop-out.out _ c.loop-out.at _ _ (sym c.if-not-is_over.ensures) (omega arith) wrote.0 wrote.1 c.loop-out.invariant.whole in
    record {
      in_slice = omega (arith, more.inside, more.length-kept);
      whole = more.written;
      same = λ z. absurd (omega (arith, z, more.further-on));
    }
