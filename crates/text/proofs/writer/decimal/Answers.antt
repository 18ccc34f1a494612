-- A digit is put before those that are there, and at the end they are the number.
use Rattle.std.proofs.Common.{◌+◌, ◌-◌, ◌<◌, ◌≡◌, ◌∙◌, ap, ℕ, List, arith, length}
use Rattle.std.specs.List.{fold}
use Rattle.std.proofs.Math.ListN.{length-set}
use Rattle.text.proofs.DigitLaws.{digit-room, digit-more, digit-last}
use Rattle.text.proofs.writer.decimal.Goals as goal

pub loop-left-preserved : goal.loop-left-preserved
loop-left-preserved g c =
    let l = c.loop-left in
    let room = digit-room c.args.n l.left l.at l.digits l.invariant.0 c.loop-left-test.true in
    let before : l.at ≡ l.at - 1 + 1 = omega (arith, room) in
    let inside : l.at < length l.digits = omega (arith, l.invariant.1, l.invariant.2) in
    (digit-more c.args.n l.left l.at (l.at - 1) l.digits l.invariant.0 c.loop-left-test.true (omega arith) before inside, omega (arith, l.invariant.1), simp length-set l.invariant.2)

pub returns : goal.returns
returns g c =
    let l = c.loop-left in
    let inside : l.at < length l.digits = omega (arith, l.invariant.1, l.invariant.2) in
    c.text.ensures ∙ ap (λ (s : List ℕ). fold g.S.Sink.push c.args.out.now s) (digit-last c.args.n l.left l.at l.digits l.invariant.0 c.loop-left-test.false inside l.invariant.2)
