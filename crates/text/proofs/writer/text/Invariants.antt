-- The bytes so far are put in.
use Rattle.std.proofs.Common.{◌≡◌, take}
use Rattle.std.specs.List.{fold}
use Rattle.text.proofs.writer.text.Given as goal

abbrev pub invariant-loop-b : goal.invariant-loop-b
invariant-loop-b g l = l.out ≡ fold g.S.Sink.push l.initial.out (take l.b-index l.s)
