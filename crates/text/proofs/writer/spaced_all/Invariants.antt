-- The numbers so far are written.
use Rattle.std.proofs.Common.{◌≡◌, take}
use Rattle.std.specs.List.{fold}
use Rattle.text.specs.Digits.{spaced_all}
use Rattle.text.proofs.writer.spaced_all.Given as goal

abbrev pub invariant-loop-n : goal.invariant-loop-n
invariant-loop-n g l = l.out ≡ fold g.S.Sink.push l.initial.out (spaced_all (take l.n-index l.numbers))
