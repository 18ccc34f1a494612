-- The digits so far are put in.
use Rattle.std.proofs.Common.{◌≡◌, take}
use Rattle.std.specs.List.{fold}
use Rattle.text.specs.Digits.{hex_text}
use Rattle.text.proofs.writer.hex.Given as goal

abbrev pub invariant-loop-b : goal.invariant-loop-b
invariant-loop-b g l = l.out ≡ fold g.S.Sink.push l.initial.out (hex_text (take l.b-index l.bytes))
