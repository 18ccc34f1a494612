-- The notices so far are written.
use Rattle.std.proofs.Common.{◌≡◌, take}
use Rattle.std.specs.List.{fold}
use Rattle.text.specs.Digits.{spaced_all}
use Rattle.fade_line.proofs.writer.notices.Given as goal

abbrev pub invariant-loop-number : goal.invariant-loop-number
invariant-loop-number g l = l.out ≡ fold g.S.Sink.push l.initial.out (spaced_all (take l.number-index l.number-items))
