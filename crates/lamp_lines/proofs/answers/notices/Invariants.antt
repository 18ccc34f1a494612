-- The notices so far are written.
use Rattle.std.proofs.Common.{◌≡◌, take}
use Rattle.std.specs.List.{fold}
use Rattle.text.specs.Digits.{spaced_all}
use Rattle.lamp_lines.proofs.answers.notices.Given as goal

abbrev pub invariant-loop-notice : goal.invariant-loop-notice
invariant-loop-notice g l = l.out ≡ fold g.S.Sink.push l.initial.out (spaced_all (take l.notice-index l.notice-items))
