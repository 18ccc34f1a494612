-- What is left stands before the digits that are put.
use Rattle.std.proofs.Common.{◌+◌, ◌-◌, ◌≡◌, ◌≤◌, length}
use Rattle.text.proofs.DigitLaws.{Left}
use Rattle.text.proofs.writer.decimal.Given as goal

abbrev pub invariant-loop-left : goal.invariant-loop-left
invariant-loop-left g l = Left l.n l.left l.at l.digits × (l.at ≤ 19) × (length l.digits ≡ 20)

abbrev pub decreases-loop-left : goal.decreases-loop-left
decreases-loop-left g l = l.left + 1 - 10
