-- `loop_turn`: by the cases of the definition, which the code's tests tell apart. The quotient is at most 2 ^ 56.
use Rattle.std.proofs.Common.{◌*◌, ◌/◌, arith}
use mathlib.Core.Logic.{inl, inr}
use Rattle.progress.specs.Progress.{loop_turn}
use Rattle.progress.proofs.Laws.{snapped-above, snapped-below, snapped-kept}
use Rattle.progress.proofs.loop_turn.Goals as goal

pub returns-then-rem-ge65152 : goal.returns-then-rem-ge65152
unfolding loop_turn
returns-then-rem-ge65152 c =
    let raw = 65536 * c.within_limit-e.result / c.loop_ms.result in
    rw (← c.within_limit-e.ensures, ← c.loop_ms.ensures) (omega (arith, snapped-above raw (omega arith)))

pub returns-then-raw-lt65536 : goal.returns-then-raw-lt65536
unfolding loop_turn
returns-then-raw-lt65536 c =
    let raw = 65536 * c.within_limit-e.result / c.loop_ms.result in
    rw (← c.within_limit-e.ensures, ← c.loop_ms.ensures) (omega (arith, snapped-kept raw (omega arith) (inr (omega arith))))

pub returns-then-rem-le384 : goal.returns-then-rem-le384
unfolding loop_turn
returns-then-rem-le384 c =
    let raw = 65536 * c.within_limit-e.result / c.loop_ms.result in
    rw (← c.within_limit-e.ensures, ← c.loop_ms.ensures) (omega (arith, snapped-below raw (omega arith) (omega arith)))

pub returns : goal.returns
unfolding loop_turn
returns c =
    let raw = 65536 * c.within_limit-e.result / c.loop_ms.result in
    rw (← c.within_limit-e.ensures, ← c.loop_ms.ensures) (omega (arith, snapped-kept raw (omega arith) (inl (omega arith))))
