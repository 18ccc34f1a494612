-- The remaining time at the edge of sixteen bits, in numbers: DECISIONS 8, "its tenths wrap at sixteen, as the source's
-- cast does".
use Rattle.std.specs.Prelude.{[], ◌∷◌, map, ◌≡◌}
use Rattle.remaining_time.specs.RemainingTime.{new_tenths}

-- 65,535 tenths is the most; a millisecond more is 65,536 of them, which is 0, and 100 ms more 1
abbrev pub TenthsWrap : Type 0
TenthsWrap =
    map new_tenths (0 ∷ 1 ∷ 100 ∷ 101 ∷ 3999 ∷ 6553500 ∷ 6553501 ∷ 6553600 ∷ 6553601 ∷ [])
    ≡ 0 ∷ 1 ∷ 1 ∷ 2 ∷ 40 ∷ 65535 ∷ 0 ∷ 0 ∷ 1 ∷ []
