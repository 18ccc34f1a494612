-- Hues on their circle: document 01, leaf 1, "The arithmetic of a step" and the shown hue.
-- A hue is a number below 65,536; sums of hues and ways are over the integers, modulo 65,536.
use Rattle.std.specs.Prelude.{ℕ, ◌-◌, ◌/◌, ◌%◌, min, Bool, false, cond, ◌&&◌}
use Rattle.std.specs.Prelude.{ℤ, pos, negsuc, ◌+ℤ◌, ◌-ℤ◌, neg_ℤ, ◌==◌, nat_le, nat_lt}
use Rattle.matter.specs.declared.enums.DirectionEnum.{DirectionEnum}
use Rattle.matter.specs.Limits.{hue_limit}
use Rattle.hue.specs.declared.HuePath.{HuePath}

-- an integer modulo 65,536: the one of 0 to 65,535 that differs from it by whole turns
abbrev pub modulo : ℤ → ℕ
modulo (pos n) = n % 65536
modulo (negsuc n) = 65535 - n % 65536

-- how far up it is from one hue to another. "Up is (target − current) modulo 65,536, down is (current − target)
-- modulo 65,536", so the distance down from current to target is the distance up from target to current
unfoldable pub distance : ℕ → ℕ → ℕ
distance from to = modulo (pos to -ℤ pos from)

-- "Up gives +up, Down −down; Shortest +up if up ≤ down, else −down; Longest +up if up > down, else −down"
abbrev pub chosen : DirectionEnum → ℕ → ℕ → ℤ
chosen DirectionEnum.Up up down = pos up
chosen DirectionEnum.Down up down = neg_ℤ (pos down)
chosen DirectionEnum.Shortest up down = cond (nat_le up down) (pos up) (neg_ℤ (pos down))
chosen DirectionEnum.Longest up down = cond (nat_lt down up) (pos up) (neg_ℤ (pos down))

-- the delta from current to target
unfoldable pub path_delta : ℕ → ℕ → DirectionEnum → ℤ
path_delta current target direction = chosen direction (distance current target) (distance target current)

-- document 02, A.6: "The distance answer gains a mark, set exactly when Shortest or Longest was asked and both
-- distances are 32,768"
abbrev pub both_half : ℕ → ℕ → Bool
both_half up down = up == 32768 && down == 32768

abbrev pub tied : DirectionEnum → ℕ → ℕ → Bool
tied DirectionEnum.Up up down = false
tied DirectionEnum.Down up down = false
tied DirectionEnum.Shortest up down = both_half up down
tied DirectionEnum.Longest up down = both_half up down

unfoldable pub is_tie : ℕ → ℕ → DirectionEnum → Bool
is_tie current target direction = tied direction (distance current target) (distance target current)

-- leaf 1's answer
abbrev pub hue_path : ℕ → ℕ → DirectionEnum → HuePath
hue_path current target direction =
    record { delta = path_delta current target direction; is_tie = is_tie current target direction }

-- "The hue is the start plus the part, and wraps past 65,535 to 0 on purpose"
unfoldable pub moved_hue : ℕ → ℤ → ℕ
moved_hue start part = modulo (pos start +ℤ part)

-- "the one-byte shown hue, the stored one divided by 256, rounded down"; CurrentHue ends at 254, so document 02, A.4:
-- "a stored hue of 65,280 or above is shown as 254"
abbrev pub current_hue : ℕ → ℕ
current_hue hue = min hue_limit (hue / 256)
