-- The arc of a fade, bands of hues, and the test whether they meet: document 01, "Arc". Hues are stored ones.
use Rattle.std.specs.Prelude.{ℕ, ◌+◌, ◌*◌, ◌≤◌, min, Bool, true, cond, ◌&&◌, ◌||◌, ◌≡◌, leb, ltb}
use Rattle.std.specs.Prelude.{ℤ, pos, negsuc, neg_ℤ, nat_abs}
use Rattle.std.specs.Int.Signed.{le_z}
use Rattle.matter.specs.declared.enums.DirectionEnum.{DirectionEnum}
use Rattle.matter.specs.InRange.{Short}
use Rattle.matter.specs.Limits.{hue_limit}
use Rattle.hue.specs.Hue.{distance, path_delta, moved_hue}
use Rattle.arc.specs.declared.Band.{Band}

-- ---- what is asked

-- so much of a way: with its sign
abbrev pub toward : ℤ → ℕ → ℤ
toward (pos n) size = pos size
toward (negsuc n) size = neg_ℤ (pos size)

-- "Arc: the hue found plus 0 to the way, wrapped"
pub record OnArc (found : ℕ) (way : ℤ) (hue : ℕ) : Type 0 where
  pub size : ℕ
  pub within : size ≤ nat_abs way
  pub reached : moved_hue found (toward way size) ≡ hue

-- the hues from `low` up to `high`, both among them, past 65,535 to 0 where `high` is below `low`
unfoldable pub in_band : Band → ℕ → Bool
in_band b hue =
    cond (leb b.low b.high) (leb b.low hue && leb hue b.high) (leb b.low hue || leb hue b.high)

pub record InRangeBand (b : Band) : Type 0 where
  pub low : Short b.low
  pub high : Short b.high

-- a hue of the band on the arc
pub record Passed (found : ℕ) (way : ℤ) (b : Band) : Type 0 where
  pub hue : ℕ
  pub on_arc : OnArc found way hue
  pub inside : in_band b hue ≡ true

-- ---- the test

-- two runs of hues, each upward, have one in common: the first of one is in the other
unfoldable pub meet : ℕ → ℕ → ℕ → ℕ → Bool
meet from to low high = leb (distance from low) (distance from to) || leb (distance low from) (distance low high)

-- a way up is the run from the hue found up to the target, a way down the run from the target up to the hue found
unfoldable pub passes_through : ℕ → ℕ → DirectionEnum → Band → Bool
passes_through found target direction b =
    cond (le_z (pos 0) (path_delta found target direction)) (meet found target b.low b.high)
    (meet target found b.low b.high)

-- ---- a band by CurrentHue

-- the first and the last stored hue of a CurrentHue; 254 is the last CurrentHue (document 02, A.4), and what is above
-- it is taken as 254
abbrev pub first_stored : ℕ → ℕ
first_stored current_hue = min hue_limit current_hue * 256

abbrev pub last_stored : ℕ → ℕ
last_stored current_hue = cond (ltb current_hue hue_limit) (current_hue * 256 + 255) 65535

-- every stored hue whose CurrentHue is one of `low` to `high`, an end above 254 taken as 254
abbrev pub current_hue_band : ℕ → ℕ → Band
current_hue_band low high = record { low = first_stored low; high = last_stored high }
