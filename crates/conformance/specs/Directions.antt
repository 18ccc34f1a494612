-- Which way round: Matter Application Cluster Specification, Color Control, MoveToHue and EnhancedMoveToHue, field
-- Direction and "Effect on receipt"; DirectionEnum. Written from that text as known, what stands in quotes too: no copy
-- was at hand. A hue is one of the places of a circle, numbered upward from 0; a way is a number of places, positive
-- upward.
use Rattle.std.specs.Prelude.{ℕ, suc, ◌+◌, ◌%◌, ◌≤◌, ◌⊎◌, ◌≡◌, ℤ, pos, negsuc, neg_ℤ, nat_abs}
use Rattle.matter.specs.declared.enums.DirectionEnum.{DirectionEnum}

-- the circle of EnhancedCurrentHue: sixteen bits
abbrev pub enhanced_circle : ℕ
enhanced_circle = 65536

-- the circle of CurrentHue: "Hue = CurrentHue × 360 / 254", so that 254 is 360 degrees, where 0 is
abbrev pub plain_circle : ℕ
plain_circle = 254

-- a way leads from one hue to another: so many places above the one is the other
abbrev pub Leads : ℕ → ℕ → ℕ → ℤ → Type 0
Leads circle from to (pos n) = (from + n) % circle ≡ to
Leads circle from to (negsuc n) = (to + suc n) % circle ≡ from

-- "Up": the hue increases till it first is the new one
pub record GoesUp (circle from to : ℕ) (way : ℤ) : Type 0 where
  pub size : ℕ
  pub up : way ≡ pos size
  pub there : (from + size) % circle ≡ to
  pub first : (n : ℕ) → (from + n) % circle ≡ to → size ≤ n

-- "Down": the hue decreases till it first is the new one
pub record GoesDown (circle from to : ℕ) (way : ℤ) : Type 0 where
  pub size : ℕ
  pub down : way ≡ neg_ℤ (pos size)
  pub there : (to + size) % circle ≡ from
  pub first : (n : ℕ) → (to + n) % circle ≡ from → size ≤ n

-- "the new hue may be moved to in either direction"
abbrev pub Either : ℕ → ℕ → ℕ → ℤ → Type 0
Either circle from to way = GoesUp circle from to way ⊎ GoesDown circle from to way

-- "Shortest": "the direction is taken that involves the shortest path round the circle": no way that leads there is
-- shorter
pub record GoesShortest (circle from to : ℕ) (way : ℤ) : Type 0 where
  pub leads : Leads circle from to way
  pub least : (other : ℤ) → Leads circle from to other → nat_abs way ≤ nat_abs other

-- "Longest": "the direction is taken that involves the longest path round the circle": of up and down, none is longer
pub record GoesLongest (circle from to : ℕ) (way : ℤ) : Type 0 where
  pub direct : Either circle from to way
  pub most : (other : ℤ) → Either circle from to other → nat_abs other ≤ nat_abs way

-- what the Direction field asks for, but for the tie
abbrev pub Goes : ℕ → DirectionEnum → ℕ → ℕ → ℤ → Type 0
Goes circle DirectionEnum.Shortest from to way = GoesShortest circle from to way
Goes circle DirectionEnum.Longest from to way = GoesLongest circle from to way
Goes circle DirectionEnum.Up from to way = GoesUp circle from to way
Goes circle DirectionEnum.Down from to way = GoesDown circle from to way

-- the tie of Shortest and Longest: "In both cases, if both distances are the same, the Up direction SHALL be taken".
-- This sentence is kept apart from the rest: without it both ways are good
abbrev pub TieGoesUp : ℕ → ℕ → ℕ → ℤ → Type 0
TieGoesUp circle from to way =
    (n : ℕ) → GoesUp circle from to (pos n) → GoesDown circle from to (neg_ℤ (pos n)) → way ≡ pos n
