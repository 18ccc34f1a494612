-- CurrentHue and EnhancedCurrentHue: Matter Application Cluster Specification, Color Control, the attributes of these
-- names. Written from that text as known, what stands in quotes too: no copy was at hand.
use Rattle.std.specs.Prelude.{ℕ, suc, ◌*◌, ◌≤◌, ◌<◌, ◌≡◌}

-- "The upper 8 bits of this attribute SHALL be used as an index": the number of whole 256s in it
pub record UpperByte (enhanced upper : ℕ) : Type 0 where
  pub enough : upper * 256 ≤ enhanced
  pub whole : enhanced < suc upper * 256

-- "the CurrentHue attribute SHALL contain a hue value in the range 0 to 254, calculated from the EnhancedCurrentHue
-- attribute": its upper byte. What it is where that is 255 the text does not say: read as 254, the end of the range
pub record CurrentHueOf (enhanced hue : ℕ) : Type 0 where
  pub range : hue ≤ 254
  pub upper : hue < 254 → UpperByte enhanced hue
  pub last : hue ≡ 254 → 254 * 256 ≤ enhanced
