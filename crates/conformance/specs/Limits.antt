-- The bounds of the mireds: Matter Application Cluster Specification, Color Control, fields
-- ColorTemperatureMinimumMireds and ColorTemperatureMaximumMireds of MoveColorTemperature and StepColorTemperature;
-- "Generic usage notes". Written from that text as known, what stands in quotes too: no copy was at hand.
use Rattle.std.specs.Prelude.{ℕ, ◌+◌, ◌-◌, ◌≤◌, ◌≡◌}
use Rattle.matter.specs.declared.limits.Bounds.{Bounds}

-- "ColorTempPhysicalMinMireds ≤ ColorTemperatureMinimumMireds field ≤ ColorTemperatureMireds", and so for the maximum;
-- "If the field is set to 0, ColorTempPhysicalMinMireds [ColorTempPhysicalMaxMireds] SHALL be used": which mireds a
-- move or a step may reach
pub record Allowed (bounds : Bounds) (minimum maximum mireds : ℕ) : Type 0 where
  pub physical_minimum : bounds.min ≤ mireds
  pub physical_maximum : mireds ≤ bounds.max
  pub field_minimum : (minimum ≡ 0 → ⊥) → minimum ≤ mireds
  pub field_maximum : (maximum ≡ 0 → ⊥) → mireds ≤ maximum

-- by how much two numbers differ
abbrev pub away : ℕ → ℕ → ℕ
away a b = (a - b) + (b - a)

-- "the implementation SHALL select a color, within the limits of the hardware of the device, which is as close as
-- possible to that requested"
pub record Closest (least most requested selected : ℕ) : Type 0 where
  pub low : least ≤ selected
  pub high : selected ≤ most
  pub near : (other : ℕ) → least ≤ other → other ≤ most → away selected requested ≤ away other requested
