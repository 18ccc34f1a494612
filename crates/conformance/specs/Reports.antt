-- How RemainingTime and the colour attributes are reported: Matter Application Cluster Specification, Color Control,
-- the attributes RemainingTime, CurrentHue, CurrentSaturation, EnhancedCurrentHue, ColorTemperatureMireds, ColorMode,
-- EnhancedColorMode. Written from that text as known, what stands in quotes too: no copy was at hand.
use Rattle.std.specs.Prelude.{ℕ, ◌+◌, ◌*◌, ◌≤◌, ◌<◌, Bool, true, false, ◌||◌, List, [], ◌∷◌, eqb}

-- RemainingTime: "the time remaining, in 1/10ths of a second, until transitions due to the currently active command
-- will be complete". The text does not say how to round: here, the fewest tenths that are no shorter
pub record RemainingTimeIs (milliseconds tenths : ℕ) : Type 0 where
  pub enough : milliseconds ≤ tenths * 100
  pub fewest : (n : ℕ) → milliseconds ≤ n * 100 → tenths ≤ n

-- "Changes to this attribute SHALL only be marked as reportable in the following cases": from one number to another,
-- with whether the invoke of a command caused it
pub data Reportable : ℕ → ℕ → Bool → Type 0 where
  -- "When it changes from 0 to any value higher than 10"
  from_zero : (new : ℕ) (invoked : Bool) → 10 < new → Reportable 0 new invoked
  -- "When it changes, with a delta larger than 10, caused by the invoke of a command"
  risen : (old new : ℕ) → old + 10 < new → Reportable old new true
  fallen : (old new : ℕ) → new + 10 < old → Reportable old new true
  -- "When it changes to 0"
  to_zero : (old : ℕ) (invoked : Bool) → 0 < old → Reportable old 0 invoked

-- "For commands with a transition time or changes to the transition time less than 1 second, changes to this attribute
-- SHALL NOT be reported"
abbrev pub hushed : ℕ → Type 0
hushed time = time < 10

-- CurrentHue, CurrentSaturation, EnhancedCurrentHue, ColorTemperatureMireds: "Changes to this attribute SHALL only be
-- marked as reportable in the following cases"
pub data MayReport : ℕ → ℕ → Bool → Type 0 where
  -- "At most once per second"
  once_a_second : (last now : ℕ) (end : Bool) → last + 1000 ≤ now → MayReport last now end
  -- "At the end of the movement/transition"
  at_the_end : (last now : ℕ) → MayReport last now true

-- whether a list of notices has one
abbrev pub reports : ℕ → List ℕ → Bool
reports notice [] = false
reports notice (x ∷ xs) = eqb notice x || reports notice xs
