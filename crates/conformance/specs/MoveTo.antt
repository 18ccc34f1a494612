-- What MoveToHue and EnhancedMoveToHue ask for: Matter Application Cluster Specification, Color Control, "Effect on
-- receipt" of both. Written from that text as known, what stands in quotes too: no copy was at hand.
use Rattle.std.specs.Prelude.{ℕ, ◌≡◌, ℤ}
use Rattle.matter.specs.declared.enums.DirectionEnum.{DirectionEnum}
use Rattle.conformance.specs.Directions.{Goes}
use Rattle.conformance.specs.Transition.{milliseconds}

-- "SHALL move from its current hue to the value given in the Hue field", in the way "given by the Direction field", and
-- "the time taken to move to the new hue SHALL be equal to the TransitionTime field": a way and a time that do so
pub record MovesToHue (circle from to : ℕ) (direction : DirectionEnum) (transition_time : ℕ) (way : ℤ)
    (time : ℕ) : Type 0 where
  pub goes : Goes circle direction from to way
  pub takes : time ≡ milliseconds transition_time
