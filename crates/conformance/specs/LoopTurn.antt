-- One turn of the colour loop in its time: Matter Application Cluster Specification, Color Control, the attributes
-- ColorLoopTime, ColorLoopDirection. Written from that text as known, what stands in quotes too: no copy was at hand.
-- "the number of seconds it SHALL take to perform a full color loop, i.e., to cycle all values of the
-- EnhancedCurrentHue attribute". That it goes at one speed, and that a full loop is the whole circle, is our reading.
use Rattle.std.specs.Prelude.{ℕ, ◌*◌, ◌/◌}

-- how many places of the circle are behind, so many milliseconds after the start
abbrev pub turned : ℕ → ℕ → ℕ
turned elapsed seconds = 65536 * elapsed / (seconds * 1000)
