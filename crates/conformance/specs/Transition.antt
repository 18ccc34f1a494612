-- A transition from here to there in this time: Matter Application Cluster Specification, Color Control, "Effect on
-- receipt" of MoveToHue, MoveToSaturation, MoveToColorTemperature and the others with a TransitionTime. Written from
-- that text as known, what stands in quotes too: no copy was at hand. "The movement SHALL be continuous, i.e., not a
-- step function, and the time taken to move to the new [..] SHALL be equal to the TransitionTime field". That it goes
-- at one speed is our reading.
use Rattle.std.specs.Prelude.{ℕ, ◌+◌, ◌-◌, ◌*◌, ◌/◌, cond, leb}
use Rattle.conformance.specs.Limits.{away}

-- "in 1/10ths of a second"
abbrev pub tenth : ℕ
tenth = 100

abbrev pub milliseconds : ℕ → ℕ
milliseconds transition_time = transition_time * tenth

-- how much of a way of this size is behind, in whole units, so long after the start: that share of it which the time
-- elapsed is of the time, and from then on all of it
unfoldable pub travelled : ℕ → ℕ → ℕ → ℕ
travelled size elapsed time = cond (leb time elapsed) size (size * elapsed / time)

-- a saturation or a number of mireds on its way: up from the first number or down from it, as the second lies, by so
-- many units
abbrev pub on_line : ℕ → ℕ → ℕ → ℕ
on_line from to units = cond (leb from to) (from + units) (from - units)

-- and so long after the start
abbrev pub line_at : ℕ → ℕ → ℕ → ℕ → ℕ
line_at from to elapsed time = on_line from to (travelled (away from to) elapsed time)
