-- What the examples of fades are looked at by: what the lamp shows, how many steps it takes, and whether it waits as asked.
use Rattle.std.specs.Prelude.{ℕ, ◌+◌, Bool, List, [], ◌∷◌}
use Rattle.lamp.specs.declared.Lamp.{Lamp}
use Rattle.lamp.specs.declared.Call.{Call}
use Rattle.schedule.specs.Calls.{next, idle, steps, paced}
use Rattle.schedule.specs.Fades.{Fade, begun}

pub record Observation : Type 0 where
  pub hue : ℕ
  pub remaining : ℕ
  pub idle : Bool

abbrev pub observation : Lamp → Observation
observation l = record { hue = l.color.hue; remaining = l.remaining.tenths; idle = idle l }

abbrev pub seen : ℕ → ℕ → Bool → Observation
seen hue remaining idle = record { hue = hue; remaining = remaining; idle = idle }

-- at first, and after each call
unfoldable pub observations : Lamp → List Call → List Observation
observations l [] = observation l ∷ []
observations l (x ∷ xs) = observation l ∷ observations (next l x) xs

-- from the start on
abbrev pub shown : Fade → List Observation
shown e = observations (begun e).lamp e.calls

-- how many steps are accepted after the start
abbrev pub steps_taken : Fade → ℕ
steps_taken e = steps (begun e).lamp e.calls

-- whether each accepted step comes at or after the wait that its start or last accepted step asked
abbrev pub waits_kept : Fade → Bool
waits_kept e = paced (e.start + (begun e).wait) (begun e).lamp e.calls
