-- *Never through*: if a band of hues (say green's) has no hue on the chosen arc, no hue shown from the start to done
-- lies in it. Said of the arc itself, and of the test that a console asks before it sends the fade.
use Rattle.std.specs.Prelude.{ℕ, false, List, ◌++◌, ◌≡◌}
use Rattle.arc.specs.declared.Band.{Band}
use Rattle.arc.specs.Arc.{OnArc, in_band, InRangeBand, passes_through}
use Rattle.lamp.specs.declared.Call.{Call}
use Rattle.schedule.specs.Schedule.{target, delta_from}
use Rattle.schedule.specs.Fades.{Fade, found, later, Premised}

-- no hue that the lamp shows, at the start and after each call that follows, is in the band
abbrev pub Avoids : Fade → Band → Type 0
Avoids e b = (ys zs : List Call) → e.calls ≡ ys ++ zs → in_band b (later e ys).color.hue ≡ false

-- every hue shown is on the arc
abbrev pub StaysOnArc : Type 0
StaysOnArc = (e : Fade) → Premised e → (ys zs : List Call) → e.calls ≡ ys ++ zs →
    OnArc (found e) (delta_from e.move (found e)) (later e ys).color.hue

-- the band has no hue on the chosen arc
abbrev pub NeverThrough : Type 0
NeverThrough =
    (e : Fade) → Premised e → (b : Band) →
    ((hue : ℕ) → OnArc (found e) (delta_from e.move (found e)) hue → in_band b hue ≡ false) → Avoids e b

-- the test says so
abbrev pub NeverThroughAsked : Type 0
NeverThroughAsked = (e : Fade) → Premised e → (b : Band) → InRangeBand b →
    passes_through (found e) (target e.move) e.move.direction b ≡ false → Avoids e b
