-- *Never through*, proved: the claim says how far the way travelled is, so that each hue shown is on the arc.
use Prim.Native.Nat.{ℕ, ◌≤◌, ◌<◌}
use mathlib.Core.Bool.{cond}
use lib.Dec.{leb-zero}
use lib.IntN.{ℤ, pos, negsuc, nat_abs}
use lib.Signed.{le_z}
use Rattle.hue.specs.Hue.{distance}
use Rattle.arc.specs.Arc.{OnArc}
use Rattle.arc.proofs.Laws.{arc-up, arc-down, none_inside}
use Rattle.schedule.specs.Schedule.{target, delta_from}
use Rattle.schedule.specs.Fades.{found, later}
use Rattle.consequences.specs.NeverThrough.{StaysOnArc, NeverThrough, NeverThroughAsked}
use Rattle.consequences.proofs.Kept.{kept, found-small, aim-small, shown-small}

-- a hue as far from the one found, on the side of the way's sign, as the way is long, or less, is on the arc
on-arc : (way : ℤ) (f hue : ℕ) → f < 65536 → hue < 65536 → cond (le_z (pos 0) way) (distance f hue) (distance hue f) ≤ nat_abs way → OnArc f way hue
on-arc (pos n) f hue hf h k = arc-up f n hue hf h (rw (leb-zero n) at k)
on-arc (negsuc n) f hue hf h k = arc-down f n hue hf h k

pub stays-on-arc : StaysOnArc
stays-on-arc e p ys zs split =
    on-arc (delta_from e.move (found e)) (found e) (later e ys).color.hue (found-small e p.others) (shown-small e p.others ys zs split)
    ((kept e p).everywhere ys zs split).arc

pub never-through : NeverThrough
never-through e p b outside ys zs split = outside (later e ys).color.hue (stays-on-arc e p ys zs split)

pub never-through-asked : NeverThroughAsked
never-through-asked e p b t asked =
    never-through e p b (none_inside (found e) (target e.move) b (found-small e p.others) (aim-small e p.others) t e.move.direction asked)
