-- The claim, of a fade with named parts; and that its hues fit their width.
use Prim.Native.Nat.{◌<◌}
use mathlib.Core.Bool.{true}
use mathlib.Core.List.{List, ◌++◌}
use mathlib.Core.Path.{◌≡◌, refl}
use Rattle.lamp.specs.declared.Lamp.{Lamp}
use Rattle.lamp.specs.Valid.{lamp_valid}
use Rattle.lamp.specs.declared.Call.{Call}
use Rattle.lamp.specs.InRange.{InRangeLamp, InRangeCall}
use Rattle.commands.proofs.Kept.{valid-kept, in-range-kept}
use Rattle.schedule.specs.Calls.{next, after, InRangeCalls}
use Rattle.schedule.specs.Schedule.{target}
use Rattle.schedule.specs.Claim.{fed, KeptFade}
use Rattle.schedule.specs.Fades.{Fade, finds, found, ready, begun, later, PremisedButHue, Premised}
use Rattle.schedule.proofs.Lists.{in-range-split, valid-after, in-range-after}
use Rattle.schedule.proofs.Keeps.{target_small, keeps-schedule}

-- a valid lamp in range
record Good (l : Lamp) : Type 0 where
  valid : lamp_valid l ≡ true
  in_range : InRangeLamp l

good-after : (l : Lamp) (xs : List Call) → InRangeCalls xs → Good l → Good (after l xs)
good-after l xs t g = record { valid = valid-after l xs g.valid; in_range = in-range-after l xs g.valid g.in_range t }

good-next : (l : Lamp) (x : Call) → InRangeCall x → Good l → Good (next l x)
good-next l x t g = record { valid = valid-kept l x g.valid; in_range = in-range-kept l x g.valid g.in_range t }

-- the fade keeps its schedule
pub kept : (e : Fade) → Premised e → KeptFade (begun e) (fed e.move (finds e) e.start) e.calls
kept e p =
    let q = p.others in
    (keeps-schedule e.lamp _ q.valid q.in_range_lamp q.in_range_calls e.before _ e.move e.on_off e.clock refl q.accepted q.may_execute
    ).fades e.between e.calls e.start refl (record { accepted = q.started; hue = p.hue; undisturbed = q.undisturbed })

module _ (e : Fade) (p : PremisedButHue e) where
  -- the hue that the command found, its target, and each hue shown are hues
  pub found-small : found e < 65536
  found-small = let t = in-range-split e.before _ p.in_range_calls in
      (good-after e.lamp e.before t.0 (record { valid = p.valid; in_range = p.in_range_lamp })).in_range.hue

  pub aim-small : target e.move < 65536
  aim-small = target_small e.move (in-range-split e.before _ p.in_range_calls).1.0.0

  pub shown-small : (ys zs : List Call) → e.calls ≡ ys ++ zs → (later e ys).color.hue < 65536
  shown-small ys zs split =
      let t = in-range-split e.before _ p.in_range_calls in
      let u = in-range-split e.between _ t.1.1 in
      let v = in-range-split ys zs (rw split at u.1.1) in
      let g = good-after e.lamp e.before t.0 (record { valid = p.valid; in_range = p.in_range_lamp }) in
      let h = good-after _ e.between u.0 (good-next (finds e) _ t.1.0 g) in
      (good-after _ ys v.0 (good-next (ready e) _ u.1.0 h)).in_range.hue
