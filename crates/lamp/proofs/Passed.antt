-- What the first pass of a move-to finds, and what a pass reports: its parts, one in front of the other, are the list, which has
-- room.
use Prim.Native.Nat.{ℕ, ◌+◌, ◌≤◌, ◌<◌}
use mathlib.Core.Bool.{Bool}
use mathlib.Core.List.{List, ◌++◌}
use mathlib.Core.Path.{◌≡◌, ap, ◌∙◌}
use native.Mathlib.Omega.{arith}
use Rattle.std.specs.Prelude.{Option, Some, None}
use lib.ListN.{length, length-append}
use Rattle.notices.specs.Names.{RemainingTime, EnhancedCurrentHue, notice_number}
use Rattle.notices.specs.declared.Notice.{Notice}
use Rattle.notices.specs.Notices.{only, noted}
use Rattle.notices.proofs.Laws.{only_one}
use Rattle.notices.specs.Numerals.{empty, in_front, placed}
use Rattle.notices.proofs.Numerals.{Below, Bytes, none, more, below-append, below-only, in-front-append, placed-noted}
use Rattle.color.specs.Setters.{change_reported}
use Rattle.color.proofs.Kept.{change-few, enhanced_change}
use Rattle.color.proofs.Laws.{AttributeBelow, notice-small, change-below}
use Rattle.lamp.specs.declared.passes.Passed.{Passed}
use Rattle.lamp.specs.declared.Lamp.{Lamp}
use Rattle.lamp.specs.Calls.{full_written}
use Rattle.lamp.specs.Passes.{changed, device_reported, reported_behind, pass_reported}

-- the lamp as the first pass of a move-to finds it: with the full time written
abbrev pub with_full_time : Lamp → ℕ → Lamp
with_full_time l ms = changed l l.color l.running (full_written l ms).remaining

-- its parts, one in front of the other
pub behind-in-front : (second device time : List ℕ) →
    in_front second (in_front device (in_front time empty)) ≡ in_front (second ++ device ++ time) empty
behind-in-front second device time = rw (in-front-append second device, in-front-append (second ++ device) time)

-- a device that is written is one notice
device-one : (device : Option Notice) → length (device_reported device) ≤ 1
device-one None = omega arith
device-one (Some device) = omega arith

-- one whose number is below a bound, where there is one
abbrev pub DeviceBelow : ℕ → Option Notice → Type 0
DeviceBelow bound None = Unit
DeviceBelow bound (Some device) = notice_number device < bound

pub device-byte : (device : Option Notice) → DeviceBelow 256 device
device-byte None = tt
device-byte (Some device) = omega (arith, notice-small device)

device-below : (bound : ℕ) (device : Option Notice) → DeviceBelow bound device → Below bound (device_reported device)
device-below bound None h = none
device-below bound (Some device) h = more h none

-- a pass reports at most 13 notices, and one more where its second change is of an enhanced hue
pub pass-few : (p : Passed) (active : Bool) → length (pass_reported p active) ≤ 13 + length (only (enhanced_change p.second) EnhancedCurrentHue)
pass-few p active =
    simp length-append
    (omega
    (arith, change-few p.first active, only_one (enhanced_change p.first) EnhancedCurrentHue, change-few p.second active, device-one p.device, only_one p.time RemainingTime))

-- which are below every bound that is above 14, its attributes and its device
pub pass_below : (bound : ℕ) → 14 < bound → (p : Passed) (active : Bool) → AttributeBelow bound p.first → AttributeBelow bound p.second
    → DeviceBelow bound p.device → Below bound (pass_reported p active)
pass_below bound high p active h k d =
    below-append (change-below bound high p.first active h)
    (below-append
    (below-append (change-below bound high p.second active k) (device-below bound p.device d))
    (below-only p.time RemainingTime (omega arith)))

-- the list of a start or a step, with the full time in front where it is reported
pub left-placed : (p : Passed) (active : Bool) → Bytes (pass_reported p active) → (full : Bool) →
    placed (in_front (only full RemainingTime) (in_front (change_reported p.first active) (in_front (reported_behind p active) empty)))
    ≡ noted (only full RemainingTime ++ pass_reported p active)
left-placed p active b full =
    ap (λ m. placed (in_front (only full RemainingTime) m)) (in-front-append (change_reported p.first active) (reported_behind p active) empty)
    ∙ ap placed (in-front-append (only full RemainingTime) (pass_reported p active) empty)
    ∙ placed-noted (only full RemainingTime ++ pass_reported p active)
    (below-append (below-only full RemainingTime (omega arith)) b)
    (rw length-append
    (omega (arith, only_one full RemainingTime, pass-few p active, only_one (enhanced_change p.second) EnhancedCurrentHue)))
