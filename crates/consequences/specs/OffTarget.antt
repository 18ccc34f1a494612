-- "A delta is fixed when the command comes and added to the hue found at the start. If the hue moved in between, the
-- end is off the target by that much." Over every list of calls, under all premises of the claim but the one that the
-- hue is as the command found it. (That the task started is the one that the command gives is part (a) of the claim.)
use Rattle.std.specs.Prelude.{true, List, ◌++◌, ◌≡◌, ℤ, pos, ◌-ℤ◌}
use Rattle.hue.specs.Hue.{moved_hue}
use Rattle.lamp.specs.declared.Call.{Call}
use Rattle.schedule.specs.Calls.{idle}
use Rattle.schedule.specs.Schedule.{target}
use Rattle.schedule.specs.Fades.{Fade, found, ready, later, PremisedButHue}

-- by how much the hue moved in between: the hue that the start finds less the one that the command found
abbrev pub moved_between : Fade → ℤ
moved_between e = pos (ready e).color.hue -ℤ pos (found e)

-- once done, at the start or after the calls `ys` that follow it, the hue is the target plus that, wrapped
abbrev pub OffTarget : Type 0
OffTarget = (e : Fade) → PremisedButHue e → (ys zs : List Call) → e.calls ≡ ys ++ zs → idle (later e ys) ≡ true →
    (later e ys).color.hue ≡ moved_hue (target e.move) (moved_between e)
