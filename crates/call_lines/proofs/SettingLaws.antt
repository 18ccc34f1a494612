-- What a setter's change reports, as the code builds it, is the list: its numbers are bytes, and it has room.
use Rattle.std.specs.Prelude.{Option}
use Prim.Native.Nat.{ℕ}
use native.Mathlib.Omega.{arith}
use mathlib.Core.Bool.{Bool}
use mathlib.Core.Path.{◌≡◌}
use Rattle.notices.specs.Names.{EnhancedCurrentHue}
use Rattle.notices.specs.Notices.{noted}
use Rattle.notices.specs.Numerals.{empty, in_front, placed}
use Rattle.notices.proofs.Laws.{only_one}
use Rattle.notices.proofs.Numerals.{placed-noted}
use Rattle.color.specs.declared.Color.{Color}
use Rattle.color.specs.declared.Change.{Change}
use Rattle.color.specs.Setters.{change_reported}
use Rattle.color.proofs.Kept.{change-few, enhanced_change}
use Rattle.color.proofs.Laws.{attribute-byte, change-below}
use Rattle.call_lines.specs.declared.setters.NewValue.{NewValue}
use Rattle.call_lines.specs.Setters.{color_set}

change-placed : (change : Option Change) (active : Bool)
    → placed (in_front (change_reported change active) empty) ≡ noted (change_reported change active)
change-placed change active =
    placed-noted (change_reported change active) (change-below 256 (omega arith) change active (attribute-byte change))
    (omega (arith, change-few change active, only_one (enhanced_change change) EnhancedCurrentHue))

pub setting-placed : (c : Color) (value : NewValue) (end : Bool) (clock : ℕ) (active : Bool)
    → placed (in_front (change_reported (color_set c value end clock).change active) empty) ≡ noted (change_reported (color_set c value end clock).change active)
setting-placed c value end clock active = change-placed (color_set c value end clock).change active
