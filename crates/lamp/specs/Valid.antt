-- When a lamp is valid: document 01, "Lamp out of form".
use Rattle.std.specs.Prelude.{Bool, [], ◌∷◌, leb}
use Rattle.matter.specs.All.{all_true}
use Rattle.matter.specs.Limits.{clock_limit}
use Rattle.color.specs.Valid.{color_valid}
use Rattle.tasks.specs.Valid.{running_valid}
use Rattle.lamp.specs.declared.Lamp.{Lamp}

unfoldable pub lamp_valid : Lamp → Bool
lamp_valid l =
    all_true
    ( -- "clock above the limit"
    leb l.clock clock_limit
    -- saturation, mireds, bounds, modes, notice stamps
    ∷ color_valid l.color l.bounds l.clock
    -- the running record
    ∷ running_valid l.running l.bounds l.clock
    ∷ [])
