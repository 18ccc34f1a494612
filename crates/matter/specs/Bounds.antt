-- Rules on the bounds of mireds: document 01, "Mired bounds".
use Rattle.std.specs.Prelude.{ℕ, Bool, ltb, min, max}
use Rattle.matter.specs.declared.limits.Bounds.{Bounds}

-- "physical minimum above maximum"
abbrev pub crossed : Bounds → Bool
crossed bounds = ltb bounds.max bounds.min

-- "lo is the larger minimum, hi the smaller maximum"
abbrev pub lower : Bounds → ℕ → ℕ
lower bounds asked = max asked bounds.min

abbrev pub upper : Bounds → ℕ → ℕ
upper bounds asked = min asked bounds.max
