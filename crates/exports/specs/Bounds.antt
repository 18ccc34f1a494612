-- Physical bounds in two words, the minimum first: where a lamp has them, and where a call sets them.
use Rattle.std.specs.Prelude.{ℕ, ◌+◌, Bool, ◌&&◌, List, leb}
use Rattle.matter.specs.declared.limits.Bounds.{Bounds}
use Rattle.exports.specs.Words.{at, short}

-- the two words from the first one on
abbrev pub bounds_of : List ℕ → ℕ → Bounds
bounds_of w first = record { min = short (at w first); max = short (at w (first + 1)) }

-- both are within their field
unfoldable pub bounds_fit : List ℕ → ℕ → Bool
bounds_fit w first = leb (at w first) 65535 && leb (at w (first + 1)) 65535
