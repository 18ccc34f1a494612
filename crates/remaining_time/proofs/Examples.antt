-- The examples, by computation.
use mathlib.Core.Path.{refl}
use Rattle.remaining_time.specs.Examples.{TenthsWrap}

pub tenths-wrap : TenthsWrap
tenths-wrap = refl
