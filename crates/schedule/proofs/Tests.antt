-- What a test gives: anything, where it is both, and a positive number, where that is not 0.
use Prim.Native.Nat.{ℕ, ◌<◌}
use mathlib.Core.Bool.{Bool, true, false, true≢false}
use mathlib.Core.Path.{◌≡◌, sym, ◌∙◌}
use native.Mathlib.Omega.{arith}
use lib.Dec.{eqb}
use borrow.Author.Tests.{eqb-false}

pub never : {A : Type 0} {b : Bool} → b ≡ true → b ≡ false → A
never t f = absurd (true≢false (sym t ∙ f))

pub positive : (n : ℕ) → eqb n 0 ≡ false → 0 < n
positive n e = omega (arith, eqb-false n 0 e)
