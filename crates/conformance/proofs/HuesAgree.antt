-- The port's CurrentHue is the text's, for every stored hue.
use Prim.Native.Nat.{ℕ, ◌≤◌, ◌<◌}
use mathlib.Core.Path.{◌≡◌}
use native.Mathlib.Omega.{arith}
use mathlib.Core.Logic.{⊎_elim}
use Rattle.std.proofs.lemmas.Bool.{cases_lt}
use Rattle.hue.specs.Hue.{current_hue}
use Rattle.commands.specs.Commands.{stored}
use Rattle.conformance.specs.Hues.{UpperByte, CurrentHueOf}

pub current-agrees : (hue : ℕ) → CurrentHueOf hue (current_hue hue)
current-agrees hue =
    record {
      range = omega arith;
      upper = λ h. record { enough = omega arith; whole = omega arith };
      last = λ e. omega arith;
    }

-- there is no other
pub current-only : (hue n : ℕ) → CurrentHueOf hue n → n ≡ current_hue hue
current-only hue n c =
    ⊎_elim (λ l. omega (arith, (c.upper l).enough, (c.upper l).whole)) (λ l. omega (arith, c.last)) (cases_lt n 254)

-- the upper byte itself wherever the range has it
pub current-upper : (hue : ℕ) → hue < 65280 → UpperByte hue (current_hue hue)
current-upper hue h = record { enough = omega arith; whole = omega arith }

-- a plain hue that is moved to is CurrentHue then
pub plain-is-current : (hue : ℕ) → hue ≤ 254 → current_hue (stored hue) ≡ hue
plain-is-current hue h = omega arith
