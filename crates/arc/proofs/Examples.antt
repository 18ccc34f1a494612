-- The test asked of some fades, by computation.
use Prim.Native.Nat.{ℕ}
use mathlib.Core.Bool.{Bool, true, false}
use mathlib.Core.List.{List, [], ◌∷◌, map}
use mathlib.Core.Path.{◌≡◌, refl}
use Rattle.matter.specs.declared.enums.DirectionEnum.{DirectionEnum}
use Rattle.hue.specs.Hue.{distance, path_delta}
use Rattle.arc.specs.declared.Band.{Band}
use Rattle.arc.specs.Arc.{in_band, meet, passes_through, current_hue_band}

-- green: CurrentHue 64 to 106, stored 16,384 to 27,391
abbrev pub green : Band
green = current_hue_band 64 106

-- red: CurrentHue 240 to 254 and 0 to 15
abbrev pub red : Band
red = current_hue_band 240 15

-- A.4: the hues whose CurrentHue is 254 are those from 65,024 on, and one below it ends where it did
pub last-two : (current_hue_band 254 254 ≡ record { low = 65024; high = 65535 }) × (current_hue_band 253 253 ≡ record { low = 64768; high = 65023 })
last-two = (refl, refl)

-- an end of 255 is 254: 255 up to 254, which names every hue on a circle of 256, is 254 alone
pub never-shown : (current_hue_band 255 255 ≡ current_hue_band 254 254) × (current_hue_band 253 255 ≡ record { low = 64768; high = 65535 }) × (current_hue_band 255 0 ≡ record { low = 65024; high = 255 }) × (current_hue_band 255 254 ≡ current_hue_band 254 254)
never-shown = (refl, refl, refl, refl)

-- a band has its ends, and may go past 0
pub in-green : map (in_band green) (16383 ∷ 16384 ∷ 27391 ∷ 27392 ∷ []) ≡ false ∷ true ∷ true ∷ false ∷ []
unfolding in_band
in-green = refl

pub in-red : map (in_band red) (61439 ∷ 61440 ∷ 65535 ∷ 0 ∷ 4095 ∷ 4096 ∷ []) ≡ false ∷ true ∷ true ∷ true ∷ true ∷ false ∷ []
unfolding in_band
in-red = refl

-- the answers for Shortest, Longest, Up and Down
abbrev pub asked : ℕ → ℕ → Band → List Bool
asked found target b =
    map (λ (d : DirectionEnum). passes_through found target d b)
    (DirectionEnum.Shortest ∷ DirectionEnum.Longest ∷ DirectionEnum.Up ∷ DirectionEnum.Down ∷ [])

-- from red to cyan, half way round: up, and with Shortest, through green; down, and with Longest, not
pub red-to-cyan : asked 0 32768 green ≡ true ∷ false ∷ true ∷ false ∷ []
unfolding passes_through meet path_delta distance
red-to-cyan = refl

-- from blue to orange, the band of red past 0: up through red, down through green
pub blue-to-orange : (asked 43520 5376 red ≡ true ∷ false ∷ true ∷ false ∷ []) × (asked 43520 5376 green ≡ false ∷ true ∷ false ∷ true ∷ [])
unfolding passes_through meet path_delta distance
blue-to-orange = (refl, refl)

-- the ends are in the band: a target that is one, and one short of it
pub ends : (asked 0 16384 green ≡ true ∷ true ∷ true ∷ true ∷ []) × (asked 0 16383 green ≡ false ∷ true ∷ false ∷ true ∷ []) × (asked 32768 27391 green ≡ true ∷ true ∷ true ∷ true ∷ []) × (asked 32768 27392 green ≡ false ∷ true ∷ true ∷ false ∷ [])
unfolding passes_through meet path_delta distance
ends = (refl, refl, refl, refl)

-- no way: the hue found alone
pub no-delta : (asked 20000 20000 green ≡ true ∷ true ∷ true ∷ true ∷ []) × (asked 0 0 green ≡ false ∷ false ∷ false ∷ false ∷ [])
unfolding passes_through meet path_delta distance
no-delta = (refl, refl)
