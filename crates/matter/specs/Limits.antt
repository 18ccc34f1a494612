-- The limits that document 01 sets.
use Rattle.std.specs.Prelude.{ℕ}

-- the largest clock, in milliseconds
abbrev pub clock_limit : ℕ
clock_limit = 1_099_511_627_776

-- CurrentHue and CurrentSaturation end at 254
abbrev pub hue_limit : ℕ
hue_limit = 254

abbrev pub saturation_limit : ℕ
saturation_limit = 254
