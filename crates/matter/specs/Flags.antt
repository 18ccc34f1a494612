-- The bitmaps of the cluster: OptionsBitmap, UpdateFlagsBitmap, Feature. A flag is the power of two of its bit.
use Rattle.std.specs.Prelude.{ℕ, ◌/◌, ◌%◌, Bool, false, cond, eqb}

-- whether a bitmap has a flag; none has the flag 0
unfoldable pub has_flag : ℕ → ℕ → Bool
has_flag bits flag = cond (eqb flag 0) false (eqb (bits / flag % 2) 1)

-- OptionsBitmap: bit 0
abbrev pub execute_if_off : ℕ
execute_if_off = 1

-- UpdateFlagsBitmap: bits 0 to 3 ("bits 1, 2, 3; action is bit 0")
abbrev pub update_action : ℕ
update_action = 1

abbrev pub update_direction : ℕ
update_direction = 2

abbrev pub update_time : ℕ
update_time = 4

abbrev pub update_start_hue : ℕ
update_start_hue = 8

-- Feature: bits 0 to 4
abbrev pub hue_and_saturation : ℕ
hue_and_saturation = 1

abbrev pub enhanced_hue : ℕ
enhanced_hue = 2

abbrev pub color_loop : ℕ
color_loop = 4

abbrev pub xy : ℕ
xy = 8

abbrev pub color_temperature : ℕ
color_temperature = 16
