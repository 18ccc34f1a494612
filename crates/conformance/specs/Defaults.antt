-- The attributes of a fresh device: Matter Application Cluster Specification, Color Control, the column of defaults in
-- the table of attributes. Written from that text as known, what stands in quotes too: no copy was at hand.
use Rattle.std.specs.Prelude.{ℕ}

abbrev pub default_current_hue : ℕ
default_current_hue = 0

abbrev pub default_current_saturation : ℕ
default_current_saturation = 0

abbrev pub default_remaining_time : ℕ
default_remaining_time = 0

-- 00FA
abbrev pub default_color_temperature_mireds : ℕ
default_color_temperature_mireds = 250

-- ColorMode and EnhancedColorMode: CurrentX and CurrentY
abbrev pub default_color_mode_number : ℕ
default_color_mode_number = 1

-- ColorLoopDirection: 0, which is Decrement
abbrev pub default_color_loop_direction : ℕ
default_color_loop_direction = 0

-- 0019
abbrev pub default_color_loop_time : ℕ
default_color_loop_time = 25

-- 2300
abbrev pub default_color_loop_start_enhanced_hue : ℕ
default_color_loop_start_enhanced_hue = 8960

abbrev pub default_color_loop_stored_enhanced_hue : ℕ
default_color_loop_stored_enhanced_hue = 0
