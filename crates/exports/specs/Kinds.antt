-- The kinds of calls: a command's is its number in the cluster (Matter Application Cluster Specification, Color
-- Control, commands); a start, a step, a halt and new bounds have numbers past those.
use Rattle.std.specs.Prelude.{ℕ}

abbrev pub move_to_hue : ℕ
move_to_hue = 0

abbrev pub move_hue : ℕ
move_hue = 1

abbrev pub step_hue : ℕ
step_hue = 2

abbrev pub move_to_saturation : ℕ
move_to_saturation = 3

abbrev pub move_saturation : ℕ
move_saturation = 4

abbrev pub step_saturation : ℕ
step_saturation = 5

abbrev pub move_to_hue_and_saturation : ℕ
move_to_hue_and_saturation = 6

abbrev pub move_to_color_temperature : ℕ
move_to_color_temperature = 10

abbrev pub enhanced_move_to_hue : ℕ
enhanced_move_to_hue = 64

abbrev pub enhanced_move_hue : ℕ
enhanced_move_hue = 65

abbrev pub enhanced_step_hue : ℕ
enhanced_step_hue = 66

abbrev pub color_loop_set : ℕ
color_loop_set = 68

abbrev pub stop_move_step : ℕ
stop_move_step = 71

abbrev pub move_color_temperature : ℕ
move_color_temperature = 75

abbrev pub step_color_temperature : ℕ
step_color_temperature = 76

abbrev pub start : ℕ
start = 256

abbrev pub step : ℕ
step = 257

abbrev pub halt : ℕ
halt = 258

abbrev pub set_bounds : ℕ
set_bounds = 259
