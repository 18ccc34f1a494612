-- Tasks by their names, each with what it asks for.
use Rattle.std.specs.Prelude.{ℕ, ℤ, List, [], ◌∷◌, Option, Some, None, option_map}
use Rattle.tasks.specs.declared.Task.{Task}
use Rattle.text.specs.Numbers.{number_of, signed_of}
use Rattle.text.specs.Readers.{Reader, give, ◌then◌, by_word, number16, number32, flag, signed, or_dash, Row}
use Rattle.text.specs.Readers.{◌means◌, named, unknown}
use Rattle.lamp_lines.specs.Enums.{move_mode_at, loop_direction_at}

-- a value, or `-` for none
abbrev pub dashed : {A : Type 0} → (List ℕ → Option A) → Reader (Option A)
dashed of = by_word (or_dash None (λ w. option_map (λ x. Some x) (of w)))

unfoldable pub delta_at : Reader (Option ℤ)
delta_at = dashed signed_of

unfoldable pub target_at : Reader (Option ℕ)
target_at = dashed (number_of 255)

-- <way|-> <sat|-> <ms> <enhanced>
unfoldable pub move_to_at : Reader Task
move_to_at =
    give
    (λ delta saturation ms enhanced.
    Task.HueSaturationMoveTo (record { delta = delta; ms = ms; saturation = saturation; enhanced = enhanced }))
    then delta_at then target_at then number32 then flag

-- <mode> <rate> <enhanced>
unfoldable pub hue_move_at : Reader Task
hue_move_at =
    give (λ direction rate enhanced. Task.HueMove (record { rate = rate; direction = direction; enhanced = enhanced }))
    then move_mode_at then number32 then flag

-- <mode> <rate>
unfoldable pub saturation_move_at : Reader Task
saturation_move_at =
    give (λ direction rate. Task.SaturationMove (record { rate = rate; direction = direction })) then move_mode_at
    then number32

-- <target> <ms>
unfoldable pub mireds_to_at : Reader Task
mireds_to_at =
    give (λ target ms. Task.ColorTemperatureMoveTo (record { ms = ms; target = target })) then number16 then number32

-- <signed rate> <min> <max>
unfoldable pub mireds_move_at : Reader Task
mireds_move_at =
    give (λ rate min max. Task.ColorTemperatureMove (record { rate = rate; min = min; max = max })) then signed
    then number16 then number16

-- <direction> <seconds>
unfoldable pub color_loop_at : Reader Task
color_loop_at =
    give (λ direction seconds. Task.ColorLoop (record { direction = direction; seconds = seconds }))
    then loop_direction_at then number16

abbrev pub tasks : List (Row Task)
tasks =
    "move_to" means move_to_at
    ∷ "hue_move" means hue_move_at
    ∷ "sat_move" means saturation_move_at
    ∷ "ct_to" means mireds_to_at
    ∷ "ct_move" means mireds_move_at
    ∷ "loop" means color_loop_at
    ∷ "stop" means give Task.Stop
    ∷ []

-- the task of a name, with its numbers behind it
unfoldable pub task_at : List ℕ → Reader Task
task_at = named tasks unknown
