-- The port's numbers of the enums are the tables, and its flags the bits.
use Prim.Native.Nat.{ℕ}
use mathlib.Core.List.{List, map}
use mathlib.Core.Path.{◌≡◌, refl}
use Rattle.matter.specs.Flags.{has_flag}
use Rattle.matter.specs.Numbers.{direction_number, directions, move_mode_number, move_modes, step_mode_number, step_modes, loop_action_number, loop_actions, loop_direction_number, loop_directions, color_mode_number, color_modes, enhanced_color_mode_number, enhanced_color_modes}
use Rattle.conformance.specs.Numbers.{Line, FlagsAreBits, direction_table, move_mode_table, step_mode_table, action_table, loop_direction_table, color_mode_table, enhanced_color_mode_table}

-- the port's cases with their numbers, which are all that it looks a number up in (matter/specs/Numbers, `case_numbered`)
abbrev pub listed : {A : Type 0} → (A → ℕ) → List A → List (Line A)
listed number cases = map (λ a. record { number = number a; means = a }) cases

pub direction-table : listed direction_number directions ≡ direction_table
direction-table = refl

pub move-mode-table : listed move_mode_number move_modes ≡ move_mode_table
move-mode-table = refl

pub step-mode-table : listed step_mode_number step_modes ≡ step_mode_table
step-mode-table = refl

pub action-table : listed loop_action_number loop_actions ≡ action_table
action-table = refl

pub loop-direction-table : listed loop_direction_number loop_directions ≡ loop_direction_table
loop-direction-table = refl

pub color-mode-table : listed color_mode_number color_modes ≡ color_mode_table
color-mode-table = refl

pub enhanced-color-mode-table : listed enhanced_color_mode_number enhanced_color_modes ≡ enhanced_color_mode_table
enhanced-color-mode-table = refl

pub flags-are-bits : FlagsAreBits
unfolding has_flag
flags-are-bits =
    record {
      option_0 = λ bits. refl;
      update_0 = λ bits. refl;
      update_1 = λ bits. refl;
      update_2 = λ bits. refl;
      update_3 = λ bits. refl;
      feature_0 = λ bits. refl;
      feature_1 = λ bits. refl;
      feature_2 = λ bits. refl;
      feature_3 = λ bits. refl;
      feature_4 = λ bits. refl;
    }
