-- `fade` on document 01's line, and on lines at the edges, by computation. Bytes are written as their numbers.
use Prim.Native.Nat.{ℕ}
use mathlib.Core.List.{List, [], ◌∷◌, ◌++◌}
use mathlib.Core.Path.{◌≡◌, refl}
use Rattle.matter.specs.All.{all_true}
use Rattle.matter.specs.Flags.{has_flag}
use Rattle.matter.specs.Rules.{default_color_mode}
use Rattle.notices.specs.Notices.{filled}
use Rattle.hue.specs.Hue.{distance, path_delta, is_tie, moved_hue}
use Rattle.progress.specs.Progress.{permille_of, clamp}
use Rattle.remaining_time.specs.RemainingTime.{reported}
use Rattle.color.specs.Setters.{hue_set}
use Rattle.color.specs.Valid.{color_valid}
use Rattle.tasks.specs.Valid.{move_to_valid, task_valid, running_valid}
use Rattle.lamp.specs.Answers.{first_cause}
use Rattle.lamp.specs.Valid.{lamp_valid}
use Rattle.lamp.specs.Making.{making}
use Rattle.lamp.specs.Passes.{hue_saturation_moved, timed}
use Rattle.lamp.specs.Calls.{hue_saturation_start, started, stepped, start_answer, step_answer}
use Rattle.commands.specs.Commands.{command_effect}
use Rattle.commands.specs.Answers.{command_cause, command_answer}
use Rattle.text.specs.Digits.{is_number, decimal_in, decimal, spaced, spaced_all}
use Rattle.text.specs.Words.{up_to}
use Rattle.fade_line.specs.Line.{words, wanted, asked_by_words, asked_by}
use Rattle.fade_line.specs.Text.{state_text, line_text, refused_text}
use Rattle.fade_run.specs.Run.{line_of, text, further, fade_of}

-- what `fade` writes for an input
abbrev pub fade_text : List ℕ → List ℕ
fade_text input = text (fade_of (asked_by input))

-- `128 0 2 5000`
three-lines :
    fade_text (49 ∷ 50 ∷ 56 ∷ 32 ∷ 48 ∷ 32 ∷ 50 ∷ 32 ∷ 53 ∷ 48 ∷ 48 ∷ 48 ∷ 10 ∷ []) ≡
    (53 ∷ 48 ∷ 48 ∷ 48 ∷ 32 ∷ 48 ∷ 32 ∷ 50 ∷ 32 ∷ 49 ∷ 48 ∷ 48 ∷ 58 ∷ 32 ∷ 49 ∷ 53 ∷ 10 ∷ [])
    ++ (53 ∷ 49 ∷ 48 ∷ 48 ∷ 32 ∷ 49 ∷ 54 ∷ 51 ∷ 56 ∷ 52 ∷ 32 ∷ 49 ∷ 32 ∷ 49 ∷ 48 ∷ 48 ∷ 58 ∷ 32 ∷ 49 ∷ 51 ∷ 32 ∷ 50 ∷ 32 ∷ 54 ∷ 32 ∷ 55 ∷ 32 ∷ 49 ∷ 52 ∷ 32 ∷ 49 ∷ 53 ∷ 10 ∷ [])
    ++ (53 ∷ 50 ∷ 48 ∷ 48 ∷ 32 ∷ 51 ∷ 50 ∷ 55 ∷ 54 ∷ 56 ∷ 32 ∷ 48 ∷ 32 ∷ 48 ∷ 58 ∷ 32 ∷ 49 ∷ 51 ∷ 32 ∷ 50 ∷ 32 ∷ 54 ∷ 32 ∷ 55 ∷ 32 ∷ 49 ∷ 52 ∷ 32 ∷ 49 ∷ 53 ∷ 32 ∷ 49 ∷ 10 ∷ [])
unfolding has_flag default_color_mode all_true color_valid move_to_valid task_valid running_valid lamp_valid first_cause clamp distance path_delta is_tie moved_hue permille_of reported filled hue_set making command_effect command_cause command_answer hue_saturation_moved timed hue_saturation_start started stepped start_answer step_answer up_to words is_number wanted asked_by_words decimal decimal_in spaced spaced_all state_text line_text refused_text line_of further fade_of
three-lines = refl

-- hue 255: `refused 1`
hue-255 : fade_text (50 ∷ 53 ∷ 53 ∷ 32 ∷ 48 ∷ 32 ∷ 49 ∷ 32 ∷ 53 ∷ 10 ∷ []) ≡ 114 ∷ 101 ∷ 102 ∷ 117 ∷ 115 ∷ 101 ∷ 100 ∷ 32 ∷ 49 ∷ 10 ∷ []
unfolding has_flag default_color_mode all_true color_valid running_valid lamp_valid first_cause clamp making command_effect command_cause command_answer up_to words is_number wanted asked_by_words decimal decimal_in spaced refused_text fade_of
hue-255 = refl

-- two blanks: `bad line`
two-blanks : fade_text (49 ∷ 50 ∷ 56 ∷ 32 ∷ 32 ∷ 48 ∷ 32 ∷ 49 ∷ 32 ∷ 53 ∷ 10 ∷ []) ≡ 98 ∷ 97 ∷ 100 ∷ 32 ∷ 108 ∷ 105 ∷ 110 ∷ 101 ∷ 10 ∷ []
unfolding up_to words is_number wanted asked_by_words fade_of
two-blanks = refl
