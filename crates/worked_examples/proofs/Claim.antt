-- The cases marked K, K1 to K12, follow from the definitions: K3 by the laws of equal hues, the others by computation.
use mathlib.Core.Path.{refl}
use Rattle.matter.specs.All.{all_true}
use Rattle.matter.specs.Flags.{has_flag}
use Rattle.matter.specs.Rules.{default_color_mode}
use Rattle.notices.specs.Notices.{filled}
use Rattle.hue.specs.Hue.{distance, path_delta, is_tie, moved_hue}
use Rattle.hue.proofs.Laws.{equal-no-way, equal-no-tie}
use Rattle.progress.specs.Progress.{permille_of, snapped, loop_turn, clamp}
use Rattle.remaining_time.specs.RemainingTime.{reported}
use Rattle.color.specs.Setters.{hue_set, saturation_set, mireds_set}
use Rattle.color.specs.Valid.{color_valid}
use Rattle.tasks.specs.Valid.{move_to_valid, task_valid, running_valid}
use Rattle.lamp.specs.Valid.{lamp_valid}
use Rattle.lamp.specs.Answers.{first_cause}
use Rattle.lamp.specs.Passes.{hue_saturation_moved, loop_passed, temperature_passed, temperature_to_moved, timed}
use Rattle.lamp.specs.Calls.{hue_saturation_start, temperature_to_start, temperature_start, started, stepped, start_answer, step_answer}
use Rattle.commands.specs.Commands.{activated, loop_set, command_effect}
use Rattle.commands.specs.Answers.{command_cause, command_answer}
use Rattle.worked_examples.specs.Cases.{next, steps_at, fades}
use Rattle.worked_examples.specs.Claim.{Claim}

worked-examples : Claim
unfolding all_true has_flag default_color_mode distance path_delta is_tie moved_hue permille_of snapped loop_turn clamp reported filled hue_set saturation_set mireds_set color_valid move_to_valid task_valid running_valid lamp_valid first_cause hue_saturation_moved timed temperature_to_moved temperature_passed loop_passed hue_saturation_start temperature_to_start temperature_start started stepped start_answer step_answer activated loop_set command_effect command_cause command_answer next steps_at fades
worked-examples =
    (refl, (refl, (λ hue direction h. rw (equal-no-way hue direction h, equal-no-tie hue direction h), (refl, (refl, (refl, (refl, (refl, (refl, (refl, (refl, (refl, (refl, (refl, (refl, (refl, (refl, (refl, (refl, (refl, (refl, (refl, (refl, (refl, (refl, (refl, (refl, (refl, tt))))))))))))))))))))))))))))
