-- A valid task has a valid delta.
use Rattle.matter.proofs.Laws.{each}
use Rattle.tasks.specs.Valid.{move_to_valid}
use Rattle.lamp.proofs.passes.Found.move_to_hue_saturation_transition.Goals as goal

pub move_hue-hued-requires : goal.move_hue-hued-requires
unfolding move_to_valid
move_hue-hued-requires c = (each _ c.requires).1.0
