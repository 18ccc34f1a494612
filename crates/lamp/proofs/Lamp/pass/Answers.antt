-- A running record's validity is what its pass asks for.
use Rattle.matter.proofs.Laws.{each}
use Rattle.tasks.specs.Valid.{running_valid}
use Rattle.lamp.proofs.Lamp.pass.Goals as goal

pub move_to_hue_saturation_transition-moved-requires : goal.move_to_hue_saturation_transition-moved-requires
unfolding running_valid
move_to_hue_saturation_transition-moved-requires c = (each _ (rw c.in-HueSaturationMoveTo.is at c.requires)).0

pub hue_move_transition-requires : goal.hue_move_transition-requires
unfolding running_valid
hue_move_transition-requires c = (each _ (rw c.in-HueMove.is at c.requires)).0

pub saturation_move_transition-passed-requires : goal.saturation_move_transition-passed-requires
unfolding running_valid
saturation_move_transition-passed-requires c = (each _ (rw c.in-SaturationMove.is at c.requires)).0

pub color_temperature_move_transition-passed-requires : goal.color_temperature_move_transition-passed-requires
unfolding running_valid
color_temperature_move_transition-passed-requires c = (each _ (rw c.in-ColorTemperatureMove.is at c.requires)).0
