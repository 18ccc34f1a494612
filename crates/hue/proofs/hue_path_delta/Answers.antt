-- `hue_path_delta`: the parts are the distances and what the direction makes of them.
use Rattle.std.proofs.Common.{w32}
use Rattle.std.proofs.Math.Facts.{to_z-of_z}
use borrow.Author.Rules.{sfits_of}
use Rattle.hue.specs.Hue.{path_delta, is_tie}
use Rattle.hue.proofs.hue_path_delta.Goals as goal

pub returns : goal.returns
unfolding path_delta is_tie
returns c =
    rw
    (to_z-of_z {w = w32} (sfits_of c.chosen_delta.type_inv), c.chosen_delta.ensures, c.is_tie.ensures, c.distance_up-up_distance.ensures, c.distance_up-down_distance.ensures)
