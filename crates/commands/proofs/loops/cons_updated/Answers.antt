-- The notices of the flags, one after the other, are their list.
use Rattle.matter.specs.Flags.{has_flag, update_direction, update_time, update_start_hue}
use Rattle.commands.proofs.LoopLaws.{flags-in-front}
use Rattle.commands.proofs.loops.cons_updated.Goals as goal

pub returns : goal.returns
returns c =
    rw
    (c.note_if-3.ensures, c.contains-3.ensures, c.note_if-2.ensures, c.contains-2.ensures, c.note_if.ensures, c.contains.ensures, c.note.ensures, flags-in-front c.args.list (has_flag c.args.flags update_direction) (has_flag c.args.flags update_time) (has_flag c.args.flags update_start_hue))
