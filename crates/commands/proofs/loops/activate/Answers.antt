-- The notices are put in front of one another, from the task to the stored hue.
use Rattle.commands.specs.Commands.{activated}
use Rattle.commands.proofs.LoopLaws.{on-change}
use Rattle.commands.proofs.loops.activate.Goals as goal

pub returns : goal.returns
unfolding activated
returns c =
    rw
    (c.note_if-2.ensures, c.note_if.ensures, c.cons_change.ensures, c.choice.ensures, c.note-given.ensures, c.note.ensures, c.new.ensures, c.set_hue-set.ensures, on-change c.args.lamp.color c.args.seed c.args.lamp.clock c.args.lamp.looping.active)
