-- The notices are put in front of one another, from the device to the task.
use Rattle.std.proofs.lemmas.Bool.{not-false}
use Rattle.commands.specs.Commands.{deactivated}
use Rattle.commands.proofs.LoopLaws.{off-change}
use Rattle.commands.proofs.loops.deactivate.Goals as goal

pub returns : goal.returns
unfolding deactivated
returns c =
    let lamp = c.args.lamp in
    rw
    (c.note-2.ensures, c.note.ensures, c.cons_change.ensures, c.note-device.ensures, c.new.ensures, c.set_hue-set.ensures, not-false lamp.looping.active c.if-not-lamp.false, off-change lamp.color lamp.looping.stored lamp.clock)
