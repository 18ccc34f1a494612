-- The flags first, then the action where its flag is set.
use Rattle.matter.specs.Flags.{has_flag, update_action}
use Rattle.lamp.specs.declared.Lamp.{Lamp}
use Rattle.lamp.specs.Answers.{at_clock}
use Rattle.commands.specs.Commands.{with_loop, updated, updated_reported, loop_set}
use Rattle.commands.proofs.LoopLaws.{done-fronted}
use Rattle.commands.proofs.loops.set_loop.Goals as goal

pub returns : goal.returns
unfolding loop_set
returns c =
    let a = c.args in
    let changed : Lamp = with_loop (at_clock a.lamp a.clock) a.lamp.color (updated a.lamp.looping a.flags a.direction a.time a.start_hue) in
    rw (c.cons_updated.ensures, c.act-done.ensures, c.contains.ensures, c.updated_settings.ensures)
    (done-fronted changed (updated_reported a.flags) (has_flag a.flags update_action) a.action)
