-- The list in front of which the full time comes is that of the pass.
use Rattle.lamp.proofs.Passed.{left-placed}
use Rattle.lamp.proofs.Lamp.accepted.Goals as goal

pub returns : goal.returns
returns c =
    rw
    (c.notices.ensures, c.note_if.ensures, c.requires.list_value, left-placed c.args.left.passed c.args.self.looping.active c.requires.bytes c.args.left.full)
