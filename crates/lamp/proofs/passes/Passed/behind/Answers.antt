-- The notices of each part are put in front of those behind it, and all are bytes.
use Rattle.std.proofs.Common.{arith}
use Rattle.color.proofs.Laws.{attribute-byte}
use Rattle.lamp.proofs.Passed.{behind-in-front, pass_below, device-byte}
use Rattle.lamp.proofs.passes.Passed.behind.Goals as goal

pub returns : goal.returns
returns c =
    let self = c.args.self in (
      rw (c.cons_change.ensures, c.cons_device.ensures, c.note_if-time.ensures, c.new.ensures) (behind-in-front _ _ _),
      pass_below 256 (omega arith) self c.args.loop_active (attribute-byte self.first) (attribute-byte self.second) (device-byte self.device),
    )
