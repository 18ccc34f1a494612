-- What is built of one notice or none, and then placed, is that list.
use Rattle.std.proofs.Common.{◌∙◌, sym, arith}
use Rattle.notices.specs.Names.{ColorTemperatureMireds}
use Rattle.notices.specs.Notices.{only}
use Rattle.notices.proofs.Laws.{only_one}
use Rattle.notices.proofs.Numerals.{below-only, placed-noted}
use Rattle.color.specs.Bounded.{mireds_move, bounded}
use Rattle.lamp.specs.Calls.{bounds_answer}
use Rattle.lamp.proofs.valid.ValidLamp.set_bounds.Goals as goal

pub returns : goal.returns
unfolding bounds_answer bounded
returns c =
    let moved : _ = mireds_move c.args.self.color c.args.bounds in
    rw (
      c.notices.ensures,
      c.note_if.ensures,
      c.new.ensures,
      c.bounded-color.ensures,
      c.lamp-lamp.ensures.value,
      sym c.bounds_cause.ensures ∙ c.in_default.is,
      placed-noted (only moved ColorTemperatureMireds) (below-only moved ColorTemperatureMireds (omega arith)) (omega (arith, only_one moved ColorTemperatureMireds)),
    )
