-- What runs stays valid as the clock goes on.
use Rattle.std.proofs.Common.{◌∙◌, sym, ltb-false}
use Rattle.matter.proofs.Laws.{each, or_left}
use Rattle.lamp.specs.Valid.{lamp_valid}
use Rattle.lamp.proofs.Kept.{running-later, no-first}
use Rattle.lamp.proofs.valid.ValidLamp.step.Goals as goal

pub pass-left-requires : goal.pass-left-requires
unfolding lamp_valid
pass-left-requires c =
    let lamp = c.lamp-lamp.result in
    let good = (no-first _ _ _ (sym c.clock_cause.ensures ∙ c.in_default.is)).0 in
    running-later lamp.running lamp.bounds lamp.clock c.args.clock (each _ c.lamp-lamp.ensures.valid).1.1.0 (ltb-false _ _ (or_left _ _ good))
