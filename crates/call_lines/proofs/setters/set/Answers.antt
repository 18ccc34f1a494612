-- What the change reports has its places.
use Rattle.call_lines.specs.Setters.{setting_answer}
use Rattle.call_lines.proofs.SettingLaws.{setting-placed}
use Rattle.call_lines.proofs.setters.set.Goals as goal

pub returns : goal.returns
unfolding setting_answer
returns c =
    let value = c.args.setting in
    rw
    (← c.first_cause.ensures, c.in_default.is, c.notices.ensures, c.at_clock.ensures, c.cons_change-reported.ensures, c.new.ensures, c.set_color-set.ensures, setting-placed c.args.lamp.color value.value value.is_end value.clock c.args.lamp.looping.active)
