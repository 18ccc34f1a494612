-- No cause of the place's own: the place is there, and the mask is true, so that the lamp's bit makes it true again.
use Rattle.std.proofs.Common.{◌≡◌, length, sym, ◌∙◌, arith, rules}
use Rattle.rows.specs.Rows.{answered_at}
use Rattle.rows.proofs.Causes.{place-there}
use Rattle.rows.proofs.Masks.{stored-true}
use Rattle.rows.proofs.Row.call_at.Goals as goal

pub bounds-self-place : goal.bounds-self-place
bounds-self-place c =
    let ok = place-there c.args.self c.args.place (sym c.place_cause.ensures ∙ c.in_default.is) in
    omega (arith, ok.0, ok.1)

pub with_lamp_at-requires : goal.with_lamp_at-requires
with_lamp_at-requires c =
    let ok = place-there c.args.self c.args.place (sym c.place_cause.ensures ∙ c.in_default.is) in
    omega (arith, ok.0, ok.1)

pub returns : goal.returns
unfolding answered_at
returns c =
    let self = c.args.self in
    let none = sym c.place_cause.ensures ∙ c.in_default.is in
    let ok = place-there self c.args.place none in
    let array : length self.lamps ≡ 32 = search rules in
    rw (none, c.with_lamp_at.ensures, stored-true self c.args.place c.call-a.result.lamp ok.2 ok.1 ok.0 array, c.call-a.ensures)
