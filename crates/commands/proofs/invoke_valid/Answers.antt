-- What is done and the clock go by whether it is accepted, which the verdict says.
use Rattle.std.proofs.Common.{◌≡◌, sym}
use Rattle.std.specs.Prelude.{cond}
use Rattle.lamp.specs.Answers.{at_clock}
use Rattle.commands.specs.Answers.{command_done}
use Rattle.commands.specs.Commands.{checks, skip}
use Rattle.commands.specs.Inner.{verdict_of, accepted_outcome}
use Rattle.commands.proofs.Built.{built}
use Rattle.commands.proofs.invoke_valid.Goals as goal
use Rattle.commands.proofs.invoke_valid.Goals.{then-is_accepted, else-is_accepted, then-is_accepted-2, else-is_accepted-2}

pub returns : goal.returns
returns c =
    let a = c.args in
    let l = c.lamp-lamp.result in
    let told : c.verdict-verdict.result ≡ verdict_of l (checks a.request.command) a.clock =
    rw c.checks_of-checks.ensures at c.verdict-verdict.ensures
    in
    let done : c.if-is_accepted.done ≡ accepted_outcome (cond c.is_ok-is_accepted.result (command_done (at_clock l a.clock) a.request a.on_off) (skip l)) =
    elim c.if-is_accepted.branch [
      | then-is_accepted w ↦ simp (w.done-is, w.outcome-done.ensures, w.if-is_accepted.true, c.checks_of-checks.ensures)
      | else-is_accepted w ↦ simp (w.done-is, w.nothing-done.ensures, w.if-is_accepted.false)
    ]
    in
    let now : c.if-is_accepted-2.result ≡ cond c.is_ok-is_accepted.result a.clock l.clock =
    elim c.if-is_accepted-2.branch [
      | then-is_accepted-2 w ↦ simp (w.result-is, w.if-is_accepted-2.true)
      | else-is_accepted-2 w ↦ simp (w.result-is, w.if-is_accepted-2.false)
    ]
    in
    rw (sym c.lamp-lamp.ensures.value)
    (simp (c.notices.ensures, done, now, c.is_ok-is_accepted.ensures.value)
    (built l a.request a.on_off a.clock c.lamp-lamp.ensures.valid _ (sym told)))
