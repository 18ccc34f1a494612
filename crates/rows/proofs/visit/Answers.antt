-- A lamp that runs is stepped, and its step's cause is then the one that every call checks first.
use Rattle.std.proofs.Common.{sym, ap, ◌∙◌}
use Rattle.rows.proofs.Visiting.{step-number}
use Rattle.rows.proofs.visit.Goals as goal

pub returns-then-is_running-clause-cause : goal.returns-then-is_running-clause-cause
returns-then-is_running-clause-cause c =
    ap (λ a. a.verdict) c.step.ensures ∙ step-number c.args.lamp c.args.clock (sym c.is_running.ensures ∙ c.if-is_running.true)
