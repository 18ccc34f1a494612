-- The next step fits in 64 bits; of a run that is over nothing is written.
use Rattle.std.proofs.Common.{arith, refl}
use Rattle.fade_run.proofs.Laws.{start-clock, step-clock, wrote-over}
use Rattle.fade_run.proofs.Fade.write_next.Goals as goal

pub report-requires : goal.report-requires
report-requires c = rw c.start.ensures (start-clock c.in-Start.s.lamp c.in-Start.s.clock (omega arith) c.in-Start.s.task)

pub report-requires-in-Step : goal.report-requires-in-Step
report-requires-in-Step c = rw c.step.ensures (step-clock c.in-Step.s.lamp c.in-Step.s.clock (omega arith))

pub returns-in-Over : goal.returns-in-Over
returns-in-Over c = simp c.in-Over.is (refl, wrote-over _ _)
