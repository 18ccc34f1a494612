-- What is left to write: each block takes some of it.
use Rattle.std.proofs.Common.{length}
use Rattle.fade_run.specs.Run.{text}
use Rattle.fade.proofs.write_run.Given as goal

abbrev pub decreases-loop-fade : goal.decreases-loop-fade
decreases-loop-fade g l = length (text l.fade)
