-- What was written so far, and the text of the run that is left, are the text of the run that was given.
use Rattle.std.proofs.Common.{◌≡◌, ◌-◌, ◌≤◌, ◌++◌, length, take}
use Rattle.fade_run.specs.Run.{text}
use Rattle.fade_run.proofs.Fade.write.Given as goal

abbrev pub invariant-loop-out : goal.invariant-loop-out
invariant-loop-out l = record {
  in_slice : l.at ≤ length l.out;
  whole : take l.at l.out ++ text l.self ≡ text l.fn.self;
  same : l.at ≡ 0 → l.self ≡ l.fn.self;
}

abbrev pub decreases-loop-out : goal.decreases-loop-out
decreases-loop-out l = length l.out - l.at
