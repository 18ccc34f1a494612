-- Number by number; no more than the sixteen places.
use Rattle.std.proofs.Common.{arith, refl}
use Rattle.std.proofs.lemmas.Grind.{common_steps}
use Rattle.text.specs.Digits.{spaced_all}
use Rattle.text.proofs.DigitLaws.{spaced_more}
use Rattle.fade_line.proofs.writer.notices.Goals as goal

pub loop-number-init : goal.loop-number-init
unfolding spaced_all
loop-number-init g c = refl

pub loop-number-preserved : goal.loop-number-preserved
loop-number-preserved g c = grind (arith, common_steps, spaced_more)
