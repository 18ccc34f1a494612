-- A number more.
use Rattle.std.proofs.Common.{arith}
use Rattle.std.proofs.lemmas.Grind.{common_steps}
use Rattle.text.proofs.DigitLaws.{spaced_more}
use Rattle.lamp_lines.proofs.answers.notices.Goals as goal

pub loop-notice-preserved : goal.loop-notice-preserved
loop-notice-preserved g c = grind (arith, common_steps, spaced_more)
