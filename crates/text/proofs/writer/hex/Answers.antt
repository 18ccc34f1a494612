-- Two digits more.
use Rattle.std.proofs.Common.{arith}
use Rattle.std.proofs.lemmas.Grind.{common_steps}
use Rattle.text.proofs.DigitLaws.{hex_more}
use Rattle.text.proofs.writer.hex.Goals as goal

pub loop-b-preserved : goal.loop-b-preserved
loop-b-preserved g c = grind (arith, common_steps, hex_more)
