-- `distance_up`: the wrapping difference is the distance, which is one remainder.
use Rattle.std.proofs.Common.{arith}
use Rattle.hue.proofs.Laws.{distance_is}
use Rattle.hue.proofs.distance_up.Goals as goal

pub returns : goal.returns
returns c = omega (arith, distance_is c.args.from c.args.to (omega arith))
