-- What is behind the place stays.
use Rattle.std.proofs.Common.{arith}
use Rattle.std.proofs.lemmas.Slice.{drop-put_mid}
use Rattle.rows.proofs.copy.Goals as goal

pub returns-clause-back : goal.returns-clause-back
returns-clause-back c =
    rw c.copy_from_slice.ensures.after (drop-put_mid c.args.at _ c.args.out.now _ _ (omega arith) (omega arith) (omega arith))
