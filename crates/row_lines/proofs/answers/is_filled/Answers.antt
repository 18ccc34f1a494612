-- The test of each byte at its place is that of the two lists.
use native.Mathlib.Numerals.{unary_clauses}
use Rattle.std.proofs.Common.{◌∙◌, ◌+◌, ◌%◌, eqb, rules, tests}
use Rattle.std.proofs.lemmas.Iterator.{YieldsList-from_slice}
use Rattle.std.proofs.lemmas.Iterator.Consumers.{YieldsList-from_enumerate}
use Rattle.std.proofs.lemmas.Iterator.Search.{all_from_yields_List}
use Rattle.row_lines.proofs.Lent.{all-lent}
use Rattle.row_lines.proofs.answers.is_filled.Goals as goal

pub returns : goal.returns
returns c =
    all_from_yields_List (λ p. eqb p.1 ((c.args.from + p.0) % 256)) _ _ _ c.all.ensures.ran
    (YieldsList-from_enumerate (YieldsList-from_slice c.args.bytes.now (cc)) (cc)) (λ x b q k. search (rules, tests))
    ∙ (simp unary_clauses at (all-lent c.args.bytes.now c.args.from 0))
