-- What contracts of inner functions alone cite, and nobody has to believe: the order in which a row call looks at its
-- causes (`row-cause` in proofs/Causes says that it is `row_cause`).
use Rattle.std.specs.Prelude.{ℕ, ◌*◌, not, cond, List, [], ◌∷◌, ltb}
use Rattle.matter.specs.Causes.{Verdict, accepted, number_of, clock_refused, invalid_lamp, short_slice}
use Rattle.matter.specs.Limits.{clock_limit}
use Rattle.lamp.specs.declared.Lamp.{Lamp}
use Rattle.lamp.specs.Answers.{first_cause}
use Rattle.rows.specs.declared.Row.{Row}
use Rattle.rows.specs.Rows.{mask_true}

-- the causes of `row_cause` that come before the lamps' own, as the code goes through them
unfoldable pub slice_cause : Row → ℕ → Verdict
slice_cause r size =
    cond (ltb 32 r.count) invalid_lamp
    (cond (ltb size (16 * r.count)) short_slice (cond (not (mask_true r)) invalid_lamp accepted))

-- and over the lamps' own, where 8 is above 4 and 4 above none
abbrev pub limit_cause : ℕ → Verdict
limit_cause clock = cond (ltb clock_limit clock) clock_refused accepted

-- the one with the greater number
unfoldable pub graver : Verdict → Verdict → Verdict
graver a b = cond (ltb (number_of a) (number_of b)) b a

-- that of lamps
abbrev pub visits_cause : ℕ → List Lamp → Verdict
visits_cause clock [] = accepted
visits_cause clock (l ∷ ls) = graver (first_cause l clock) (visits_cause clock ls)
