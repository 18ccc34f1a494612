-- The one claim over the cases marked K.
use Rattle.worked_examples.specs.Cases.{Each, cases}

abbrev pub Claim : Type 0
Claim = Each cases
