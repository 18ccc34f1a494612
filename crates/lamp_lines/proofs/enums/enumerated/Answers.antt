-- What is found of a number is its case, if it has one.
use Rattle.std.proofs.Common.{◌≡◌, rules}
use Rattle.lamp_lines.specs.Enums.{case_of}
use Rattle.lamp_lines.proofs.EnumLaws.{ok_found}
use Rattle.lamp_lines.proofs.enums.enumerated.Goals as goal

pub returns : goal.returns
returns g c =
    let m = g.E.Numbered in
    let n = c.in_ok-read.field-0 in
    let found : c.ok.result ≡ case_of m.number m.cases n =
    rw (c.ok.ensures.value, g.met.E.Numbered.finds _ _ c.try_from.ensures) (ok_found m.number m.cases n)
    in
    search rules
