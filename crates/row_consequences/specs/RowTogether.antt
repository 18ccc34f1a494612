-- *Together* for rows: lamps of a row that found the same hue, were given the same move to a hue and started it at the
-- same clock show the same hue and remaining time, and are done together, after every row call that the row accepts,
-- under the claim's premises of both. Whatever else the calls before it leave room for: steps of one of them alone,
-- refused row calls, calls at other places.
use Rattle.std.specs.Prelude.{ℕ, ◌<◌, List, [], ◌∷◌, ◌++◌, ◌≡◌}
use Rattle.matter.specs.Causes.{accepted}
use Rattle.schedule.specs.Fades.{Fade, list_of, Premised}
use Rattle.rows.specs.declared.Row.{Row}
use Rattle.rows.specs.Rows.{lamp_at, row_cause}
use Rattle.row_schedule.specs.RowCalls.{RowCall, each, after_row, given}
use Rattle.row_schedule.specs.RowClaim.{RowValid}
use Rattle.consequences.specs.Together.{Alike, ShowSame}

-- a fade of the lamp at place k: what that lamp is given by the calls so far is the fade's list
pub record FadeAt (k : ℕ) (r : Row) (calls : List RowCall) (e : Fade) : Type 0 where
  pub there : k < r.count
  pub lamp : lamp_at r k ≡ e.lamp
  pub given : given k r calls ≡ list_of e
  pub premised : Premised e

-- after the calls so far and a row call that is accepted then
abbrev pub RowTogether : Type 0
RowTogether =
    (r : Row) (calls : List RowCall) (size clock j k : ℕ) (d e : Fade) → RowValid r → FadeAt j r calls d →
    FadeAt k r calls e → Alike d e → row_cause (after_row r calls) size clock ≡ accepted →
    ShowSame (lamp_at (after_row r (calls ++ (each size clock ∷ []))) j)
    (lamp_at (after_row r (calls ++ (each size clock ∷ []))) k)
