-- When a line is settled, in bytes: at its newline, or at the first byte that no line of the form has there (DECISIONS
-- 13). Bytes are written as their numbers: 10 is the newline, 32 the blank, 48 to 57 the digits, 120 is `x`.
use Rattle.std.specs.Prelude.{ℕ, Bool, true, false, List, [], ◌∷◌, map, ◌≡◌}
use Rattle.fade_line.specs.Reading.{fresh, settled, read_all}

abbrev pub settled_by : List ℕ → Bool
settled_by bytes = settled (read_all fresh bytes)

pub record Settled : Type 0 where
  -- a letter: `x`, `1x`, `1 2x`
  pub letter :
      map settled_by ((120 ∷ []) ∷ (49 ∷ 120 ∷ []) ∷ (49 ∷ 32 ∷ 50 ∷ 120 ∷ []) ∷ []) ≡ true ∷ true ∷ true ∷ []
  -- a tab and a carriage return
  pub other : map settled_by ((49 ∷ 9 ∷ []) ∷ (49 ∷ 13 ∷ []) ∷ []) ≡ true ∷ true ∷ []
  -- a blank first, and two
  pub blank : map settled_by ((32 ∷ []) ∷ (49 ∷ 32 ∷ 32 ∷ []) ∷ []) ≡ true ∷ true ∷ []
  -- the blank before a fifth word: `1 2 3 4 `
  pub fifth : settled_by (49 ∷ 32 ∷ 50 ∷ 32 ∷ 51 ∷ 32 ∷ 52 ∷ 32 ∷ []) ≡ true
  -- 2^64, 18446744073709551616, and not the number below it
  pub large :
      map settled_by
      ((49 ∷ 56 ∷ 52 ∷ 52 ∷ 54 ∷ 55 ∷ 52 ∷ 52 ∷ 48 ∷ 55 ∷ 51 ∷ 55 ∷ 48 ∷ 57 ∷ 53 ∷ 53 ∷ 49 ∷ 54 ∷ 49 ∷ 54 ∷ [])
      ∷ (49 ∷ 56 ∷ 52 ∷ 52 ∷ 54 ∷ 55 ∷ 52 ∷ 52 ∷ 48 ∷ 55 ∷ 51 ∷ 55 ∷ 48 ∷ 57 ∷ 53 ∷ 53 ∷ 49 ∷ 54 ∷ 49 ∷ 53 ∷ []) ∷ [])
      ≡ true ∷ false ∷ []
  -- a newline: alone, and after a line
  pub newline : map settled_by ((10 ∷ []) ∷ (49 ∷ 32 ∷ 50 ∷ 32 ∷ 51 ∷ 32 ∷ 52 ∷ 10 ∷ []) ∷ []) ≡ true ∷ true ∷ []
  -- and nothing else: no byte, `12`, `12 `, `1 2 3 4`
  pub open-yet :
      map settled_by ([] ∷ (49 ∷ 50 ∷ []) ∷ (49 ∷ 50 ∷ 32 ∷ []) ∷ (49 ∷ 32 ∷ 50 ∷ 32 ∷ 51 ∷ 32 ∷ 52 ∷ []) ∷ [])
      ≡ false ∷ false ∷ false ∷ false ∷ []
