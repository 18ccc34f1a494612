-- Notice lists: "a list of sixteen places, unused places 0". That none has more than 14 is `Few` in
-- commands/specs/Table.
use Rattle.std.specs.Prelude.{ℕ, ◌-◌, Bool, cond, List, [], ◌∷◌, ◌++◌, length, replicate}
use Rattle.notices.specs.declared.Notices.{Notices}

-- a notice where the test holds, else none
abbrev pub only : Bool → ℕ → List ℕ
only test number = cond test (number ∷ []) []

-- a list in its sixteen places: its numbers, then zeros
unfoldable pub filled : List ℕ → List ℕ
filled xs = xs ++ replicate (16 - length xs) 0

-- the list in its places, with its length
abbrev pub noted : List ℕ → Notices
noted xs = record { places = filled xs; len = length xs }
