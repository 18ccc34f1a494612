-- A list of tests that must all hold.
use Rattle.std.specs.Prelude.{Bool, true, ◌&&◌, List, [], ◌∷◌}

abbrev pub all_from : Bool → List Bool → Bool
all_from t [] = t
all_from t (b ∷ bs) = all_from (t && b) bs

-- every test of the list holds
unfoldable pub all_true : List Bool → Bool
all_true [] = true
all_true (b ∷ bs) = all_from b bs
