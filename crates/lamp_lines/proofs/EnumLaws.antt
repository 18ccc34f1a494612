-- The case of a number, as a conversion finds it.
use Rattle.std.specs.Prelude.{ℕ, ◌≡◌, refl, Bool, true, false, cond, List, [], ◌∷◌, eqb, Option, Result, Ok, Some}
use Rattle.std.specs.Result.{result_ok}
use Rattle.matter.specs.declared.enums.Reserved.{Reserved}
use Rattle.matter.specs.Numbers.{found_in}
use Rattle.lamp_lines.specs.Enums.{case_of}

module _ {E : Type 0} where
  by_test : (b : Bool) (x : E) (r : Result E Reserved) (o : Option E) → result_ok r ≡ o → result_ok (cond b (Ok x) r) ≡ cond b (Some x) o
  by_test true x r o e = refl
  by_test false x r o e = e

  pub ok_found : (number : E → ℕ) (cases : List E) (n : ℕ) → result_ok (found_in number cases n) ≡ case_of number cases n
  ok_found number [] n = refl
  ok_found number (x ∷ xs) n = by_test (eqb n (number x)) x _ _ (ok_found number xs n)
