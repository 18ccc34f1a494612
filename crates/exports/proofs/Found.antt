-- An enum's number past eight bits is read as 255, which no enum has: it is tested against an enum's numbers as it was, and finds the same case.
use Rattle.std.proofs.Common.{◌≡◌, ℕ, ◌<◌, arith, eqb}
use Rattle.std.specs.Prelude.{cond, Result, Ok, Err, is_ok}
use Rattle.std.specs.Result.{result_unwrap_or}
use Rattle.std.specs.List.{list_all}
use Rattle.std.proofs.lemmas.Bool.Decides.{nat_tests}
use mathlib.Core.Bool.{Bool, true, false}
use mathlib.Core.List.{List, [], ◌∷◌}
use mathlib.Core.Path.{refl}
use lib.Dec.{ltb, leb}
use borrow.Author.Tests.{ltb-true}
use Rattle.matter.specs.declared.enums.DirectionEnum.{DirectionEnum}
use Rattle.matter.specs.declared.enums.MoveModeEnum.{MoveModeEnum}
use Rattle.matter.specs.declared.enums.StepModeEnum.{StepModeEnum}
use Rattle.matter.specs.declared.enums.ColorLoopActionEnum.{ColorLoopActionEnum}
use Rattle.matter.specs.declared.enums.ColorLoopDirectionEnum.{ColorLoopDirectionEnum}
use Rattle.matter.specs.declared.enums.ColorModeEnum.{ColorModeEnum}
use Rattle.matter.specs.declared.enums.EnhancedColorModeEnum.{EnhancedColorModeEnum}
use Rattle.matter.specs.declared.enums.OnOff.{OnOff}
use Rattle.matter.specs.declared.enums.Reserved.{Reserved}
use Rattle.matter.proofs.Laws.{and_left, and_right}
use Rattle.matter.specs.Numbers.{case_numbered, direction_number, directions, move_mode_number, move_modes, step_mode_number, step_modes, loop_action_number, loop_actions, loop_direction_number, loop_directions, color_mode_number, color_modes, enhanced_color_mode_number, enhanced_color_modes, on_off_number, on_offs}
use Rattle.exports.specs.Enums.{read_of, known_of, direction_read, direction_known, move_mode_read, move_mode_known, step_mode_read, step_mode_known, loop_action_read, loop_action_known, loop_direction_read, loop_direction_known, color_mode_read, color_mode_known, enhanced_mode_read, enhanced_mode_known, on_off_read, on_off_known}

-- an enum's number: past eight bits it is 255, which no enum has
abbrev pub capped : ℕ → ℕ
capped x = cond (leb x 255) x 255

-- the numbers of these cases end before 255
abbrev pub below : {E : Type 0} → (E → ℕ) → List E → Bool
below number xs = list_all (λ x. ltb (number x) 255) xs

pub capped_test : (n m : ℕ) → m < 255 → eqb (capped n) m ≡ eqb n m
capped_test n m h = grind (arith, nat_tests)

module _ {A B : Type 0} (number : A → ℕ) (known : A → B) (none : B) (n : ℕ) where
  same-found : (xs : List A) → below number xs ≡ true → case_numbered number known none xs (capped n) ≡ case_numbered number known none xs n
  same-found [] e = refl
  same-found (x ∷ xs) e =
      let h = ltb-true (number x) 255 (and_left _ (below number xs) e) in
      simp (capped_test n (number x) h, same-found xs (and_right (ltb (number x) 255) _ e))

-- and what is told of a conversion is the same, if it doesn't tell one reserved number from another
module _ {A C : Type 0} (told : Result A Reserved → C) (number : A → ℕ) (n : ℕ) (alike : told (Err (record { number = capped n })) ≡ told (Err (record { number = n }))) where
  pick : (b : Bool) (case : A) (r s : Result A Reserved) → told r ≡ told s → told (cond b (Ok case) r) ≡ told (cond b (Ok case) s)
  pick true case r s e = refl
  pick false case r s e = e

  told-found : (xs : List A) → below number xs ≡ true → told (case_numbered number Ok (Err (record { number = capped n })) xs (capped n)) ≡ told (case_numbered number Ok (Err (record { number = n })) xs n)
  told-found [] e = alike
  told-found (x ∷ xs) e =
      let h = ltb-true (number x) 255 (and_left _ (below number xs) e) in
      rw (capped_test n (number x) h) (pick (eqb n (number x)) x _ _ (told-found xs (and_right (ltb (number x) 255) _ e)))

module _ {E : Type 0} (number : E → ℕ) (cases : List E) (ends : below number cases ≡ true) (n : ℕ) where
  pub same_read : (reserved : E) {m : ℕ} → m ≡ capped n → read_of number cases reserved m ≡ read_of number cases reserved n
  unfolding read_of
  same_read reserved e = rw e (told-found (λ r. result_unwrap_or r reserved) number n refl cases ends)

  pub same_known : {m : ℕ} → m ≡ capped n → known_of number cases m ≡ known_of number cases n
  unfolding known_of
  same_known e = rw e (told-found is_ok number n refl cases ends)

pub direction-capped : (n : ℕ) {m : ℕ} → m ≡ capped n → (direction_read m ≡ direction_read n) × (direction_known m ≡ direction_known n)
direction-capped n e = (same_read direction_number directions refl n DirectionEnum.Shortest e, same_known direction_number directions refl n e)

pub move-mode-capped : (n : ℕ) {m : ℕ} → m ≡ capped n → (move_mode_read m ≡ move_mode_read n) × (move_mode_known m ≡ move_mode_known n)
move-mode-capped n e = (same_read move_mode_number move_modes refl n MoveModeEnum.Stop e, same_known move_mode_number move_modes refl n e)

pub step-mode-capped : (n : ℕ) {m : ℕ} → m ≡ capped n → (step_mode_read m ≡ step_mode_read n) × (step_mode_known m ≡ step_mode_known n)
step-mode-capped n e = (same_read step_mode_number step_modes refl n StepModeEnum.Down e, same_known step_mode_number step_modes refl n e)

pub loop-action-capped : (n : ℕ) {m : ℕ} → m ≡ capped n → (loop_action_read m ≡ loop_action_read n) × (loop_action_known m ≡ loop_action_known n)
loop-action-capped n e = (same_read loop_action_number loop_actions refl n ColorLoopActionEnum.Deactivate e, same_known loop_action_number loop_actions refl n e)

pub loop-direction-capped : (n : ℕ) {m : ℕ} → m ≡ capped n → (loop_direction_read m ≡ loop_direction_read n) × (loop_direction_known m ≡ loop_direction_known n)
loop-direction-capped n e = (same_read loop_direction_number loop_directions refl n ColorLoopDirectionEnum.Decrement e, same_known loop_direction_number loop_directions refl n e)

pub color-mode-capped : (n : ℕ) {m : ℕ} → m ≡ capped n → (color_mode_read m ≡ color_mode_read n) × (color_mode_known m ≡ color_mode_known n)
color-mode-capped n e = (same_read color_mode_number color_modes refl n ColorModeEnum.CurrentHueAndCurrentSaturation e, same_known color_mode_number color_modes refl n e)

pub enhanced-mode-capped : (n : ℕ) {m : ℕ} → m ≡ capped n → (enhanced_mode_read m ≡ enhanced_mode_read n) × (enhanced_mode_known m ≡ enhanced_mode_known n)
enhanced-mode-capped n e = (same_read enhanced_color_mode_number enhanced_color_modes refl n EnhancedColorModeEnum.CurrentHueAndCurrentSaturation e, same_known enhanced_color_mode_number enhanced_color_modes refl n e)

pub on-off-capped : (n : ℕ) {m : ℕ} → m ≡ capped n → (on_off_read m ≡ on_off_read n) × (on_off_known m ≡ on_off_known n)
on-off-capped n e = (same_read on_off_number on_offs refl n OnOff.Off e, same_known on_off_number on_offs refl n e)
