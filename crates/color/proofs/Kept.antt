-- The setters keep the form of the colour at the clock they set it at, validity lasts as the clock goes on, and a setter reports few notices.
use Prim.Native.Nat.{ℕ, ◌+◌, ◌≤◌}
use mathlib.Core.Bool.{Bool, true, false, cond}
use mathlib.Core.List.{List, ◌∷◌}
use mathlib.Core.Path.{◌≡◌, refl}
use native.Mathlib.Omega.{arith}
use lib.Dec.{leb}
use lib.ListN.{length, length-append}
use borrow.Author.Tests.{leb-true, le-leb, ltb-false}
use Rattle.matter.specs.declared.limits.Bounds.{Bounds}
use Rattle.matter.specs.Bounds.{crossed}
use Rattle.matter.specs.declared.enums.ColorModeEnum.{ColorModeEnum}
use Rattle.matter.specs.declared.enums.EnhancedColorModeEnum.{EnhancedColorModeEnum}
use Rattle.matter.proofs.Laws.{cond_both, leb-later, each, all_of}
use Rattle.matter.specs.Limits.{saturation_limit}
use Rattle.matter.specs.InRange.{Short}
use Rattle.std.specs.Prelude.{Option, Some, None}
use Rattle.notices.specs.Names.{EnhancedCurrentHue, notice_number}
use Rattle.notices.specs.Notices.{only}
use Rattle.color.specs.declared.Change.{Change}
use Rattle.color.specs.declared.Color.{Color}
use Rattle.color.specs.Valid.{modes_agree, color_valid}
use Rattle.color.specs.Bounded.{mireds_within, mireds_move, bounded}
use Rattle.progress.proofs.Laws.{clamp-within}
use Rattle.color.specs.Setters.{due, change_notices, change_reported, same, hue_mode, kept_hue_mode, hue_set, saturation_set, mireds_set}

-- ---- validity lasts

-- a valid colour is valid at a later clock
pub color-later : (c : Color) (bounds : Bounds) (clock more : ℕ) → color_valid c bounds clock ≡ true → clock ≤ more → color_valid c bounds more ≡ true
unfolding color_valid
color-later c bounds clock more validity h =
    let (s, (a, (b, (o, (m, (x, (y, (z, tt)))))))) = each _ validity in
    all_of _ (s, (a, (b, (o, (m, (leb-later _ clock more x h, (leb-later _ clock more y h, (leb-later _ clock more z h, tt))))))))

-- ---- the numbers of a valid colour

module _ (c : Color) (bounds : Bounds) (clock : ℕ) (validity : color_valid c bounds clock ≡ true) where
  -- its saturation is at most 254
  pub valid-saturation : c.saturation ≤ saturation_limit
  unfolding color_valid
  valid-saturation = leb-true _ _ (each _ validity).0

  -- its mireds are no less than the lower bound
  pub valid-above : bounds.min ≤ c.mireds
  unfolding color_valid
  valid-above = leb-true _ _ (each _ validity).1.0

  -- and no more than the upper one
  pub valid-below : c.mireds ≤ bounds.max
  unfolding color_valid
  valid-below = leb-true _ _ (each _ validity).1.1.0

  -- no stamp is after the clock
  pub valid-stamps : (c.stamps.hue ≤ clock) × (c.stamps.saturation ≤ clock) × (c.stamps.mireds ≤ clock)
  unfolding color_valid
  valid-stamps =
      let (s, (a, (b, (o, (m, (x, (y, (z, tt)))))))) = each _ validity in
      (leb-true _ _ x, leb-true _ _ y, leb-true _ _ z)

-- ---- a setter keeps validity

-- a stamp that is set or kept is at most the clock
stamped : (t : Bool) (stamp clock : ℕ) → leb stamp clock ≡ true → leb (cond t clock stamp) clock ≡ true
stamped true stamp clock e = le-leb clock clock (omega arith)
stamped false stamp clock e = e

-- the modes that `set_hue` sets agree
hue-modes : (enhanced : Bool) → modes_agree ColorModeEnum.CurrentHueAndCurrentSaturation (hue_mode enhanced) ≡ true
hue-modes true = refl
hue-modes false = refl

-- and so do those that `set_saturation` sets
kept-modes : (e : EnhancedColorModeEnum) → modes_agree ColorModeEnum.CurrentHueAndCurrentSaturation (kept_hue_mode e) ≡ true
kept-modes EnhancedColorModeEnum.CurrentHueAndCurrentSaturation = refl
kept-modes EnhancedColorModeEnum.CurrentXAndCurrentY = refl
kept-modes EnhancedColorModeEnum.ColorTemperatureMireds = refl
kept-modes EnhancedColorModeEnum.EnhancedCurrentHueAndCurrentSaturation = refl

module _ (c : Color) (bounds : Bounds) (clock : ℕ) (validity : color_valid c bounds clock ≡ true) where
  -- `set_hue` keeps validity
  pub hue-kept : (new : ℕ) (end enhanced : Bool) → color_valid (hue_set c new end enhanced clock) bounds clock ≡ true
  unfolding color_valid hue_set
  hue-kept new end enhanced =
      let (s, (a, (b, (o, (m, (x, (y, (z, tt)))))))) = each _ validity in
      cond_both (λ d. color_valid d bounds clock ≡ true) (same c.hue new end) _ _ (λ e. validity)
      (λ e. all_of _ (s, (a, (b, (o, (hue-modes enhanced, (stamped (due end c.stamps.hue clock) _ clock x, (y, (z, tt)))))))))

  -- `set_saturation` keeps validity, up to 254
  pub saturation-kept : (new : ℕ) (end : Bool) → new ≤ saturation_limit → color_valid (saturation_set c new end clock) bounds clock ≡ true
  unfolding color_valid saturation_set
  saturation-kept new end h =
      let (s, (a, (b, (o, (m, (x, (y, (z, tt)))))))) = each _ validity in
      cond_both (λ d. color_valid d bounds clock ≡ true) (same c.saturation new end) _ _ (λ e. validity)
      (λ e. all_of _ (le-leb new saturation_limit h, (a, (b, (o, (kept-modes c.emode, (x, (stamped (due end c.stamps.saturation clock) _ clock y, (z, tt)))))))))

  -- `set_color_temperature` keeps validity, within the bounds
  pub mireds-kept : (new : ℕ) (end : Bool) → bounds.min ≤ new → new ≤ bounds.max → color_valid (mireds_set c new end clock) bounds clock ≡ true
  unfolding color_valid mireds_set
  mireds-kept new end h k =
      let (s, (a, (b, (o, (m, (x, (y, (z, tt)))))))) = each _ validity in
      cond_both (λ d. color_valid d bounds clock ≡ true) (same c.mireds new end) _ _ (λ e. validity)
      (λ e. all_of _ (s, (le-leb _ _ h, (le-leb _ _ k, (o, (refl, (x, (y, (stamped (due end c.stamps.mireds clock) _ clock z, tt)))))))))

-- ---- new bounds that are not crossed

module _ (c : Color) (old new : Bounds) (clock : ℕ) (validity : color_valid c old clock ≡ true) (uncrossed : crossed new ≡ false) where
  -- the colour under them is valid under them
  pub bounded-valid : color_valid (bounded c new clock) new clock ≡ true
  unfolding color_valid bounded
  bounded-valid =
      let (s, (a, (b, (o, (m, (x, (y, (z, tt)))))))) = each _ validity in
      let order : new.min ≤ new.max = ltb-false new.max new.min uncrossed in
      let now : (new.min ≤ mireds_within c new) × (mireds_within c new ≤ new.max) = clamp-within new.min new.max _ order in
      all_of _ (s, (le-leb _ _ now.0, (le-leb _ _ now.1, (le-leb _ _ order, (m, (x, (y, (stamped (mireds_move c new) _ clock z, tt))))))))

-- ---- the hue that a setter leaves

module _ (c : Color) (new : ℕ) (end : Bool) (clock : ℕ) where
  -- `set_hue` leaves the old hue or the new one
  pub hue-word : (enhanced : Bool) → Short c.hue → Short new → Short (hue_set c new end enhanced clock).hue
  unfolding hue_set
  hue-word enhanced h k = cond_both (λ (d : Color). Short d.hue) (same c.hue new end) _ _ (λ e. h) (λ e. k)

  -- `set_saturation` leaves the hue
  pub saturation-hue : (saturation_set c new end clock).hue ≡ c.hue
  unfolding saturation_set
  saturation-hue = cond_both (λ (d : Color). d.hue ≡ c.hue) (same c.saturation new end) _ _ (λ e. refl) (λ e. refl)

  -- `set_color_temperature` leaves the hue
  pub mireds-hue : (mireds_set c new end clock).hue ≡ c.hue
  unfolding mireds_set
  mireds-hue = cond_both (λ (d : Color). d.hue ≡ c.hue) (same c.mireds new end) _ _ (λ e. refl) (λ e. refl)

-- ---- a setter reports few

-- a setter that sets reports four notices and its attribute's, or fewer
reported-few : (active reported : Bool) (attributes : List ℕ) → length (change_notices active reported attributes) ≤ 4 + length attributes
reported-few true true xs = simp length-append (omega arith)
reported-few true false xs = omega arith
reported-few false true xs = simp length-append (omega arith)
reported-few false false xs = omega arith

-- a change of an enhanced hue
abbrev pub enhanced_change : Option Change → Bool
enhanced_change None = false
enhanced_change (Some change) = change.enhanced

-- a change reports at most five, and one more where it is of an enhanced hue
pub change-few : (change : Option Change) (active : Bool) → length (change_reported change active) ≤ 5 + length (only (enhanced_change change) EnhancedCurrentHue)
change-few None active = omega arith
change-few (Some change) active =
    omega
    (arith, reported-few active change.due (notice_number change.attribute ∷ only change.enhanced EnhancedCurrentHue))
