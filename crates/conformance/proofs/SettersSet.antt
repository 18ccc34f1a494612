-- The setters set the number that they are given, whether they tell or not, and leave the others.
use Prim.Native.Nat.{ℕ}
use mathlib.Core.Bool.{Bool, not, cond}
use mathlib.Core.Path.{◌≡◌, refl}
use lib.Dec.{eqb}
use borrow.Author.Tests.{eqb-true}
use Rattle.matter.proofs.Laws.{and_left, cond_both}
use Rattle.color.specs.declared.Color.{Color}
use Rattle.color.specs.Setters.{same, hue_set, saturation_set, mireds_set}

module _ (f : Color → ℕ) (c d : Color) where
  set-by : (new : ℕ) (end : Bool) → f d ≡ new → f (cond (same (f c) new end) c d) ≡ new
  set-by new end e =
      cond_both (λ (x : Color). f x ≡ new) (same (f c) new end) c d
      (λ s. eqb-true (f c) new (and_left (eqb (f c) new) (not end) s))
      (λ s. e)

  left_by : (t : Bool) → f d ≡ f c → f (cond t c d) ≡ f c
  left_by t e = cond_both (λ (x : Color). f x ≡ f c) t c d (λ s. refl) (λ s. e)

pub hue-is-set : (c : Color) (new : ℕ) (end enhanced : Bool) (clock : ℕ) → (hue_set c new end enhanced clock).hue ≡ new
unfolding hue_set
hue-is-set c new end enhanced clock = set-by (λ x. x.hue) c _ new end refl

pub hue-leaves : (c : Color) (new : ℕ) (end enhanced : Bool) (clock : ℕ) →
    ((hue_set c new end enhanced clock).saturation ≡ c.saturation)
    × ((hue_set c new end enhanced clock).mireds ≡ c.mireds)
unfolding hue_set
hue-leaves c new end enhanced clock =
    let t : Bool = same c.hue new end in
    (left_by (λ x. x.saturation) c _ t refl, left_by (λ x. x.mireds) c _ t refl)

module _ (c : Color) (new : ℕ) (end : Bool) (clock : ℕ) where
  pub saturation-is-set : (saturation_set c new end clock).saturation ≡ new
  unfolding saturation_set
  saturation-is-set = set-by (λ x. x.saturation) c _ new end refl

  pub saturation-leaves : ((saturation_set c new end clock).hue ≡ c.hue)
      × ((saturation_set c new end clock).mireds ≡ c.mireds)
  unfolding saturation_set
  saturation-leaves =
      let t : Bool = same c.saturation new end in
      (left_by (λ x. x.hue) c _ t refl, left_by (λ x. x.mireds) c _ t refl)

  pub mireds-is-set : (mireds_set c new end clock).mireds ≡ new
  unfolding mireds_set
  mireds-is-set = set-by (λ x. x.mireds) c _ new end refl

  pub mireds-leaves : ((mireds_set c new end clock).hue ≡ c.hue)
      × ((mireds_set c new end clock).saturation ≡ c.saturation)
  unfolding mireds_set
  mireds-leaves =
      let t : Bool = same c.mireds new end in
      (left_by (λ x. x.hue) c _ t refl, left_by (λ x. x.saturation) c _ t refl)
