-- The setters change and tell what document 01 says: one argument for the three of them.
use Prim.Native.Nat.{ℕ, ◌+◌, ◌≤◌, ◌<◌}
use mathlib.Core.Bool.{Bool, true, false, not, cond, ◌&&◌, ◌||◌, true≢false, and-false}
use mathlib.Core.List.{List, [], ◌∷◌, ◌++◌, append_assoc}
use mathlib.Core.Logic.{⊎_elim}
use mathlib.Core.Path.{◌≡◌, refl, sym, subst, ◌∙◌}
use lib.Dec.{eqb, leb}
use borrow.Author.Tests.{eqb-true, eqb-false, le-leb, lt-leb}
use Rattle.matter.specs.declared.enums.EnhancedColorModeEnum.{EnhancedColorModeEnum}
use Rattle.notices.specs.declared.Notice.{Notice}
use Rattle.notices.specs.Names.{notice_number, EnhancedCurrentHue}
use Rattle.notices.specs.Notices.{only}
use Rattle.color.specs.declared.Color.{Color}
use Rattle.color.specs.Setters.{due, same, change_notices, change_of, change_reported, hue_mode, kept_hue_mode, hue_set, hue_reported, saturation_set, mireds_set}
use Rattle.color.specs.Changes.{Attribute, Changes, hue_attribute, saturation_attribute, mireds_attribute, SettersChange}

-- a colour that is set: the number and the modes, with a stamp, and the rest as it was
record Set (a : Attribute) (c : Color) (new : ℕ) (after : ℕ → Color) : Type 0 where
  number : (s : ℕ) → a.number (after s) ≡ new
  mode : (s : ℕ) → (after s).mode ≡ a.mode
  emode : (s : ℕ) → a.EnhancedMode c.emode (after s).emode
  stamp : (s : ℕ) → a.stamp (after s) ≡ s
  rest : (s : ℕ) → a.others (after s) ≡ a.others c

module _ (a : Attribute) (c : Color) (new clock : ℕ) (active : Bool) (after : ℕ → Color) (s : Set a c new after) where
  -- the notices between 13 and 14, in one list
  joined : change_notices active true a.notices ≡ only (not active) 13 ++ a.notices ++ (6 ∷ 7 ∷ 14 ∷ [])
  joined = simp append_assoc

  -- a change: the number is another one, or it is an end; it is reported at an end or a second after the last
  changed : (end due : Bool) → (end ≡ false → a.number c ≡ new → ⊥) → (end ≡ true → due ≡ true) →
      (a.stamp c + 1000 ≤ clock → due ≡ true) → (end ≡ false → clock < a.stamp c + 1000 → due ≡ false) →
      Changes a c new end clock active (after (cond due clock (a.stamp c))) (change_notices active due a.notices)
  changed end due other ends old young =
      record {
        equal = λ same e. absurd (other e same);
        set = λ h. (s.number _, s.mode _, s.emode _);
        at-end = λ e. rw (ends e) (joined, s.stamp clock);
        after-a-second = λ n h. rw (old h) (joined, s.stamp clock);
        within-a-second = λ n e h. rw (young e h) (refl, s.stamp (a.stamp c));
        rest = s.rest _;
      }

  -- by whether the numbers are equal, it is an end, and the last notice is a second old
  module _ (notice : Notice) (enhanced : Bool) (its : (notice_number notice ∷ only enhanced EnhancedCurrentHue) ≡ a.notices) where
    with_its : (end due : Bool) →
        Changes a c new end clock active (after (cond due clock (a.stamp c))) (change_notices active due a.notices) →
        Changes a c new end clock active (after (cond due clock (a.stamp c))) (change_notices active due (notice_number notice ∷ only enhanced EnhancedCurrentHue))
    with_its end due =
        subst (λ (xs : List ℕ). Changes a c new end clock active (after (cond due clock (a.stamp c))) (change_notices active due xs)) (sym its)

    by : (t end d : Bool) → eqb (a.number c) new ≡ t → leb (a.stamp c + 1000) clock ≡ d →
        Changes a c new end clock active
        (cond (t && not end) c (after (cond (end || d) clock (a.stamp c))))
        (change_reported (change_of (t && not end) (end || d) notice enhanced) active)
    by t true d e f =
        rw and-false
        (with_its true true (changed true true (λ h. absurd (true≢false h)) (λ h. refl) (λ h. refl) (λ h. absurd (true≢false h))))
    by true false d e f =
        let same : a.number c ≡ new = eqb-true _ _ e in
        record {
          equal = λ h k. (refl, refl);
          set = λ h. ⊎_elim (λ n. absurd (n same)) (λ k. absurd (true≢false (sym k))) h;
          at-end = λ k. absurd (true≢false (sym k));
          after-a-second = λ n h. absurd (n same);
          within-a-second = λ n h k. absurd (n same);
          rest = refl;
        }
    by false false d e f =
        with_its false d
        (changed false d (λ h. eqb-false _ _ e) (λ h. absurd (true≢false (sym h))) (λ h. sym f ∙ le-leb _ _ h) (λ k h. sym f ∙ lt-leb _ _ h))

    follows : (end : Bool) →
        Changes a c new end clock active
        (cond (same (a.number c) new end) c (after (cond (due end (a.stamp c) clock) clock (a.stamp c))))
        (change_reported (change_of (same (a.number c) new end) (due end (a.stamp c) clock) notice enhanced) active)
    follows end = by (eqb (a.number c) new) end (leb (a.stamp c + 1000) clock) refl refl

-- ---- the three setters

hue-emode : (enhanced : Bool) (old : EnhancedColorModeEnum) → (hue_attribute enhanced).EnhancedMode old (hue_mode enhanced)
hue-emode true old = (λ e. refl, λ e. absurd (true≢false e))
hue-emode false old = (λ e. absurd (true≢false (sym e)), λ e. refl)

kept-emode : (old : EnhancedColorModeEnum) → saturation_attribute.EnhancedMode old (kept_hue_mode old)
kept-emode EnhancedColorModeEnum.CurrentHueAndCurrentSaturation = (λ e. refl, λ e. refl)
kept-emode EnhancedColorModeEnum.CurrentXAndCurrentY = (λ e. absurd (true≢false (sym e)), λ e. refl)
kept-emode EnhancedColorModeEnum.ColorTemperatureMireds = (λ e. absurd (true≢false (sym e)), λ e. refl)
kept-emode EnhancedColorModeEnum.EnhancedCurrentHueAndCurrentSaturation = (λ e. refl, λ e. absurd (true≢false e))

module _ (c : Color) (new : ℕ) (end : Bool) (clock : ℕ) (active : Bool) where
  hue-changes : (enhanced : Bool) →
      Changes (hue_attribute enhanced) c new end clock active (hue_set c new end enhanced clock) (hue_reported c new end enhanced clock active)
  unfolding hue_set
  hue-changes enhanced =
      follows (hue_attribute enhanced) c new clock active _
      (record { number = λ s. refl; mode = λ s. refl; emode = λ s. hue-emode enhanced c.emode; stamp = λ s. refl; rest = λ s. refl }) Notice.CurrentHue enhanced refl end

  pub setters-change : SettersChange c new end clock active
  unfolding saturation_set mireds_set
  setters-change =
      record {
        hue = hue-changes;
        saturation =
            follows saturation_attribute c new clock active _
            (record { number = λ s. refl; mode = λ s. refl; emode = λ s. kept-emode c.emode; stamp = λ s. refl; rest = λ s. refl }) Notice.CurrentSaturation false refl end;
        mireds =
            follows mireds_attribute c new clock active _
            (record { number = λ s. refl; mode = λ s. refl; emode = λ s. refl; stamp = λ s. refl; rest = λ s. refl }) Notice.ColorTemperatureMireds false refl end;
      }
