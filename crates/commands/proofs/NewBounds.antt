-- What accepted new bounds do: the mireds stay, or are the bound that they lie beyond.
use Prim.Native.Nat.{ℕ, ◌≤◌}
use mathlib.Core.Bool.{true}
use mathlib.Core.Path.{◌≡◌, refl, ap, ◌∙◌}
use native.Mathlib.Omega.{arith}
use Rattle.std.proofs.lemmas.Bool.Decides.{nat_tests}
use lib.Dec.{eqb}
use lib.IntN.{pos}
use borrow.Author.Tests.{lt-ltb, le-ltb, ltb-false, ne_eqb}
use Rattle.matter.specs.Causes.{accepted}
use Rattle.matter.specs.declared.limits.Bounds.{Bounds}
use Rattle.progress.proofs.Laws.{clamp-low, clamp-high, clamp-keeps}
use Rattle.color.specs.Bounded.{mireds_within, bounded}
use Rattle.lamp.specs.declared.Lamp.{Lamp}
use Rattle.lamp.specs.declared.Call.{Call}
use Rattle.lamp.proofs.Kept.{bounds-ready}
use Rattle.commands.specs.Answers.{cause, answer}
use Rattle.commands.proofs.Granted.{granted}
use Rattle.commands.specs.NewBounds.{NewBounds}
use Rattle.commands.proofs.Kept.{answer-both}

same : (n : ℕ) → eqb n n ≡ true
same n = grind (arith, nat_tests)

module _ (l : Lamp) (bounds : Bounds) (clock : ℕ) where
  -- accepted, it answers what is granted
  accepted-is : cause l (Call.SetBounds bounds clock) ≡ accepted → answer l (Call.SetBounds bounds clock) ≡ granted l (Call.SetBounds bounds clock)
  accepted-is z =
      answer-both l (λ a. a ≡ granted l (Call.SetBounds bounds clock)) (Call.SetBounds bounds clock) (λ e. refl) (λ n. absurd (n z))

  in-order : cause l (Call.SetBounds bounds clock) ≡ accepted → bounds.min ≤ bounds.max
  unfolding cause
  in-order z = ltb-false _ _ (bounds-ready l clock bounds z).1

  pub new_bounds : NewBounds l bounds clock
  unfolding bounded
  new_bounds =
      let c = l.color in
      record {
        inside =
            λ z h k.
            let stays : mireds_within c bounds ≡ c.mireds = clamp-keeps bounds.min bounds.max c.mireds h k in
            rw (accepted-is z, ap (λ n. eqb n c.mireds) stays ∙ same c.mireds, stays) refl;
        under =
            λ z h.
            let least : mireds_within c bounds ≡ bounds.min = clamp-low bounds.min bounds.max (pos c.mireds) (lt-ltb _ _ h) in
            rw (accepted-is z, ap (λ n. eqb n c.mireds) least ∙ ne_eqb bounds.min c.mireds (λ e. omega (arith, e)), least) refl;
        above =
            λ z h.
            let order : bounds.min ≤ bounds.max = in-order z in
            let most : mireds_within c bounds ≡ bounds.max = clamp-high bounds.min bounds.max (pos c.mireds) (le-ltb _ _ (omega arith)) (lt-ltb _ _ h) in
            rw (accepted-is z, ap (λ n. eqb n c.mireds) most ∙ ne_eqb bounds.max c.mireds (λ e. omega (arith, e)), most) refl;
      }
