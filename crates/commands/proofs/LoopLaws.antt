-- Laws that the proofs of the loop's command cite: its notices, put in front of one another, are the definition's list.
use Rattle.std.specs.Prelude.{None}
use Prim.Native.Nat.{ℕ}
use mathlib.Core.Bool.{Bool, true, false, not, cond}
use mathlib.Core.List.{List, [], ◌∷◌, ◌++◌, append_assoc}
use mathlib.Core.Path.{◌≡◌, refl, ap}
use Rattle.matter.specs.declared.enums.ColorLoopActionEnum.{ColorLoopActionEnum}
use Rattle.notices.specs.declared.Numeral.{Numeral}
use Rattle.notices.specs.Notices.{only}
use Rattle.notices.specs.Numerals.{empty, consed, in_front}
use Rattle.notices.proofs.Numerals.{in-front-append}
use Rattle.color.specs.declared.Color.{Color}
use Rattle.color.specs.Setters.{hue_change, hue_reported, change_reported}
use Rattle.lamp.specs.declared.Lamp.{Lamp}
use Rattle.commands.specs.declared.outcomes.Outcome.{Outcome}
use Rattle.commands.specs.Commands.{CommandEffect, skip, deactivated, activated, acted}
use Rattle.commands.specs.Inner.{accepted_outcome}

-- the flags' notices
pub flags-in-front : (l : Numeral) (a b c : Bool) →
    in_front (only a 9) (in_front (only b 10) (in_front (only c 11) (consed l 13))) ≡ in_front (only a 9 ++ only b 10 ++ only c 11 ++ (13 ∷ [])) l
unfolding in_front
flags-in-front l true true true = refl
flags-in-front l true true false = refl
flags-in-front l true false true = refl
flags-in-front l true false false = refl
flags-in-front l false true true = refl
flags-in-front l false true false = refl
flags-in-front l false false true = refl
flags-in-front l false false false = refl

-- off: a task, the loop, the setter's notices, the device
off-in-front : (xs : List ℕ) → consed (consed (in_front xs (consed empty 15)) 8) 17 ≡ in_front (17 ∷ 8 ∷ (xs ++ (15 ∷ []))) empty
unfolding in_front
off-in-front xs = ap (λ m. consed (consed m 8) 17) (in-front-append xs (15 ∷ []) empty)

-- on: the stored hue and the loop, the setter's notices, the device, a task
on-in-front : (active : Bool) (xs : List ℕ) →
    in_front (only (not active) 12) (in_front (only (not active) 8) (in_front xs (consed (consed empty 17) 15)))
    ≡ in_front (cond active [] (12 ∷ 8 ∷ []) ++ xs ++ (15 ∷ 17 ∷ [])) empty
unfolding in_front
on-in-front true xs = in-front-append xs (15 ∷ 17 ∷ []) empty
on-in-front false xs = ap (λ m. consed (consed m 8) 12) (in-front-append xs (15 ∷ 17 ∷ []) empty)

module _ (c : Color) (new clock : ℕ) where
  pub off-change :
      consed (consed (in_front (change_reported (hue_change c new true true clock) false) (consed empty 15)) 8) 17
      ≡ in_front (17 ∷ 8 ∷ (hue_reported c new true true clock false ++ (15 ∷ []))) empty
  off-change = off-in-front _

  pub on-change : (active : Bool) →
      in_front (only (not active) 12) (in_front (only (not active) 8) (in_front (change_reported (hue_change c new true true clock) true) (consed (consed empty 17) 15)))
      ≡ in_front (cond active [] (12 ∷ 8 ∷ []) ++ hue_reported c new true true clock true ++ (15 ∷ 17 ∷ [])) empty
  on-change active = on-in-front active _

-- ---- what was reported so far stands before what the action reports

-- an outcome with these notices in front
abbrev fronted : List ℕ → CommandEffect → Outcome
fronted reported e =
    record {
      color = e.lamp.color;
      looping = e.lamp.looping;
      reported = in_front reported (in_front e.reported empty);
      task = e.task;
    }

-- two choices by one test
both : {A : Type 0} (R : A → A → Type 0) (t : Bool) {a b c d : A} → R a c → R b d → R (cond t a b) (cond t c d)
both R true p q = p
both R false p q = q

module _ (l : Lamp) (reported : List ℕ) where
  -- no action
  still : fronted reported (skip l) ≡ accepted_outcome (record { lamp = l; reported = reported; task = None })
  unfolding in_front
  still = refl

  off : fronted reported (deactivated l []) ≡ accepted_outcome (deactivated l reported)
  unfolding deactivated
  off =
      both (λ (x y : CommandEffect). fronted reported x ≡ accepted_outcome y) l.looping.active
      (simp (in-front-append, append_assoc))
      still

  on : (seed : ℕ) → fronted reported (activated l [] seed) ≡ accepted_outcome (activated l reported seed)
  unfolding activated
  on seed = simp (in-front-append, append_assoc)

  acted-fronted : (action : ColorLoopActionEnum) → fronted reported (acted l [] action) ≡ accepted_outcome (acted l reported action)
  acted-fronted ColorLoopActionEnum.Deactivate = off
  acted-fronted ColorLoopActionEnum.ActivateFromColorLoopStartEnhancedHue = on l.looping.start
  acted-fronted ColorLoopActionEnum.ActivateFromEnhancedCurrentHue = on l.color.hue

  -- with or without an action
  pub done-fronted : (acts : Bool) (action : ColorLoopActionEnum) →
      fronted reported (cond acts (acted l [] action) (skip l))
      ≡ accepted_outcome (cond acts (acted l reported action) (record { lamp = l; reported = reported; task = None }))
  done-fronted true action = acted-fronted action
  done-fronted false action = still
