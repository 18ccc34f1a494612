-- A command's answer is built from the lamp and its outcome: no command changes the rest, and its list fits.
use Prim.Native.Nat.{ℕ, ◌<◌}
use mathlib.Core.Bool.{Bool, true, false, cond}
use mathlib.Core.List.{List, [], ◌∷◌}
use mathlib.Core.Path.{◌≡◌, ◌∙◌, refl}
use native.Mathlib.Nat.{le_trans}
use native.Mathlib.Omega.{arith}
use Rattle.matter.specs.declared.commands.Request.{Request}
use Rattle.matter.specs.declared.enums.ColorLoopActionEnum.{ColorLoopActionEnum}
use Rattle.matter.specs.declared.enums.ColorLoopDirectionEnum.{ColorLoopDirectionEnum}
use Rattle.matter.specs.declared.enums.OnOff.{OnOff}
use Rattle.matter.specs.Flags.{has_flag, update_action, update_direction, update_time, update_start_hue}
use Rattle.matter.proofs.Laws.{cond_both}
use Rattle.notices.specs.Notices.{noted}
use Rattle.notices.specs.Numerals.{empty, in_front, placed}
use Rattle.notices.proofs.Numerals.{Below, Bytes, none, more, below-append, below-only, placed-noted}
use Rattle.color.specs.declared.Color.{Color}
use Rattle.color.specs.Setters.{same, change_of, hue_change, hue_reported}
use Rattle.notices.specs.declared.Notice.{Notice}
use Rattle.matter.specs.Causes.{Verdict}
use Rattle.std.specs.Prelude.{Ok, Err, is_ok}
use Rattle.color.proofs.Laws.{AttributeBelow, change-below}
use Rattle.lamp.specs.declared.Answer.{Answer}
use Rattle.lamp.specs.declared.Lamp.{Lamp}
use Rattle.lamp.specs.Answers.{at_clock, bad_clock, first_cause}
use Rattle.lamp.specs.Valid.{lamp_valid}
use Rattle.commands.specs.declared.outcomes.Outcome.{Outcome}
use Rattle.commands.specs.Answers.{command_cause, command_done, command_answer}
use Rattle.commands.specs.Commands.{CommandEffect, skip, checks, with_loop, updated_reported, acted, deactivated, activated, loop_set}
use Rattle.commands.specs.Inner.{verdict_of, accepted_outcome}
use Rattle.commands.proofs.Kept.{done-by, done-any, commands-few}

-- ---- a command reports bytes, and the colour loop's nothing from 18 on

module _ (bound : ℕ) (high : 17 < bound) where
  hue-below : (c : Color) (new : ℕ) (clock : ℕ) (active : Bool) → Below bound (hue_reported c new true true clock active)
  hue-below c new clock active = change-below bound (omega arith) (hue_change c new true true clock) active (attribute-below (same c.hue new true) _)
    where
      attribute-below : (same due : Bool) → AttributeBelow bound (change_of same due Notice.CurrentHue true)
      attribute-below true due = tt
      attribute-below false due = omega arith

  updated-below : (flags : ℕ) → Below bound (updated_reported flags)
  updated-below flags =
      below-append
      (below-append (below-append (below-only (has_flag flags update_direction) 9 (omega arith)) (below-only (has_flag flags update_time) 10 (omega arith))) (below-only (has_flag flags update_start_hue) 11 (omega arith)))
      (more {x = 13} (omega arith) none)

  stored-below : (active : Bool) → Below bound (cond active [] (12 ∷ 8 ∷ []))
  stored-below true = none
  stored-below false = more {x = 12} (omega arith) (more {x = 8} (omega arith) none)

  activated-below : (l : Lamp) (reported : List ℕ) (seed : ℕ) → Below bound reported → Below bound (activated l reported seed).reported
  unfolding activated
  activated-below l reported seed b =
      below-append
      (below-append (below-append b (stored-below l.looping.active)) (hue-below l.color seed l.clock true))
      (more {x = 15} (omega arith) (more {x = 17} (omega arith) none))

  acted-below : (l : Lamp) (reported : List ℕ) (action : ColorLoopActionEnum) → Below bound reported → Below bound (acted l reported action).reported
  unfolding deactivated
  acted-below l reported ColorLoopActionEnum.Deactivate b =
      cond_both (λ (e : CommandEffect). Below bound e.reported) l.looping.active _ _
      (λ e. below-append
      (below-append (below-append b (more {x = 17} (omega arith) (more {x = 8} (omega arith) none)))
      (hue-below l.color l.looping.stored l.clock false))
      (more {x = 15} (omega arith) none))
      (λ e. b)
  acted-below l reported ColorLoopActionEnum.ActivateFromColorLoopStartEnhancedHue b = activated-below l reported l.looping.start b
  acted-below l reported ColorLoopActionEnum.ActivateFromEnhancedCurrentHue b = activated-below l reported l.color.hue b

  pub loop-below : (l : Lamp) (flags : ℕ) (action : ColorLoopActionEnum) (direction : ColorLoopDirectionEnum) (time hue : ℕ) →
      Below bound (loop_set l flags action direction time hue).reported
  unfolding loop_set
  loop-below l flags action direction time hue =
      cond_both (λ (e : CommandEffect). Below bound e.reported) (has_flag flags update_action) _ _
      (λ a. acted-below _ _ action (updated-below flags)) (λ a. updated-below flags)

commands-bytes : (l : Lamp) (r : Request) (on_off : OnOff) → Bytes (command_done l r on_off).reported
commands-bytes l r on_off =
    done-by l (λ (e : CommandEffect). Bytes e.reported) (λ t tie. more {x = 17} (omega arith) (below-only tie 18 (omega arith))) r on_off none
    (λ flags action direction time hue e. loop-below 256 (omega arith) l flags action direction time hue)

-- ---- the answer

-- the answer from the lamp before, the clock, the verdict and what is done
abbrev pub answer_of : Lamp → ℕ → Verdict → Outcome → Answer
answer_of l clock v o =
    record {
      verdict = v;
      lamp = with_loop (at_clock l (cond (is_ok v) clock l.clock)) o.color o.looping;
      notices = placed o.reported;
      task = o.task;
      wait = 0;
    }

no-list : placed (in_front [] empty) ≡ noted []
no-list = placed-noted [] none (omega arith)

module _ (l : Lamp) (r : Request) (on_off : OnOff) (clock : ℕ) where
  abbrev at : Lamp
  at = at_clock l clock

  abbrev done : CommandEffect
  done = command_done at r on_off

  list : placed (in_front done.reported empty) ≡ noted done.reported
  list = placed-noted done.reported (commands-bytes at r on_off) (le_trans (commands-few at r on_off) (omega arith))

  lamp : with_loop at done.lamp.color done.lamp.looping ≡ done.lamp
  lamp = done-any at (λ m. with_loop at m.color m.looping ≡ m) (λ c s. refl) r on_off

  built-by : (v : Verdict) → command_cause l r clock ≡ v →
      answer_of l clock v (accepted_outcome (cond (is_ok v) done (skip l))) ≡ command_answer l r on_off clock
  unfolding command_answer
  built-by (Ok u) z = simp (z, list, lamp)
  built-by (Err cause) z = simp (z, no-list)

  cause-by : lamp_valid l ≡ true → (bad : Bool) → bad_clock l clock ≡ bad →
      command_cause l r clock ≡ verdict_of l (checks r.command) clock
  unfolding command_cause first_cause
  cause-by f true b = simp (f, b)
  cause-by f false b = simp (f, b)

  -- of a valid lamp
  pub built : lamp_valid l ≡ true → (v : Verdict) → verdict_of l (checks r.command) clock ≡ v →
      answer_of l clock v (accepted_outcome (cond (is_ok v) done (skip l))) ≡ command_answer l r on_off clock
  built f v z = built-by v (cause-by f (bad_clock l clock) refl ∙ z)
