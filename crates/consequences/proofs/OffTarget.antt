-- Where a fade ends whose hue moved between command and start, proved: until done the lamp runs the way that the command fixed
-- from the hue that the start found, and the whole of that way leads to the target and as far beside it as that hue is from the
-- one that the command found.
use Rattle.std.proofs.lemmas.Bool.{cases_Bool}
use Prim.Native.Nat.{ℕ, suc, ◌+◌, ◌-◌, ◌%◌, ◌<◌, ◌≤◌}
use mathlib.Core.Bool.{Bool, true, false, not, ◌&&◌, ◌||◌, and-true}
use mathlib.Core.List.{List, [], ◌∷◌}
use mathlib.Core.Logic.{◌⊎◌, inl, inr}
use mathlib.Core.Path.{◌≡◌, refl, sym, ◌∙◌, ap, subst}
use native.Mathlib.Nat.{le_refl}
use native.Mathlib.Omega.{arith}
use lib.Dec.{leb, eqb}
use lib.IntN.{ℤ, pos, negsuc, neg_ℤ, ◌-ℤ◌, +ℤ_assoc}
use borrow.Author.Tests.{leb-true, not-true}
use Rattle.hue.specs.Hue.{modulo, moved_hue}
use Rattle.hue.proofs.Laws.{moved_up, moved_down, arrives}
use Rattle.progress.specs.Progress.{part_of}
use Rattle.progress.proofs.Laws.{permille-most, part-whole}
use Rattle.color.specs.Bounded.{bounded}
use Rattle.tasks.specs.declared.Running.{Running}
use Rattle.lamp.specs.declared.Lamp.{Lamp}
use Rattle.lamp.specs.Answers.{at_clock}
use Rattle.lamp.specs.Calls.{start_permille, started, stepped, hue_saturation_start}
use Rattle.lamp.proofs.Passed.{with_full_time}
use Rattle.lamp.specs.Passes.{hue_saturation_pass, hue_saturation_moved, timed}
use Rattle.lamp.specs.declared.Call.{Call}
use Rattle.commands.specs.Answers.{is_loop_set}
use Rattle.commands.proofs.Kept.{quiet-command}
use Rattle.schedule.specs.Calls.{next, after, accepts, idle, interrupts, quiet}
use Rattle.schedule.specs.Schedule.{Fed, target, time, delta_from, task_of}
use Rattle.schedule.specs.Claim.{fed}
use Rattle.schedule.specs.Fades.{finds, found, ready, start_call, begun, later}
use Rattle.schedule.proofs.Tests.{never}
use Rattle.schedule.proofs.Pass.{run_from, set_is}
use Rattle.schedule.proofs.Accepts.{no-cause, refused-keeps, accepted-is}
use Rattle.schedule.proofs.Lists.{quiet-front, quiet-call}
use Rattle.consequences.specs.OffTarget.{OffTarget}
use Rattle.consequences.proofs.Kept.{found-small, aim-small}

-- ---- a way begun elsewhere

-- a target moved by the difference of two hues
beside-is : (t h h' : ℕ) → h < 65536 → moved_hue t (pos h' -ℤ pos h) ≡ (t + h' + (65536 - h)) % 65536
unfolding moved_hue
beside-is t h h' s = ap modulo (sym (+ℤ_assoc (pos t) (pos h') (neg_ℤ (pos h)))) ∙ moved_down (t + h') h ∙ omega arith

-- a way that leads from one hue to the target leads from another as far beside it
leads-beside : (way : ℤ) (t h h' : ℕ) → h < 65536 → moved_hue h way ≡ t → moved_hue h' way ≡ moved_hue t (pos h' -ℤ pos h)
leads-beside (pos n) t h h' s e = let k = sym (moved_up h n) ∙ e in moved_up h' n ∙ omega arith ∙ sym (beside-is t h h' s)
leads-beside (negsuc n) t h h' s e =
    let k = sym (moved_down h (suc n)) ∙ e in
    moved_down h' (suc n) ∙ omega arith ∙ sym (beside-is t h h' s)

-- ---- until done

-- the fade, from the hue and the saturation that the start found
module _ (f : Fed) (hue saturation : ℕ) where
  -- the lamp runs it, or is idle where the whole way leads
  abbrev Underway : Lamp → Type 0
  Underway l = (l.running ≡ Running.HueSaturationMoveTo (run_from f hue saturation)) ⊎ ((l.running ≡ Running.Idle) × (l.color.hue ≡ moved_hue hue (delta_from f.fade f.found)))

  -- one pass
  passes : (l : Lamp) (p : ℕ) → p ≤ 1000 → Underway (hue_saturation_pass l (run_from f hue saturation) p).lamp
  unfolding hue_saturation_moved timed
  passes l p h =
      elim (cases_Bool (leb 1000 p)) [
        | inl e ↦
            let k : p ≡ 1000 = let z = leb-true 1000 p e in omega arith in
            rw e (inr (refl, set_is l.color _ true f.fade.enhanced l.clock ∙ ap (λ (q : ℕ). moved_hue hue (part_of (delta_from f.fade f.found) q)) k ∙ ap (moved_hue hue) (part-whole (delta_from f.fade f.found))))
        | inr e ↦ rw e (inl refl)
      ]

  -- a step of what runs
  steps_on : (l : Lamp) (clock : ℕ) → Underway l → Underway (stepped (at_clock l clock) l.running).lamp
  unfolding stepped
  steps_on l clock (inl r) =
      subst (λ (run : Running). Underway (stepped (at_clock l clock) run).lamp) (sym r)
      (passes (at_clock l clock) _ (permille-most (clock - f.start) (time f.fade)))
  steps_on l clock (inr r) = subst (λ (run : Running). Underway (stepped (at_clock l clock) run).lamp) (sym r.0) (inr (refl, r.1))

  accepted-on : (l : Lamp) (x : Call) → Underway l → not (interrupts x && accepts l x) ≡ true → accepts l x ≡ true → Underway (next l x)
  unfolding bounded
  accepted-on l (Call.Command r on_off clock) u q a =
      let z : is_loop_set r.command ≡ false = not-true (is_loop_set r.command) (rw (a, and-true) at q) in
      rw (quiet-command l r on_off clock z (no-cause l (Call.Command r on_off clock) a)) u
  accepted-on l (Call.Start task clock) u q a = never a (not-true (accepts l (Call.Start task clock)) q)
  accepted-on l (Call.Step clock) u q a = rw (next, accepted-is l (Call.Step clock) a) (steps_on l clock u)
  accepted-on l (Call.Halt clock) u q a = never a (not-true (accepts l (Call.Halt clock)) q)
  accepted-on l (Call.SetBounds bounds clock) u q a = rw (next, accepted-is l (Call.SetBounds bounds clock) a) u

  -- a quiet list
  goes_on : (xs : List Call) (l : Lamp) → Underway l → quiet l xs ≡ true → Underway (after l xs)
  unfolding after
  goes_on [] l u q = u
  goes_on (x ∷ xs) l u q =
      let r = quiet-call l x xs q in
      goes_on xs (next l x)
      (elim (cases_Bool (accepts l x)) [ inl a ↦ accepted-on l x u r.0 a | inr a ↦ subst Underway (sym (refused-keeps l x a)) u ])
      r.1

  -- idle, it is where the whole way leads
  ends : (l : Lamp) → Underway l → idle l ≡ true → l.color.hue ≡ moved_hue hue (delta_from f.fade f.found)
  ends l (inl r) i = never i (rw r)
  ends l (inr r) i = r.1

-- the start
begins : (f : Fed) (l : Lamp) → Underway f l.color.hue l.color.saturation (started (at_clock l f.start) (task_of f.fade f.found)).lamp
unfolding started hue_saturation_start
begins f l =
    passes f l.color.hue l.color.saturation (with_full_time (at_clock l f.start) (time f.fade)) _ (most (time f.fade) _)
  where
    most : (ms : ℕ) (b : Bool) → start_permille ms b ≤ 1000
    most ms b = elim (cases_Bool (eqb ms 0 || b)) [ inl e ↦ rw e (le_refl 1000) | inr e ↦ rw e (omega arith) ]

pub off-target : OffTarget
off-target e p ys zs split i =
    let f : Fed = fed e.move (finds e) e.start in
    let hue : ℕ = (ready e).color.hue in
    let saturation : ℕ = (ready e).color.saturation in
    let u : Underway f hue saturation (begun e).lamp = rw (accepted-is (ready e) (start_call e) p.started) (begins f (ready e)) in
    let q : quiet (begun e).lamp ys ≡ true = quiet-front (begun e).lamp ys zs (rw split at p.undisturbed) in
    ends f hue saturation (later e ys) (goes_on f hue saturation ys (begun e).lamp u q) i
    ∙ leads-beside (delta_from e.move (found e)) (target e.move) (found e) hue (found-small e p) (arrives (found e) (target e.move) e.move.direction (found-small e p) (aim-small e p))
