-- Over every quiet list the lamp fades as the schedule says, is done exactly from the time on, and takes at most a step for
-- each tenth where every wait is kept.
use Rattle.std.proofs.lemmas.Bool.{cases_Bool}
use Prim.Native.Nat.{ℕ, ◌+◌, ◌*◌, ◌-◌, ◌≤◌, min}
use mathlib.Core.Bool.{Bool, true, false, cond, ◌&&◌, ◌||◌, or-false, or_assoc}
use mathlib.Core.List.{List, [], ◌∷◌}
use mathlib.Core.Logic.{inl, inr}
use mathlib.Core.Path.{◌≡◌, sym, ◌∙◌, ap}
use native.Mathlib.Nat.{le_trans}
use native.Mathlib.Omega.{arith}
use lib.Dec.{leb}
use borrow.Author.Tests.{leb-true}
use Rattle.matter.proofs.Laws.{and_left, and_right}
use Rattle.lamp.specs.declared.Lamp.{Lamp}
use Rattle.lamp.specs.declared.Call.{Call}
use Rattle.commands.specs.Answers.{answer, clock_of}
use Rattle.schedule.specs.Calls.{next, after, accepted_step, is_step, quiet, steps, reached, paced}
use Rattle.schedule.specs.Schedule.{time, Fed, Shown, followed, scheduled_from}
use Rattle.schedule.proofs.Tests.{never}
use Rattle.schedule.proofs.Course.{Sane, step_taken, step-open, step_is, other-is, followed-done, at_open}
use Rattle.schedule.proofs.Fading.{Fading, accepts-takes, fades-on, wait-is}
use Rattle.schedule.proofs.Lists.{quiet-call}

pub fades-after : {f : Fed} {l : Lamp} {s : Shown} (xs : List Call) → Sane f → Fading f l s → quiet l xs ≡ true → Fading f (after l xs) (scheduled_from f s xs)
unfolding after scheduled_from
fades-after [] n k q = k
fades-after {f} {l} {s} (x ∷ xs) n k q = let r = quiet-call l x xs q in fades-after {l = next l x} {s = followed f s x} xs n (fades-on k n x r.0) r.1

-- an accepted step is one that the schedule takes
step_same : {f : Fed} {l : Lamp} {s : Shown} → Fading f l s → (x : Call) → accepted_step l x ≡ step_taken s x
step_same k x = ap (λ (b : Bool). is_step x && b) (accepts-takes k x)

-- ---- done exactly from the first accepted step at or after the time on

pub done-exactly : {f : Fed} {l : Lamp} {s : Shown} (xs : List Call) → Sane f → Fading f l s → quiet l xs ≡ true → (scheduled_from f s xs).done ≡ (s.done || reached (f.start + time f.fade) l xs)
unfolding scheduled_from reached
done-exactly {f} {l} {s} [] n k q = sym (or-false s.done)
done-exactly {f} {l} {s} (x ∷ xs) n k q =
    let r = quiet-call l x xs q in
    done-exactly {l = next l x} {s = followed f s x} xs n (fades-on k n x r.0) r.1
    ∙ rw (followed-done f n s k.right x, step_same k x) (or_assoc s.done _ _)

-- ---- at most one step for each tenth

-- a step is left while it is not done
abbrev pub left : Bool → ℕ
left b = cond b 0 1

no_step : {f : Fed} {l : Lamp} {s : Shown} → Fading f l s → (x : Call) → s.done ≡ true → accepted_step l x ≡ false
no_step {f} {l} {s} k x d = elim (cases_Bool (accepted_step l x)) [ inl e ↦ never d (step-open s x (sym (step_same k x) ∙ e)).0 | inr e ↦ e ]

pub done-stays : {f : Fed} {l : Lamp} {s : Shown} (xs : List Call) → Sane f → Fading f l s → quiet l xs ≡ true → s.done ≡ true → steps l xs + left (scheduled_from f s xs).done ≡ 0
unfolding steps scheduled_from
done-stays [] n k q d = rw d
done-stays {f} {l} {s} (x ∷ xs) n k q d =
    let r = quiet-call l x xs q in
    let e = no_step k x d in
    let o = other-is f s x (sym (step_same k x) ∙ e) in
    rw e (done-stays {l = next l x} {s = followed f s x} xs n (fades-on k n x r.0) r.1 (o ∙ d))

pub pace-kept : {f : Fed} {l : Lamp} {s : Shown} (due m : ℕ) (xs : List Call) → Sane f → Fading f l s → quiet l xs ≡ true → s.done ≡ false → paced due l xs ≡ true → f.start + time f.fade ≤ due + 100 * m → steps l xs + left (scheduled_from f s xs).done ≤ m + 1
unfolding steps scheduled_from paced
pace-kept due m [] n k q o h z = rw o (omega arith)
pace-kept {f} {l} {s} due m (x ∷ xs) n k q o h z =
    let r = quiet-call l x xs q in
    let k' = fades-on k n x r.0 in
    elim (cases_Bool (accepted_step l x)) [
      | inl e ↦
          let t = sym (step_same k x) ∙ e in
          let c : ℕ = clock_of x in
          let h' : (leb due c && paced (c + (answer l x).wait) (next l x) xs) ≡ true = rw e at h in
          let late : due ≤ c = leb-true due c (and_left (leb due c) _ h') in
          let from : f.start ≤ c = le_trans k.right.since (step-open s x t).1 in
          elim (cases_Bool (followed f s x).done) [
            | inl d ↦ let y = done-stays xs n k' r.1 d in rw e (omega arith)
            | inr d ↦
                let i = step_is f s x t in
                let a = at_open f c (sym (ap (λ (u : Shown). u.done) i) ∙ d) in
                let w : (answer l x).wait ≡ min 100 (time f.fade - (c - f.start)) = wait-is k n x e ∙ ap (λ (u : Shown). u.wait) i ∙ a.wait in
                let v = a.early in
                let ih = pace-kept {l = next l x} {s = followed f s x} (c + (answer l x).wait) (m - 1) xs n k' r.1 d (and_right (leb due c) _ h') (omega arith) in
                rw e (omega arith)
          ]
      | inr e ↦ rw e (pace-kept {l = next l x} {s = followed f s x} due m xs n k' r.1 (other-is f s x (sym (step_same k x) ∙ e) ∙ o) (rw e at h) z)
    ]
