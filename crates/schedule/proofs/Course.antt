-- The schedule alone: what holds of it at every time, where it ends, and that the way travelled never shrinks.
use Rattle.std.proofs.lemmas.Bool.{cases_Bool}
use Rattle.std.proofs.lemmas.Bool.Decides.{nat_tests}
use Prim.Native.Nat.{ℕ, ◌+◌, ◌-◌, ◌≤◌, ◌<◌, min}
use mathlib.Core.Bool.{Bool, true, false, cond, ◌&&◌, ◌||◌, or-false, true≢false}
use mathlib.Core.Logic.{inl, inr}
use mathlib.Core.Path.{◌≡◌, refl, sym, ◌∙◌, ap}
use native.Mathlib.Nat.{le_refl, le_trans}
use native.Mathlib.Omega.{arith}
use lib.Dec.{leb, eqb}
use lib.IntN.{nat_abs}
use borrow.Author.Tests.{leb-true, leb-false, ne_eqb, not-true}
use Rattle.matter.specs.Limits.{clock_limit}
use Rattle.hue.specs.Hue.{moved_hue}
use Rattle.hue.proofs.Laws.{way-small}
use Rattle.progress.specs.Progress.{permille_of, part_of}
use Rattle.progress.proofs.Laws.{permille-most, permille-grows, part-within, part-grows}
use Rattle.lamp.specs.declared.Call.{Call}
use Rattle.commands.specs.Answers.{clock_of}
use Rattle.schedule.specs.Calls.{is_step}
use Rattle.schedule.specs.Schedule.{target, delta_from, time, Fed, Shown, over, shown_at, takes, when_taken, followed}
use Rattle.matter.proofs.Laws.{and_left, and_right, or_left, or_right}
use Rattle.schedule.proofs.Tests.{never, positive}
use Rattle.schedule.proofs.Arithmetic.{gone, gone-part, gone_whole}

-- the numbers that the schedule is fed are hues, and the time of a valid task
pub record Sane (f : Fed) : Type 0 where
  pub found : f.found < 65536
  pub target : target f.fade < 65536
  pub time : time f.fade ≤ 6553500

-- how much of the way a hue shows travelled, and the whole of it
abbrev pub gone_of : Fed → ℕ → ℕ
gone_of f hue = gone (delta_from f.fade f.found) f.found hue

abbrev pub whole_of : Fed → ℕ
whole_of f = nat_abs (delta_from f.fade f.found)

-- the size of the part at a clock
abbrev pub part_at : Fed → ℕ → ℕ
part_at f clock = nat_abs (part_of (delta_from f.fade f.found) (permille_of (clock - f.start) (time f.fade)))

-- what holds of the schedule at every time
pub record Right (f : Fed) (s : Shown) : Type 0 where
  pub since : f.start ≤ s.clock
  pub small : gone_of f s.hue ≤ whole_of f
  pub bound : s.done ≡ false → gone_of f s.hue ≤ part_at f s.clock
  pub ends : s.done ≡ true → (s.hue ≡ target f.fade) × (s.remaining ≡ 0)
  pub live : s.done ≡ false → (0 < time f.fade) × (0 < whole_of f)

part-later : (f : Fed) (b c : ℕ) → b ≤ c → part_at f b ≤ part_at f c
part-later f b c h = part-grows (delta_from f.fade f.found) _ _ (permille-grows (b - f.start) (c - f.start) (time f.fade) (omega arith))

-- a later clock changes nothing else
later-right : (f : Fed) (s : Shown) (clock : ℕ) → Right f s → s.clock ≤ clock → Right f (record { clock = clock; hue = s.hue; remaining = s.remaining; wait = s.wait; done = s.done })
later-right f s clock r h =
    record {
      since = let k = r.since in omega arith;
      small = r.small;
      bound = λ z. le_trans (r.bound z) (part-later f s.clock clock h);
      ends = r.ends;
      live = r.live;
    }

-- a place is done where it is over
pub done-is : (f : Fed) (clock : ℕ) → (shown_at f clock).done ≡ over f (clock - f.start)
unfolding shown_at
done-is f clock = elim (cases_Bool (over f (clock - f.start))) [ inl e ↦ rw e | inr e ↦ rw e ]

module _ (f : Fed) (n : Sane f) where
  -- the whole way is travelled at the target
  gone-target : gone_of f (target f.fade) ≡ whole_of f
  gone-target = gone_whole f.found (target f.fade) f.fade.direction n.found n.target

  -- and so much of it as the part's size at a place before the end
  gone_at : (clock : ℕ) → gone_of f (moved_hue f.found (part_of (delta_from f.fade f.found) (permille_of (clock - f.start) (time f.fade)))) ≡ part_at f clock
  gone_at clock = gone-part (delta_from f.fade f.found) f.found (permille_of (clock - f.start) (time f.fade)) n.found (way-small f.found (target f.fade) f.fade.direction) (permille-most (clock - f.start) (time f.fade))

  -- ---- a place of the schedule

  pub at_right : (clock : ℕ) → f.start ≤ clock → Right f (shown_at f clock)
  unfolding shown_at
  at_right clock h =
      elim (cases_Bool (over f (clock - f.start))) [
        | inl e ↦ rw e
            (record {
              since = h;
              small = omega (arith, gone-target);
              bound = λ z. absurd (true≢false z);
              ends = λ z. (refl, refl);
              live = λ z. absurd (true≢false z);
            })
        | inr e ↦
            let t : clock - f.start < time f.fade = leb-false (time f.fade) (clock - f.start) (or_left (leb (time f.fade) (clock - f.start)) _ e) in
            let w = part-within (delta_from f.fade f.found) (permille_of (clock - f.start) (time f.fade)) (permille-most (clock - f.start) (time f.fade)) in
            rw e
            (record {
              since = h;
              small = omega (arith, gone_at clock);
              bound = λ z. omega (arith, gone_at clock);
              ends = λ z. absurd (true≢false (sym z));
              live = λ z. (omega arith, positive (whole_of f) (or_right (leb (time f.fade) (clock - f.start)) _ e));
            })
      ]

  -- from an earlier time on the way travelled has not shrunk
  at_on : (s : Shown) (clock : ℕ) → Right f s → s.done ≡ false → s.clock ≤ clock → gone_of f s.hue ≤ gone_of f (shown_at f clock).hue
  unfolding shown_at
  at_on s clock r d h =
      let b = r.bound d in
      let m = part-later f s.clock clock h in
      let k = r.small in
      elim (cases_Bool (over f (clock - f.start))) [
        | inl e ↦ rw e (omega (arith, gone-target))
        | inr e ↦ rw e (omega (arith, gone_at clock))
      ]

-- ---- a call that the schedule takes, or not

-- a step that is taken
abbrev pub step_taken : Shown → Call → Bool
step_taken s x = is_step x && takes s x

pub takes-late : (s : Shown) (x : Call) → takes s x ≡ true → s.clock ≤ clock_of x
takes-late s x e = leb-true s.clock (clock_of x) (and_left (leb s.clock (clock_of x)) _ (and_left (leb s.clock (clock_of x) && leb (clock_of x) clock_limit) _ e))

pub taken : (f : Fed) (s : Shown) (x : Call) → takes s x ≡ true → followed f s x ≡ when_taken f s x
taken f s x e = rw e

pub refused : (f : Fed) (s : Shown) (x : Call) → takes s x ≡ false → followed f s x ≡ s
refused f s x e = rw e

-- a step is taken only before the end
pub step-open : (s : Shown) (x : Call) → step_taken s x ≡ true → (s.done ≡ false) × (s.clock ≤ clock_of x)
step-open s (Call.Command asked on_off clock) e = never refl (sym e)
step-open s (Call.Start task clock) e = never refl (sym e)
step-open s (Call.Step clock) e = (not-true s.done (and_right (leb s.clock clock && leb clock clock_limit) _ e), takes-late s (Call.Step clock) e)
step-open s (Call.Halt clock) e = never refl (sym e)
step-open s (Call.SetBounds bounds clock) e = never refl (sym e)

-- and leads to the place of its clock
pub step_is : (f : Fed) (s : Shown) (x : Call) → step_taken s x ≡ true → followed f s x ≡ shown_at f (clock_of x)
step_is f s (Call.Command asked on_off clock) e = never refl (sym e)
step_is f s (Call.Start task clock) e = never refl (sym e)
step_is f s (Call.Step clock) e = taken f s (Call.Step clock) e
step_is f s (Call.Halt clock) e = never refl (sym e)
step_is f s (Call.SetBounds bounds clock) e = never refl (sym e)

-- no other call changes whether it is done
same-done : (s t : Shown) (b : Bool) → t.done ≡ s.done → (cond b t s).done ≡ s.done
same-done s t true e = e
same-done s t false e = refl

pub other-is : (f : Fed) (s : Shown) (x : Call) → step_taken s x ≡ false → (followed f s x).done ≡ s.done
other-is f s (Call.Command asked on_off clock) e = same-done s (when_taken f s (Call.Command asked on_off clock)) (takes s (Call.Command asked on_off clock)) refl
other-is f s (Call.Start task clock) e = same-done s (when_taken f s (Call.Start task clock)) (takes s (Call.Start task clock)) refl
other-is f s (Call.Step clock) e = ap (λ (t : Shown). t.done) (refused f s (Call.Step clock) e)
other-is f s (Call.Halt clock) e = same-done s (when_taken f s (Call.Halt clock)) (takes s (Call.Halt clock)) refl
other-is f s (Call.SetBounds bounds clock) e = same-done s (when_taken f s (Call.SetBounds bounds clock)) (takes s (Call.SetBounds bounds clock)) refl

module _ (f : Fed) (n : Sane f) (s : Shown) (r : Right f s) where
  taken-right : (x : Call) → takes s x ≡ true → Right f (when_taken f s x)
  taken-right (Call.Command asked on_off clock) e = later-right f s clock r (takes-late s (Call.Command asked on_off clock) e)
  taken-right (Call.Start task clock) e = later-right f s clock r (takes-late s (Call.Start task clock) e)
  taken-right (Call.Step clock) e = at_right f n clock (le_trans r.since (takes-late s (Call.Step clock) e))
  taken-right (Call.Halt clock) e = later-right f s clock r (takes-late s (Call.Halt clock) e)
  taken-right (Call.SetBounds bounds clock) e = later-right f s clock r (takes-late s (Call.SetBounds bounds clock) e)

  pub followed-right : (x : Call) → Right f (followed f s x)
  followed-right x = elim (cases_Bool (takes s x)) [ inl e ↦ rw e (taken-right x e) | inr e ↦ rw e r ]

  taken-on : (x : Call) → takes s x ≡ true → gone_of f s.hue ≤ gone_of f (when_taken f s x).hue
  taken-on (Call.Command asked on_off clock) e = le_refl (gone_of f s.hue)
  taken-on (Call.Start task clock) e = le_refl (gone_of f s.hue)
  taken-on (Call.Step clock) e = let o = step-open s (Call.Step clock) e in at_on f n s clock r o.0 o.1
  taken-on (Call.Halt clock) e = le_refl (gone_of f s.hue)
  taken-on (Call.SetBounds bounds clock) e = le_refl (gone_of f s.hue)

  -- over a call the way travelled never shrinks
  pub followed-on : (x : Call) → gone_of f s.hue ≤ gone_of f (followed f s x).hue
  followed-on x = elim (cases_Bool (takes s x)) [ inl e ↦ rw e (taken-on x e) | inr e ↦ rw e (le_refl (gone_of f s.hue)) ]

  at_done : (clock : ℕ) → f.start ≤ clock → 0 < whole_of f → (shown_at f clock).done ≡ leb (f.start + time f.fade) clock
  at_done clock h k =
      done-is f clock
      ∙ rw (ne_eqb (whole_of f) 0 (λ z. omega arith), or-false)
      (grind (arith, nat_tests))

  -- done exactly from a taken step at or after the time on
  pub followed-done : (x : Call) → (followed f s x).done ≡ (s.done || (step_taken s x && leb (f.start + time f.fade) (clock_of x)))
  followed-done x =
      elim (cases_Bool (step_taken s x)) [
        | inl e ↦
            let o = step-open s x e in
            ap (λ (t : Shown). t.done) (step_is f s x e)
            ∙ at_done (clock_of x) (le_trans r.since o.1) (r.live o.0).1
            ∙ rw (e, o.0)
        | inr e ↦ other-is f s x e ∙ rw (e, or-false)
      ]

-- a place before the end
pub record Open (f : Fed) (clock : ℕ) : Type 0 where
  pub early : clock - f.start < time f.fade
  pub wait : (shown_at f clock).wait ≡ min 100 (time f.fade - (clock - f.start))

pub at_open : (f : Fed) (clock : ℕ) → (shown_at f clock).done ≡ false → Open f clock
unfolding shown_at
at_open f clock d =
    elim (cases_Bool (over f (clock - f.start))) [
      | inl e ↦ never (rw e) d
      | inr e ↦ record { early = leb-false (time f.fade) (clock - f.start) (or_left (leb (time f.fade) (clock - f.start)) _ e); wait = rw e }
    ]

-- the start is the end where time or way is 0
at_once : (t c : ℕ) → leb t (c - c) ≡ eqb t 0
at_once t c = grind (arith, nat_tests)

pub begins-done : (f : Fed) → (shown_at f f.start).done ≡ (eqb (time f.fade) 0 || eqb (whole_of f) 0)
begins-done f = done-is f f.start ∙ ap (λ (b : Bool). b || eqb (whole_of f) 0) (at_once (time f.fade) f.start)
