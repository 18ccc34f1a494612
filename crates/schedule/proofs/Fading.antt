-- A lamp that fades as the schedule says: what holds between the two, over one call and at the start.
use Rattle.std.proofs.lemmas.Bool.{cases_Bool}
use Rattle.std.specs.Prelude.{Some}
use Prim.Native.Nat.{ℕ, ◌-◌, ◌≤◌, ◌<◌, min}
use mathlib.Core.Bool.{Bool, true, false, not, cond, ◌&&◌, ◌||◌, and-true, or-false}
use mathlib.Core.Logic.{inl, inr}
use mathlib.Core.Path.{◌≡◌, refl, sym, ◌∙◌, ap, subst}
use native.Mathlib.Nat.{sub_self, zero-div, le_refl}
use native.Mathlib.Omega.{arith}
use lib.Dec.{leb, eqb}
use borrow.Author.Tests.{leb-true, ne_eqb, not-true}
use Rattle.progress.specs.Progress.{permille_of}
use Rattle.progress.proofs.Laws.{permille-full, permille-is}
use Rattle.tasks.specs.Runs.{runs, moves_mireds}
use Rattle.color.specs.Bounded.{bounded}
use Rattle.tasks.specs.declared.Running.{Running}
use Rattle.lamp.specs.declared.Lamp.{Lamp}
use Rattle.lamp.specs.declared.Answer.{Answer}
use Rattle.lamp.specs.Answers.{at_clock, bad_clock, first_cause}
use Rattle.matter.specs.declared.limits.Bounds.{Bounds}
use Rattle.matter.specs.Bounds.{crossed}
use Rattle.matter.specs.Causes.{accepted, clock_refused, crossed_bounds}
use Rattle.lamp.specs.Calls.{stepped, started, hue_saturation_start, start_permille, no_hue_delta}
use Rattle.lamp.specs.Valid.{lamp_valid}
use Rattle.lamp.specs.Passes.{hue_saturation_pass}
use Rattle.lamp.proofs.Passed.{with_full_time}
use Rattle.lamp.specs.declared.Call.{Call}
use Rattle.commands.specs.Answers.{cause, answer, is_loop_set}
use Rattle.commands.proofs.Kept.{valid-kept, quiet-command}
use Rattle.schedule.specs.Calls.{next, accepts, idle, accepted_step, interrupts}
use Rattle.schedule.specs.Schedule.{task_of, time, delta_from, Fed, Shown, over, shown_at, own, takes, when_taken, followed}
use Rattle.matter.proofs.Laws.{or_left}
use Rattle.schedule.proofs.Tests.{never, positive}
use Rattle.schedule.proofs.Course.{Sane, Right, whole_of, at_right, step-open, followed-right, done-is, begins-done}
use Rattle.schedule.proofs.Pass.{Shows, Meets, run_from, run_of, running_of, pass-ends, pass-goes}
use Rattle.schedule.proofs.Accepts.{grounds, accepts-is, no-cause, refused-keeps, accepted-is}

pub record Fading (f : Fed) (l : Lamp) (s : Shown) : Type 0 where
  pub valid : lamp_valid l ≡ true
  pub saturation : ℕ
  pub shows : Shows f saturation l s
  pub right : Right f s

-- ---- the lamp accepts what the schedule takes

runs-is : (f : Fed) (saturation : ℕ) (b : Bool) → runs (running_of f saturation b) ≡ not b
runs-is f saturation true = refl
runs-is f saturation false = refl

not-runs-is : (f : Fed) (saturation : ℕ) (b : Bool) → not (runs (running_of f saturation b)) ≡ b
not-runs-is f saturation true = refl
not-runs-is f saturation false = refl

no-mireds : (f : Fed) (saturation : ℕ) (b : Bool) → moves_mireds (running_of f saturation b) ≡ false
no-mireds f saturation true = refl
no-mireds f saturation false = refl

module _ {f : Fed} {l : Lamp} {s : Shown} (k : Fading f l s) where
  pub idle-is : idle l ≡ s.done
  idle-is = rw k.shows.running (not-runs-is f k.saturation s.done)

  grounds-are : (x : Call) → grounds l x ≡ own x s.done
  grounds-are (Call.Command r on_off clock) = refl
  grounds-are (Call.Start task clock) = refl
  grounds-are (Call.Step clock) = rw k.shows.running (runs-is f k.saturation s.done)
  grounds-are (Call.Halt clock) = refl
  grounds-are (Call.SetBounds bounds clock) = rw (k.shows.running, no-mireds f k.saturation s.done, and-true) refl

  pub accepts-takes : (x : Call) → accepts l x ≡ takes s x
  accepts-takes x = accepts-is l x k.valid ∙ rw (grounds-are x, k.shows.clock)

-- new bounds meet neither an invalid lamp nor a mired task
pub new-bounds-cause : {f : Fed} {l : Lamp} {s : Shown} → Fading f l s → (bounds : Bounds) (clock : ℕ) → cause l (Call.SetBounds bounds clock) ≡ cond (bad_clock l clock) clock_refused (cond (crossed bounds) crossed_bounds accepted)
unfolding cause first_cause
new-bounds-cause {f} {l} {s} k bounds clock =
    rw (k.valid, k.shows.running, no-mireds f k.saturation s.done)
    (elim (cases_Bool (bad_clock l clock)) [ inl e ↦ rw e refl | inr e ↦ rw e refl ])

-- ---- one call

-- a step of the fade
step-meets : {f : Fed} {l : Lamp} {s : Shown} (k : Fading f l s) (clock : ℕ) → Sane f → s.done ≡ false → Meets f k.saturation (stepped (at_clock l clock) l.running) (shown_at f clock)
unfolding stepped
step-meets {f} {l} {s} k clock n d =
    let r : l.running ≡ Running.HueSaturationMoveTo (run_of f k.saturation) = k.shows.running ∙ ap (running_of f k.saturation) d in
    subst (λ (run : Running). Meets f k.saturation (stepped (at_clock l clock) run) (shown_at f clock)) (sym r)
    (elim (cases_Bool (over f (clock - f.start))) [
      | inl e ↦
          let t : time f.fade ≤ clock - f.start = leb-true (time f.fade) (clock - f.start) (from-over f (clock - f.start) (k.right.live d).1 e) in
          rw (permille-full (clock - f.start) (time f.fade) t) (pass-ends f n k.saturation (at_clock l clock) e)
      | inr e ↦ pass-goes f n k.saturation (at_clock l clock) e
    ])
  where
    from-over : (g : Fed) (e : ℕ) → 0 < whole_of g → over g e ≡ true → leb (time g.fade) e ≡ true
    from-over g e w h = rw (ne_eqb (whole_of g) 0 (λ z. omega arith), or-false (leb (time g.fade) e)) at h

module _ {f : Fed} {l : Lamp} {s : Shown} (k : Fading f l s) (n : Sane f) where
  accepted-shows : (x : Call) → not (interrupts x && accepts l x) ≡ true → accepts l x ≡ true → Shows f k.saturation (next l x) (when_taken f s x)
  unfolding bounded
  accepted-shows (Call.Command r on_off clock) q a =
      let z : is_loop_set r.command ≡ false = not-true (is_loop_set r.command) (rw (a, and-true) at q) in
      rw (quiet-command l r on_off clock z (no-cause l (Call.Command r on_off clock) a))
      (record { clock = refl; hue = k.shows.hue; remaining = k.shows.remaining; running = k.shows.running })
  accepted-shows (Call.Start task clock) q a = never a (not-true (accepts l (Call.Start task clock)) q)
  accepted-shows (Call.Step clock) q a =
      let o = step-open s (Call.Step clock) (sym (accepts-takes k (Call.Step clock)) ∙ a) in
      rw (next, accepted-is l (Call.Step clock) a) (step-meets k clock n o.0).shows
  accepted-shows (Call.Halt clock) q a = never a (not-true (accepts l (Call.Halt clock)) q)
  accepted-shows (Call.SetBounds bounds clock) q a =
      rw (next, accepted-is l (Call.SetBounds bounds clock) a)
      (record { clock = refl; hue = k.shows.hue; remaining = k.shows.remaining; running = k.shows.running })

  -- the lamp that a call leaves fades on as the schedule says
  pub fades-on : (x : Call) → not (interrupts x && accepts l x) ≡ true → Fading f (next l x) (followed f s x)
  fades-on x q =
      record {
        valid = valid-kept l x k.valid;
        saturation = k.saturation;
        shows =
            elim (cases_Bool (takes s x)) [
              | inl e ↦ rw e (accepted-shows x q (accepts-takes k x ∙ e))
              | inr e ↦ rw (e, refused-keeps l x (accepts-takes k x ∙ e)) k.shows
            ];
        right = followed-right f n s k.right x;
      }

  -- an accepted step asks for the schedule's wait
  pub wait-is : (x : Call) → accepted_step l x ≡ true → (answer l x).wait ≡ (followed f s x).wait
  wait-is (Call.Command r on_off clock) e = never refl (sym e)
  wait-is (Call.Start task clock) e = never refl (sym e)
  wait-is (Call.Step clock) e =
      let t = sym (accepts-takes k (Call.Step clock)) ∙ e in
      rw (accepted-is l (Call.Step clock) e, t) (step-meets k clock n (step-open s (Call.Step clock) t).0).wait
  wait-is (Call.Halt clock) e = never refl (sym e)
  wait-is (Call.SetBounds bounds clock) e = never refl (sym e)

-- ---- the start

permille-none : (c t : ℕ) → 0 < t → permille_of (c - c) t ≡ 0
permille-none c t h = rw (sub_self c) (permille-is 0 t h ∙ ap (min 1000) (zero-div t))

-- the first pass, at the permille of a start
start-pass : (f : Fed) → Sane f → (saturation : ℕ) (l : Lamp) → l.clock ≡ f.start → Meets f saturation (hue_saturation_pass l (run_of f saturation) (start_permille (time f.fade) (no_hue_delta (Some (delta_from f.fade f.found)) && true))) (shown_at f l.clock)
start-pass f n saturation l c =
    let o : over f (l.clock - f.start) ≡ (eqb (time f.fade) 0 || eqb (whole_of f) 0) = ap (λ (t : ℕ). over f (t - f.start)) c ∙ sym (done-is f f.start) ∙ begins-done f in
    rw and-true
    (elim (cases_Bool (eqb (time f.fade) 0 || eqb (whole_of f) 0)) [
      | inl e ↦ rw e (pass-ends f n saturation l (o ∙ e))
      | inr e ↦
          let z : permille_of (l.clock - f.start) (time f.fade) ≡ 0 = ap (λ (t : ℕ). permille_of (t - f.start) (time f.fade)) c ∙ permille-none f.start (time f.fade) (positive (time f.fade) (or_left _ _ e)) in
          rw e (rw z at (pass-goes f n saturation l (o ∙ e)))
    ])

start-meets : (f : Fed) → Sane f → (l : Lamp) → l.color.hue ≡ f.found → Meets f l.color.saturation (started (at_clock l f.start) (task_of f.fade f.found)) (shown_at f f.start)
unfolding started hue_saturation_start
start-meets f n l h =
    let at : Lamp = with_full_time (at_clock l f.start) (time f.fade) in
    let m : Meets f l.color.saturation (hue_saturation_pass at (run_from f l.color.hue l.color.saturation) (start_permille (time f.fade) (no_hue_delta (Some (delta_from f.fade f.found)) && true))) (shown_at f f.start) =
    subst
    (λ (hue : ℕ). Meets f l.color.saturation (hue_saturation_pass at (run_from f hue l.color.saturation) (start_permille (time f.fade) (no_hue_delta (Some (delta_from f.fade f.found)) && true))) (shown_at f f.start))
    (sym h)
    (start-pass f n l.color.saturation at refl) in
    record { shows = m.shows; wait = m.wait }

-- the answer of a start, and the schedule at it
pub record Begins (f : Fed) (a : Answer) : Type 0 where
  pub fading : Fading f a.lamp (shown_at f f.start)
  pub wait : a.wait ≡ (shown_at f f.start).wait

module _ (f : Fed) (n : Sane f) (l : Lamp) (valid : lamp_valid l ≡ true) (hue : l.color.hue ≡ f.found) where
  pub begins : accepts l (Call.Start (task_of f.fade f.found) f.start) ≡ true → Begins f (answer l (Call.Start (task_of f.fade f.found) f.start))
  begins a =
      let x : Call = Call.Start (task_of f.fade f.found) f.start in
      let d = accepted-is l x a in
      let m = start-meets f n l hue in
      record {
        fading =
            record {
              valid = valid-kept l x valid;
              saturation = l.color.saturation;
              shows = rw d m.shows;
              right = at_right f n f.start (le_refl f.start);
            };
        wait = rw d m.wait;
      }
