-- As many steps as the fade has tenths are enough: with more, the run is the same. So it ends because it is done, or refused,
-- and never for want of steps.
use Rattle.std.specs.Prelude.{Some, None, is_ok}
use Prim.Native.Nat.{ℕ, zero, suc, ◌+◌, ◌-◌, ◌*◌, ◌≤◌, ◌<◌, min}
use mathlib.Core.Bool.{Bool, true, false, cond, ◌&&◌, ◌||◌, false≢true}
use mathlib.Core.List.{List, [], ◌++◌}
use mathlib.Core.Path.{◌≡◌, refl, sym, ap, subst⁻¹, ◌∙◌}
use native.Mathlib.Nat.{add-zero, add-suc}
use native.Mathlib.Omega.{arith}
use lib.Dec.{eqb, leb}
use borrow.Author.Tests.{eqb-false, leb-false, leb-true, le-leb}
use Rattle.matter.specs.declared.limits.Bounds.{Bounds}
use Rattle.matter.specs.declared.commands.Command.{Command}
use Rattle.matter.specs.declared.commands.Request.{Request}
use Rattle.matter.specs.Requests.{request, no_options}
use Rattle.matter.specs.declared.enums.OnOff.{OnOff}
use Rattle.matter.specs.Causes.{accepted, Verdict, unless_refused}
use Rattle.matter.proofs.Laws.{and_left, or_left, accepted-of}
use Rattle.hue.specs.Hue.{path_delta}
use Rattle.progress.specs.Progress.{permille_of, end_wait}
use Rattle.progress.proofs.Laws.{permille-full}
use Rattle.tasks.specs.declared.HueSaturationMoveTo.{HueSaturationMoveTo}
use Rattle.tasks.specs.declared.HueSaturationRun.{HueSaturationRun}
use Rattle.tasks.specs.declared.Task.{Task}
use Rattle.tasks.specs.declared.Running.{Running}
use Rattle.tasks.specs.Runs.{runs}
use Rattle.lamp.specs.declared.Lamp.{Lamp}
use Rattle.std.specs.Prelude.{Ok, Err}
use Rattle.lamp.specs.declared.Answer.{Answer}
use Rattle.lamp.specs.Answers.{at_clock, unchanged}
use Rattle.lamp.specs.Making.{fresh_lamp, making_cause, making}
use Rattle.lamp.specs.Passes.{at_end, unless, waiting, hue_saturation_pass, hue_saturation_moved, timed}
use Rattle.lamp.specs.Calls.{done, started, stepped, start_cause, step_cause, start_answer, step_answer, no_hue_delta, no_saturation_delta, hue_saturation_start}
use Rattle.lamp.proofs.Kept.{choose-both}
use Rattle.commands.specs.Commands.{stored, ms, command_effect}
use Rattle.commands.specs.Answers.{command_cause, command_answer}
use Rattle.fade_line.specs.declared.reader.Wanted.{Wanted}
use Rattle.fade_run.specs.Run.{one_text, goes_on, step_after, further, text, after_command, after_making, fade_within}

-- a move-to that has run for a part of its time: at most n tenths are left, and the wait is asked for the next
record Left (n : ℕ) (a : Answer) (clock : ℕ) : Type 0 where
  run : HueSaturationRun
  running : a.lamp.running ≡ Running.HueSaturationMoveTo run
  begun : run.start ≤ clock
  wait : a.wait ≡ min 100 (run.task.ms - (clock - run.start))
  some : 0 < run.task.ms - (clock - run.start)
  most : run.task.ms - (clock - run.start) ≤ 100 * n

-- after an answer that lets the run go on, there is so much left
abbrev Within : ℕ → Answer → ℕ → Type 0
Within n a clock = goes_on a ≡ true → Left n a clock

refused-within : (n : ℕ) (l : Lamp) (cause : Verdict) (clock : ℕ) → (cause ≡ accepted → ⊥) → Within n (unchanged l cause) clock
refused-within n l cause clock h g = absurd (h (accepted-of cause (and_left (is_ok cause) _ g)))

-- before permille 1000 the time is not up
before-end : (e t : ℕ) → at_end (permille_of e t) ≡ false → e < t
before-end e t h = by (leb t e) refl
  where
    by : (b : Bool) → leb t e ≡ b → e < t
    by true k = absurd (false≢true (sym h ∙ le-leb 1000 (permille_of e t) (omega (arith, permille-full e t (leb-true t e k)))))
    by false k = leb-false t e k

-- a step at the wait leaves a tenth less
module _ (n : ℕ) (a : Answer) (clock : ℕ) (k : Left (suc n) a clock) where
  abbrev at : ℕ
  at = clock + a.wait

  abbrev permille : ℕ
  permille = permille_of (at - k.run.start) k.run.task.ms

  pass-within : (l : Lamp) → Within n (done (hue_saturation_pass (at_clock l at) k.run permille)) at
  unfolding hue_saturation_moved timed
  pass-within l g = by (at_end permille) refl
    where
      by : (t : Bool) → at_end permille ≡ t → Left n (done (hue_saturation_pass (at_clock l at) k.run permille)) at
      by true e = absurd (false≢true (sym (ap (λ (t : Bool). runs (unless t (Running.HueSaturationMoveTo k.run))) e) ∙ g))
      by false e =
          record {
            run = k.run;
            running = ap (λ (t : Bool). unless t (Running.HueSaturationMoveTo k.run)) e;
            begun = omega (arith, k.begun);
            wait = ap (λ (t : Bool). waiting t (end_wait (at - k.run.start) k.run.task.ms)) e;
            some = omega (arith, before-end (at - k.run.start) k.run.task.ms e);
            most = omega (arith, k.begun, k.wait, k.some, k.most, before-end (at - k.run.start) k.run.task.ms e);
          }

  step-within : Within n (step_after a clock) at
  unfolding step_answer stepped
  step-within =
      choose-both (λ b. Within n b at) (step_cause a.lamp at) a.lamp _
      (λ e. subst⁻¹ (λ (r : Running). Within n (done (stepped (at_clock a.lamp at) r)) at) k.running (pass-within a.lamp))
      (λ e. refused-within n a.lamp (step_cause a.lamp at) at e)

-- so more steps change nothing
enough : (n j : ℕ) (a : Answer) (clock : ℕ) → Within n a clock → further (j + n) a clock ≡ further n a clock
unfolding further
enough zero zero a clock w = refl
enough zero (suc j) a clock w = ap (λ (m : ℕ). further m a clock) (add-zero (suc j)) ∙ by (goes_on a) refl
  where
    by : (t : Bool) → goes_on a ≡ t → cond t (one_text (step_after a clock) (clock + a.wait) ++ further j (step_after a clock) (clock + a.wait)) [] ≡ []
    by true e = let k : Left 0 a clock = w e in absurd (omega (arith, k.some, k.most))
    by false e = refl
enough (suc n) j a clock w = ap (λ (m : ℕ). further m a clock) (add-suc j n) ∙ by (goes_on a) refl (λ k. enough n j (step_after a clock) (clock + a.wait) (step-within n a clock k))
  where
    by : (t : Bool) → goes_on a ≡ t → (Left (suc n) a clock → further (j + n) (step_after a clock) (clock + a.wait) ≡ further n (step_after a clock) (clock + a.wait)) →
        cond t (one_text (step_after a clock) (clock + a.wait) ++ further (j + n) (step_after a clock) (clock + a.wait)) []
        ≡ cond t (one_text (step_after a clock) (clock + a.wait) ++ further n (step_after a clock) (clock + a.wait)) []
    by true e go = ap (λ (u : List ℕ). one_text (step_after a clock) (clock + a.wait) ++ u) (go (w e))
    by false e go = refl

-- a start of a move-to leaves all its tenths
module _ (l : Lamp) (task : HueSaturationMoveTo) (clock n : ℕ) (time : task.ms ≡ n * 100) where
  abbrev no_delta : Bool
  no_delta = no_hue_delta task.delta && no_saturation_delta task.saturation l.color.saturation

  pass-begins : Within n (done (started (at_clock l clock) (Task.HueSaturationMoveTo task))) clock
  unfolding started hue_saturation_start hue_saturation_moved timed
  pass-begins g = by (eqb task.ms 0 || no_delta) refl
    where
      run : HueSaturationRun
      run = record { start = clock; hue = l.color.hue; saturation = l.color.saturation; task = task }

      by : (t : Bool) → (eqb task.ms 0 || no_delta) ≡ t → Left n (done (started (at_clock l clock) (Task.HueSaturationMoveTo task))) clock
      by true e = absurd (false≢true (sym (ap (λ (t : Bool). runs (unless (at_end (cond t 1000 0)) (Running.HueSaturationMoveTo run))) e) ∙ g))
      by false e =
          record {
            run = run;
            running = ap (λ (t : Bool). unless (at_end (cond t 1000 0)) (Running.HueSaturationMoveTo run)) e;
            begun = omega arith;
            wait = ap (λ (t : Bool). waiting (at_end (cond t 1000 0)) (end_wait (clock - clock) task.ms)) e;
            some = omega (arith, eqb-false task.ms 0 (or_left (eqb task.ms 0) no_delta e));
            most = omega (arith, time);
          }

  start-within : Within n (start_answer l (Task.HueSaturationMoveTo task) clock) clock
  unfolding start_answer
  start-within =
      choose-both (λ b. Within n b clock) (start_cause l (Task.HueSaturationMoveTo task) clock) l _ (λ e. pass-begins)
      (λ e. refused-within n l (start_cause l (Task.HueSaturationMoveTo task) clock) clock e)

-- ---- the budget is enough, whatever is asked for

module _ (w : Wanted) (j : ℕ) where
  abbrev asked : Request
  asked = request (Command.MoveToHue w.hue w.direction w.tenths) no_options

  abbrev task : Lamp → HueSaturationMoveTo
  task l = record { delta = Some (path_delta l.color.hue (stored w.hue) w.direction); saturation = None; ms = ms w.tenths; enhanced = false }

  abbrev bounds : Bounds
  bounds = record { min = 153; max = 500 }

  commanded-enough : (l : Lamp) → text (after_command (j + w.tenths) w.clock (command_answer l asked OnOff.On w.clock)) ≡ text (after_command w.tenths w.clock (command_answer l asked OnOff.On w.clock))
  unfolding command_answer command_effect
  commanded-enough l =
      choose-both (λ a. text (after_command (j + w.tenths) w.clock a) ≡ text (after_command w.tenths w.clock a)) (command_cause l asked w.clock) l _
      (λ e. ap (λ (u : List ℕ). one_text started-on w.clock ++ u) (enough w.tenths j started-on w.clock (start-within (at_clock l w.clock) (task l) w.clock w.tenths refl)))
      (λ e. refl)
    where
      started-on : Answer
      started-on = start_answer (at_clock l w.clock) (Task.HueSaturationMoveTo (task l)) w.clock

  -- with more steps allowed than the fade has tenths, the text is the same
  pub budget-enough : text (fade_within (j + w.tenths) w) ≡ text (fade_within w.tenths w)
  unfolding making
  budget-enough = by (making_cause bounds w.clock)
    where
      by : (v : Verdict) → text (after_making (j + w.tenths) w (unless_refused v (fresh_lamp bounds 31 0 w.clock)))
          ≡ text (after_making w.tenths w (unless_refused v (fresh_lamp bounds 31 0 w.clock)))
      by (Ok u) = commanded-enough (fresh_lamp bounds 31 0 w.clock)
      by (Err cause) = refl
