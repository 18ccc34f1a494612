-- Form is kept: by the clock that goes on, by every pass, start and step, by new bounds, and by the answers of starts, steps, halts
-- and new bounds.
-- A start or step reports few notices, none of them a command's.
use Rattle.color.specs.Setters.{change_of}
use Rattle.notices.specs.declared.Notice.{Notice}
use Rattle.color.proofs.Laws.{AttributeBelow}
use Rattle.matter.specs.declared.refusals.Refusal.{Refusal}
use Rattle.matter.specs.Causes.{accepted, Verdict}
use Rattle.std.specs.Prelude.{Option, Some, None, ℤ, Err, is_ok, Ok}
use Prim.Native.Nat.{ℕ, zero, suc, ◌-◌, ◌≤◌, ◌<◌}
use mathlib.Core.Bool.{Bool, true, false, cond, not, ◌||◌, true≢false}
use mathlib.Core.List.{List, [], ◌++◌}
use mathlib.Core.Path.{◌≡◌, refl, sym, ap}
use native.Mathlib.Omega.{arith}
use lib.Dec.{leb, ltb}
use lib.IntN.{pos}
use lib.ListN.{length, length-append}
use borrow.Author.Tests.{leb-true, leb-false, le-leb, lt-ltb, ltb-true, ltb-false, not-false}
use Rattle.matter.specs.declared.limits.Bounds.{Bounds}
use Rattle.matter.proofs.Laws.{and_left, and_right, cond_both, leb-later, each, all_of, accepted-of, refused-of}
use Rattle.matter.specs.Limits.{clock_limit, saturation_limit}
use Rattle.notices.proofs.Laws.{only_one}
use Rattle.notices.proofs.Numerals.{Below, none, below-append, below-only}
use Rattle.notices.specs.Notices.{only}
use Rattle.notices.specs.Names.{RemainingTime, EnhancedCurrentHue, notice_number}
use Rattle.remaining_time.specs.declared.RemainingTime.{RemainingTime as Remaining}
use Rattle.progress.proofs.Laws.{clamp-within}
use Rattle.progress.specs.Progress.{permille_of, delta_at_rate, clamp, clamped_sum}
use Rattle.color.specs.declared.Color.{Color}
use Rattle.color.specs.Valid.{color_valid}
use Rattle.color.proofs.Kept.{color-later, valid-saturation, valid-above, valid-below, hue-kept, saturation-kept, mireds-kept, bounded-valid, enhanced_change}
use Rattle.tasks.specs.declared.HueSaturationMoveTo.{HueSaturationMoveTo}
use Rattle.tasks.specs.declared.ColorTemperatureMoveTo.{ColorTemperatureMoveTo}
use Rattle.tasks.specs.declared.ColorTemperatureMove.{ColorTemperatureMove}
use Rattle.tasks.specs.declared.HueSaturationRun.{HueSaturationRun}
use Rattle.tasks.specs.declared.HueRun.{HueRun}
use Rattle.tasks.specs.declared.SaturationRun.{SaturationRun}
use Rattle.tasks.specs.declared.ColorTemperatureToRun.{ColorTemperatureToRun}
use Rattle.tasks.specs.declared.ColorTemperatureRun.{ColorTemperatureRun}
use Rattle.tasks.specs.declared.ColorLoopRun.{ColorLoopRun}
use Rattle.tasks.specs.declared.Running.{Running}
use Rattle.tasks.specs.declared.Task.{Task}
use Rattle.tasks.specs.Runs.{runs, moves_mireds, loop_run, loop_running}
use Rattle.tasks.specs.Valid.{time_valid, rate_valid, saturation_valid, move_to_valid, within_bounds, task_valid, running_valid}
use Rattle.lamp.specs.declared.Lamp.{Lamp}
use Rattle.lamp.specs.declared.Answer.{Answer}
use Rattle.lamp.specs.Answers.{at_clock, bad_clock, first_cause, unchanged}
use Rattle.matter.specs.Bounds.{crossed, lower, upper}
use Rattle.lamp.specs.Calls.{full_written, start_permille, hue_saturation_start, temperature_to_start, temperature_start, started, stepped, choose, start_cause, step_cause, start_answer, step_answer, halt_answer, with_bounds, bounds_cause, bounds_answer}
use Rattle.lamp.specs.Valid.{lamp_valid}
use Rattle.matter.specs.Rules.{signed}
use Rattle.lamp.specs.declared.passes.Found.{Found}
use Rattle.lamp.specs.declared.passes.Passed.{Passed}
use Rattle.lamp.proofs.Passed.{pass-few, pass_below, DeviceBelow}
use Rattle.lamp.specs.Passes.{Effect, unless, found_with, found_in, left_by, left_effect, idled, pass_reported, hue_saturation_passed, temperature_to_passed, at_end, saturation_done, mireds_done, hue_moved, saturation_moved, mireds_now, hue_pass, saturation_pass, temperature_pass, loop_pass, hue_passed, hue_saturation_moved, loop_passed, saturation_passed, temperature_passed, temperature_to_moved, timed}

-- ---- the parts of validity

module _ (l : Lamp) (validity : lamp_valid l ≡ true) where
  -- the clock is at most the limit
  pub valid-clock : l.clock ≤ clock_limit
  unfolding lamp_valid
  valid-clock = leb-true _ _ (each _ validity).0

  -- the colour is valid
  pub valid-color : color_valid l.color l.bounds l.clock ≡ true
  unfolding lamp_valid
  valid-color = (each _ validity).1.0

  -- the running record is valid
  pub valid-running : running_valid l.running l.bounds l.clock ≡ true
  unfolding lamp_valid
  valid-running = (each _ validity).1.1.0

-- a lamp with all three is valid
pub valid-of : (l : Lamp) → l.clock ≤ clock_limit → color_valid l.color l.bounds l.clock ≡ true → running_valid l.running l.bounds l.clock ≡ true → lamp_valid l ≡ true
unfolding lamp_valid
valid-of l h c r = all_of _ (le-leb _ _ h, (c, (r, tt)))

-- ---- validity lasts

-- a valid running record is valid at a later clock
pub running-later : (r : Running) (b : Bounds) (c d : ℕ) → running_valid r b c ≡ true → c ≤ d → running_valid r b d ≡ true
unfolding running_valid
running-later Running.Idle b c d e h = refl
running-later (Running.HueSaturationMoveTo run) b c d e h =
    let (t, (m, (s, (z, tt)))) = each _ e in
    all_of _ (t, (m, (s, (leb-later _ c d z h, tt))))
running-later (Running.HueMove run) b c d e h = let (t, (z, tt)) = each _ e in all_of _ (t, (leb-later _ c d z h, tt))
running-later (Running.SaturationMove run) b c d e h =
    let (t, (s, (z, tt))) = each _ e in
    all_of _ (t, (s, (leb-later _ c d z h, tt)))
running-later (Running.ColorTemperatureMoveTo run) b c d e h =
    let (t, (m, (s, (g, (z, tt))))) = each _ e in
    all_of _ (t, (m, (s, (g, (leb-later _ c d z h, tt)))))
running-later (Running.ColorTemperatureMove run) b c d e h =
    let (t, (m, (o, (p, (q, (z, tt)))))) = each _ e in
    all_of _ (t, (m, (o, (p, (q, (leb-later _ c d z h, tt))))))
running-later (Running.ColorLoop direction hue seconds start) b c d e h = leb-later _ c d e h

-- one that moves no mireds saves none: it is valid under any bounds
running-bounded : (r : Running) (old new : Bounds) (c : ℕ) → moves_mireds r ≡ false → running_valid r old c ≡ true → running_valid r new c ≡ true
unfolding running_valid
running-bounded Running.Idle old new c m e = e
running-bounded (Running.HueSaturationMoveTo run) old new c m e = e
running-bounded (Running.HueMove run) old new c m e = e
running-bounded (Running.SaturationMove run) old new c m e = e
running-bounded (Running.ColorTemperatureMoveTo run) old new c m e = absurd (true≢false m)
running-bounded (Running.ColorTemperatureMove run) old new c m e = absurd (true≢false m)
running-bounded (Running.ColorLoop direction hue seconds start) old new c m e = e

-- a valid lamp is valid at a later clock, up to the limit
pub later-valid : (l : Lamp) (clock : ℕ) → lamp_valid l ≡ true → l.clock ≤ clock → clock ≤ clock_limit → lamp_valid (at_clock l clock) ≡ true
later-valid l clock e h k =
    valid-of (at_clock l clock) k (color-later l.color l.bounds l.clock clock (valid-color l e) h)
    (running-later l.running l.bounds l.clock clock (valid-running l e) h)

-- ---- a pass keeps validity

-- both tests of a number within the bounds
within : (b : Bounds) (n : ℕ) → within_bounds b n ≡ true → (b.min ≤ n) × (n ≤ b.max)
within b n e = (leb-true _ _ (and_left (leb b.min n) _ e), leb-true _ _ (and_right (leb b.min n) _ e))

-- and back
is_within : (b : Bounds) (n : ℕ) → b.min ≤ n → n ≤ b.max → within_bounds b n ≡ true
is_within b n h k = rw (le-leb _ _ h, le-leb _ _ k)

module _ (l : Lamp) (timely : l.clock ≤ clock_limit) (validity : color_valid l.color l.bounds l.clock ≡ true) where
  -- what runs on, or nothing at an end
  unless-valid : (end : Bool) (r : Running) → (end ≡ false → running_valid r l.bounds l.clock ≡ true) → running_valid (unless end r) l.bounds l.clock ≡ true
  unfolding running_valid
  unless-valid end r h = cond_both (λ s. running_valid s l.bounds l.clock ≡ true) end _ r (λ e. refl) h

  -- the hue's part of a move-to
  hue-part : (d : Option ℤ) (start permille : ℕ) (enhanced : Bool) → color_valid (hue_moved l.color d start permille enhanced l.clock).color l.bounds l.clock ≡ true
  hue-part None start permille enhanced = validity
  hue-part (Some way) start permille enhanced = hue-kept l.color l.bounds l.clock validity _ (at_end permille) enhanced

  -- the saturation's, on a valid colour
  saturation-part : (c : Color) (t : Option ℕ) (start permille : ℕ) → color_valid c l.bounds l.clock ≡ true → saturation_valid t ≡ true → color_valid (saturation_moved c t start permille l.clock).color l.bounds l.clock ≡ true
  saturation-part c None start permille e h = e
  saturation-part c (Some target) start permille e h =
      saturation-kept c l.bounds l.clock e _ (at_end permille)
      (cond_both (λ n. n ≤ saturation_limit) (at_end permille) target _ (λ t. leb-true _ _ h) (λ t. (clamp-within 0 saturation_limit _ (omega arith)).1))

  -- a pass of a move-to, whose record is valid unless it ends
  hue-saturation-pass : (t : Remaining) (run : HueSaturationRun) (permille : ℕ) → saturation_valid run.task.saturation ≡ true → (at_end permille ≡ false → running_valid (Running.HueSaturationMoveTo run) l.bounds l.clock ≡ true) → lamp_valid (left_effect l (left_by false (hue_saturation_passed (found_with l t) run permille) (Running.HueSaturationMoveTo run))).lamp ≡ true
  unfolding hue_saturation_moved timed
  hue-saturation-pass t run permille h r =
      valid-of _ timely (saturation-part _ run.task.saturation run.saturation permille (hue-part run.task.delta run.hue permille run.task.enhanced) h)
      (unless-valid (at_end permille) _ r)

  -- a pass of a move-to in mireds, likewise
  temperature-to-pass : (t : Remaining) (run : ColorTemperatureToRun) (permille : ℕ) → within_bounds l.bounds run.task.target ≡ true → (at_end permille ≡ false → running_valid (Running.ColorTemperatureMoveTo run) l.bounds l.clock ≡ true) → lamp_valid (left_effect l (left_by false (temperature_to_passed (found_with l t) run permille) (Running.ColorTemperatureMoveTo run))).lamp ≡ true
  unfolding temperature_to_moved timed
  temperature-to-pass t run permille h r =
      let target : (l.bounds.min ≤ run.task.target) × (run.task.target ≤ l.bounds.max) = within l.bounds run.task.target h in
      let now : (l.bounds.min ≤ mireds_now l.bounds run.mireds run.task.target permille) × (mireds_now l.bounds run.mireds run.task.target permille ≤ l.bounds.max) =
      cond_both (λ n. (l.bounds.min ≤ n) × (n ≤ l.bounds.max)) (at_end permille) _ _ (λ t. target) (λ t. clamp-within _ _ _ (omega arith))
      in
      valid-of _ timely (mireds-kept _ _ _ validity _ (at_end permille) now.0 now.1) (unless-valid (at_end permille) _ r)

  -- a pass of a hue move
  pub hue-pass : (run : HueRun) → running_valid (Running.HueMove run) l.bounds l.clock ≡ true → lamp_valid (hue_pass l run).lamp ≡ true
  unfolding hue_passed
  hue-pass run r = valid-of _ timely (hue-kept _ _ _ validity _ false run.task.enhanced) r

  -- a pass of a saturation move
  pub saturation-pass : (run : SaturationRun) → running_valid (Running.SaturationMove run) l.bounds l.clock ≡ true → lamp_valid (saturation_pass l run).lamp ≡ true
  unfolding saturation_passed
  saturation-pass run r =
      let now : ℕ = clamped_sum 0 saturation_limit run.saturation (delta_at_rate (signed run.task.direction run.task.rate) (l.clock - run.start)) in
      let end : Bool = saturation_done run.task.direction now in
      valid-of _ timely (saturation-kept _ _ _ validity now end (clamp-within 0 saturation_limit _ (omega arith)).1) (unless-valid end _ (λ e. r))

  -- a pass of a temperature move
  pub temperature-pass : (run : ColorTemperatureRun) → running_valid (Running.ColorTemperatureMove run) l.bounds l.clock ≡ true → lamp_valid (temperature_pass l run).lamp ≡ true
  unfolding temperature_passed running_valid
  temperature-pass run r =
      let (t, (m, (o, (p, (q, (z, tt)))))) = each _ r in
      let now : ℕ = clamped_sum run.lo run.hi run.mireds (delta_at_rate run.rate (l.clock - run.start)) in
      let end : Bool = mireds_done run.rate run.lo run.hi now in
      let between : (run.lo ≤ now) × (now ≤ run.hi) = clamp-within run.lo run.hi _ (omega (arith, ltb-true run.lo run.hi o)) in
      valid-of _ timely (mireds-kept _ _ _ validity now end (omega (arith, within l.bounds run.lo p)) (omega (arith, within l.bounds run.hi q))) (unless-valid end _ (λ e. r))

  -- a pass of the colour loop
  pub loop-pass : (run : ColorLoopRun) → running_valid (loop_running run) l.bounds l.clock ≡ true → lamp_valid (loop_pass l run).lamp ≡ true
  unfolding loop_passed
  loop-pass run r = valid-of _ timely (hue-kept _ _ _ validity _ false true) r

-- made idle, a lamp stays valid
idled-valid : (l : Lamp) → lamp_valid l ≡ true → lamp_valid (idled l).lamp ≡ true
unfolding running_valid
idled-valid l h = valid-of _ (valid-clock l h) (valid-color l h) refl

-- ---- a start keeps validity

-- a move-to that does not end at once takes time
takes-time : (ms : ℕ) (no_delta : Bool) → at_end (start_permille ms no_delta) ≡ false → ltb 0 ms ≡ true
takes-time zero no_delta e = sym e
takes-time (suc n) no_delta e = lt-ltb 0 (suc n) (omega arith)

module _ (l : Lamp) (validity : lamp_valid l ≡ true) where
  -- a start of a move-to
  move-to-start : (task : HueSaturationMoveTo) → move_to_valid task ≡ true → lamp_valid (left_effect l (hue_saturation_start l task)).lamp ≡ true
  unfolding hue_saturation_start move_to_valid running_valid
  move-to-start task e =
      hue-saturation-pass l (valid-clock l validity) (valid-color l validity) _ _ _ (each _ e).1.1.0
      (λ t. all_of _ (e, (takes-time task.ms _ t, (le-leb _ _ (valid-saturation _ _ _ (valid-color l validity)), (le-leb l.clock _ (omega arith), tt)))))

  -- of one in mireds
  temperature-to-start : (task : ColorTemperatureMoveTo) → time_valid task.ms ≡ true → lamp_valid (left_effect l (temperature_to_start l task)).lamp ≡ true
  unfolding temperature_to_start running_valid
  temperature-to-start task e =
      let c : color_valid l.color l.bounds l.clock ≡ true = valid-color l validity in
      let found : (l.bounds.min ≤ l.color.mireds) × (l.color.mireds ≤ l.bounds.max) = (valid-above _ _ _ c, valid-below _ _ _ c) in
      let target : _ = clamp-within l.bounds.min l.bounds.max (pos task.target) (omega arith) in
      let to : within_bounds l.bounds (clamp l.bounds.min l.bounds.max (pos task.target)) ≡ true = is_within _ _ target.0 target.1 in
      temperature-to-pass l (valid-clock l validity) c _ _ _ to
      (λ t. all_of _ (e, (takes-time task.ms _ t, (is_within _ _ found.0 found.1, (to, (le-leb l.clock _ (omega arith), tt))))))

  -- of a temperature move
  temperature-start : (task : ColorTemperatureMove) → rate_valid task.rate ≡ true → lamp_valid (temperature_start l task).lamp ≡ true
  unfolding temperature_start running_valid
  temperature-start task e =
      let c : color_valid l.color l.bounds l.clock ≡ true = valid-color l validity in
      let low : ℕ = lower l.bounds task.min in
      let high : ℕ = upper l.bounds task.max in
      cond_both (λ (f : Effect). lamp_valid f.lamp ≡ true) (leb high low) _ _
      (λ t. idled-valid l validity)
      (λ t.
      let apart : low < high = leb-false high low t in
      temperature-pass l (valid-clock l validity) c _
      (all_of _
      (e, (is_within _ _ (valid-above _ _ _ c) (valid-below _ _ _ c), (lt-ltb _ _ apart, (is_within _ low (omega arith) (omega arith), (is_within _ high (omega arith) (omega arith), (le-leb l.clock _ (omega arith), tt))))))))

  -- a start of a valid task
  pub started-valid : (task : Task) → task_valid task ≡ true → lamp_valid (started l task).lamp ≡ true
  unfolding started task_valid running_valid
  started-valid (Task.HueSaturationMoveTo task) e = move-to-start task e
  started-valid (Task.HueMove task) e =
      hue-pass l (valid-clock l validity) (valid-color l validity) _ (all_of _ (e, (le-leb l.clock _ (omega arith), tt)))
  started-valid (Task.SaturationMove task) e =
      saturation-pass l (valid-clock l validity) (valid-color l validity) _
      (all_of _ (e, (le-leb _ _ (valid-saturation _ _ _ (valid-color l validity)), (le-leb l.clock _ (omega arith), tt))))
  started-valid (Task.ColorTemperatureMoveTo task) e = temperature-to-start task e
  started-valid (Task.ColorTemperatureMove task) e = temperature-start task e
  started-valid (Task.ColorLoop task) e = loop-pass l (valid-clock l validity) (valid-color l validity) _ (le-leb l.clock _ (omega arith))
  started-valid Task.Stop e = idled-valid l validity

-- ---- a step keeps validity

-- whatever record it is given, if that is valid
step_of : (l : Lamp) (r : Running) → lamp_valid l ≡ true → running_valid r l.bounds l.clock ≡ true → lamp_valid (stepped l r).lamp ≡ true
unfolding stepped running_valid move_to_valid
step_of l Running.Idle h e = idled-valid l h
step_of l (Running.HueSaturationMoveTo run) h e =
    hue-saturation-pass l (valid-clock l h) (valid-color l h) _ run _ (each _ (each _ e).0).1.1.0 (λ t. e)
step_of l (Running.HueMove run) h e = hue-pass l (valid-clock l h) (valid-color l h) run e
step_of l (Running.SaturationMove run) h e = saturation-pass l (valid-clock l h) (valid-color l h) run e
step_of l (Running.ColorTemperatureMoveTo run) h e =
    temperature-to-pass l (valid-clock l h) (valid-color l h) _ run _ (each _ e).1.1.1.0 (λ t. e)
step_of l (Running.ColorTemperatureMove run) h e = temperature-pass l (valid-clock l h) (valid-color l h) run e
step_of l (Running.ColorLoop direction hue seconds start) h e =
    loop-pass l (valid-clock l h) (valid-color l h) (loop_run direction hue seconds start) e

-- a step of what runs
pub stepped-valid : (l : Lamp) → lamp_valid l ≡ true → lamp_valid (stepped l l.running).lamp ≡ true
stepped-valid l h = step_of l l.running h (valid-running l h)

-- ---- what an accepted call says

-- a choice of which the first side is a refusal, and which accepts: the second side is taken, and accepts
pub no-first : (t : Bool) (refusal : Refusal) (v : Verdict) → cond t (Err refusal) v ≡ accepted → (t ≡ false) × (v ≡ accepted)
no-first true refusal v e = absurd (refused-of (Err refusal) refl e)
no-first false refusal v e = (refl, e)

-- a choice of which only the second side is a refusal
no_second : (t : Bool) (refusal : Refusal) → cond t accepted (Err refusal) ≡ accepted → t ≡ true
no_second true refusal e = refl
no_second false refusal e = absurd (refused-of (Err refusal) refl e)

-- two verdicts, of which the second counts where the first accepts
pub no-cause : (first second : Verdict) → cond (is_ok first) second first ≡ accepted → (first ≡ accepted) × (second ≡ accepted)
no-cause (Ok u) second e = (refl, e)
no-cause (Err refusal) second e = absurd (refused-of (Err refusal) refl e)

module _ (l : Lamp) (clock : ℕ) where
  -- a clock that is not refused is no earlier than the lamp's, and at most the limit
  good-clock : bad_clock l clock ≡ false → (l.clock ≤ clock) × (clock ≤ clock_limit)
  good-clock e = both (ltb clock l.clock) (ltb clock_limit clock) refl refl e
    where
      both : (a b : Bool) → ltb clock l.clock ≡ a → ltb clock_limit clock ≡ b → (a || b) ≡ false → (l.clock ≤ clock) × (clock ≤ clock_limit)
      both false false p q h = (ltb-false _ _ p, ltb-false _ _ q)
      both true b p q h = absurd (true≢false h)
      both false true p q h = absurd (true≢false h)

  -- neither 8 nor 4: the lamp at the call's clock is valid
  pub ready : first_cause l clock ≡ accepted → lamp_valid (at_clock l clock) ≡ true
  unfolding first_cause
  ready e =
      let (f, c) = no-first (not (lamp_valid l)) Refusal.InvalidLamp _ e in
      let (h, k) = good-clock (no-first (bad_clock l clock) Refusal.Clock accepted c).0 in
      later-valid l clock (not-false _ f) h k

  -- an accepted start: ready, and its task is valid
  pub start-ready : (task : Task) → start_cause l task clock ≡ accepted → (lamp_valid (at_clock l clock) ≡ true) × (task_valid task ≡ true)
  start-ready task e =
      let (f, t) = no-cause (first_cause l clock) _ e in
      (ready f, no_second (task_valid task) Refusal.InvalidTask t)

  -- an accepted step: ready
  pub step-ready : step_cause l clock ≡ accepted → lamp_valid (at_clock l clock) ≡ true
  step-ready e =
      let (f, r) = no-first (not (lamp_valid l)) Refusal.InvalidLamp _ e in
      let (h, k) = good-clock (no-first (bad_clock l clock) Refusal.Clock accepted (no-first (not (runs l.running)) Refusal.StepWhileIdle _ r).1).0 in
      later-valid l clock (not-false _ f) h k

  -- accepted new bounds: ready, they are not crossed, and no mired task runs
  pub bounds-ready : (bounds : Bounds) → bounds_cause l bounds clock ≡ accepted → (lamp_valid (at_clock l clock) ≡ true) × (crossed bounds ≡ false) × (moves_mireds l.running ≡ false)
  bounds-ready bounds e =
      let (f, t) = no-cause (first_cause l clock) _ e in
      let (u, m) = no-first (crossed bounds) Refusal.CrossedBounds _ t in
      (ready f, u, (no-first (moves_mireds l.running) Refusal.MiredTaskRuns accepted m).0)

-- with new bounds that are not crossed, and no mired task, a lamp stays valid
pub with-bounds-valid : (l : Lamp) (bounds : Bounds) → lamp_valid l ≡ true → crossed bounds ≡ false → moves_mireds l.running ≡ false → lamp_valid (with_bounds l bounds).lamp ≡ true
with-bounds-valid l bounds h u m =
    valid-of _ (valid-clock l h) (bounded-valid l.color l.bounds bounds l.clock (valid-color l h) u) (running-bounded l.running l.bounds bounds l.clock m (valid-running l h))

-- ---- answers keep validity

-- what holds of a refusal, and of the answer where there is no cause, holds of the one chosen
pub choose-both : (P : Answer → Type 0) (v : Verdict) (l : Lamp) (a : Answer) → (v ≡ accepted → P a) → ((v ≡ accepted → ⊥) → P (unchanged l v)) → P (choose v l a)
choose-both P v l a h k = cond_both P (is_ok v) a (unchanged l v) (λ e. h (accepted-of v e)) (λ e. k (refused-of v e))

module _ (l : Lamp) (clock : ℕ) (validity : lamp_valid l ≡ true) where
  -- a start's answer
  pub start-valid : (task : Task) → lamp_valid (start_answer l task clock).lamp ≡ true
  unfolding start_answer
  start-valid task =
      choose-both (λ a. lamp_valid a.lamp ≡ true) (start_cause l task clock) l _
      (λ e. let (h, t) = start-ready l clock task e in started-valid (at_clock l clock) h task t)
      (λ e. validity)

  -- a step's
  pub step-valid : lamp_valid (step_answer l clock).lamp ≡ true
  unfolding step_answer
  step-valid =
      choose-both (λ a. lamp_valid a.lamp ≡ true) (step_cause l clock) l _ (λ e. stepped-valid (at_clock l clock) (step-ready l clock e)) (λ e. validity)

  -- a halt's
  pub halt-valid : lamp_valid (halt_answer l clock).lamp ≡ true
  unfolding halt_answer
  halt-valid =
      choose-both (λ a. lamp_valid a.lamp ≡ true) (first_cause l clock) l _
      (λ e. idled-valid (at_clock l clock) (ready l clock e))
      (λ e. validity)

  -- and that of new bounds
  pub set-bounds-valid : (bounds : Bounds) → lamp_valid (bounds_answer l bounds clock).lamp ≡ true
  unfolding bounds_answer
  set-bounds-valid bounds =
      choose-both (λ a. lamp_valid a.lamp ≡ true) (bounds_cause l bounds clock) l _
      (λ e. let (h, u, m) = bounds-ready l clock bounds e in with-bounds-valid (at_clock l clock) bounds h u m)
      (λ e. validity)

-- ---- what a start or step reports: few notices, none of them a command's

-- a pass whose second change is of no enhanced hue, and whose attributes and device have numbers below 17
record Plain (p : Passed) : Type 0 where
  unenhanced : enhanced_change p.second ≡ false
  first : AttributeBelow 17 p.first
  second : AttributeBelow 17 p.second
  device : DeviceBelow 17 p.device

-- a change with this attribute, where it is one
low-attribute : (same due enhanced : Bool) (attribute : Notice) → notice_number attribute < 17 → AttributeBelow 17 (change_of same due attribute enhanced)
low-attribute true due enhanced attribute h = tt
low-attribute false due enhanced attribute h = h

plain-change : (same due : Bool) (attribute : Notice) → enhanced_change (change_of same due attribute false) ≡ false
plain-change true due attribute = refl
plain-change false due attribute = refl

-- the hue's part of a move-to, and the saturation's
hue-low : (c : Color) (d : Option ℤ) (start permille : ℕ) (enhanced : Bool) (clock : ℕ) → AttributeBelow 17 (hue_moved c d start permille enhanced clock).change
hue-low c None start permille enhanced clock = tt
hue-low c (Some way) start permille enhanced clock = low-attribute _ _ enhanced Notice.CurrentHue (omega arith)

saturation-low : (c : Color) (t : Option ℕ) (start permille clock : ℕ) → AttributeBelow 17 (saturation_moved c t start permille clock).change
saturation-low c None start permille clock = tt
saturation-low c (Some target) start permille clock = low-attribute _ _ false Notice.CurrentSaturation (omega arith)

saturation-plain : (c : Color) (t : Option ℕ) (start permille clock : ℕ) → enhanced_change (saturation_moved c t start permille clock).change ≡ false
saturation-plain c None start permille clock = refl
saturation-plain c (Some target) start permille clock = plain-change _ _ Notice.CurrentSaturation

both-plain : (f : Found) (run : HueSaturationRun) (permille : ℕ) → Plain (hue_saturation_passed f run permille)
unfolding hue_saturation_moved timed
both-plain f run permille =
    record {
      unenhanced = saturation-plain _ run.task.saturation _ _ _;
      first = hue-low _ run.task.delta _ _ _ _;
      second = saturation-low _ run.task.saturation _ _ _;
      device = omega arith;
    }

-- what holds of no notices and of every such pass's, the full time in front or not, holds of what a start or step reports
module _ (l : Lamp) (P : List ℕ → Type 0) (nothing : P []) (some : (full : Bool) (p : Passed) → Plain p → P (only full RemainingTime ++ pass_reported p l.looping.active)) where
  -- a pass of one change
  one : (full : Bool) (p : Passed) → enhanced_change p.second ≡ false → AttributeBelow 17 p.first → AttributeBelow 17 p.second → DeviceBelow 17 p.device
      → P (only full RemainingTime ++ pass_reported p l.looping.active)
  one full p e f s d = some full p (record { unenhanced = e; first = f; second = s; device = d })

  started-by : (task : Task) → P (started l task).reported
  unfolding started hue_saturation_start timed temperature_to_start temperature_to_moved temperature_start temperature_passed hue_passed saturation_passed loop_passed
  started-by (Task.HueSaturationMoveTo task) = some (full_written l task.ms).reported (hue_saturation_start l task).passed (both-plain _ _ _)
  started-by (Task.HueMove task) =
      one false (hue_passed (found_in l) (record { start = l.clock; hue = l.color.hue; task = task })) refl (low-attribute _ _ _ _ (omega arith)) tt (omega arith)
  started-by (Task.SaturationMove task) =
      one false (saturation_passed (found_in l) (record { start = l.clock; saturation = l.color.saturation; task = task })) refl (low-attribute _ _ _ _ (omega arith)) tt (omega arith)
  started-by (Task.ColorTemperatureMoveTo task) =
      one (full_written l task.ms).reported (temperature_to_start l task).passed refl (low-attribute _ _ _ _ (omega arith)) tt (omega arith)
  started-by (Task.ColorTemperatureMove task) =
      let lo : ℕ = lower l.bounds task.min in
      let hi : ℕ = upper l.bounds task.max in
      cond_both (λ (e : Effect). P e.reported) (leb hi lo) _ _ (λ t. nothing)
      (λ t. one false (temperature_passed (found_in l) (record { start = l.clock; mireds = l.color.mireds; rate = task.rate; lo = lo; hi = hi })) refl (low-attribute _ _ _ _ (omega arith)) tt (omega arith))
  started-by (Task.ColorLoop task) =
      one false (loop_passed (found_in l) (record { start = l.clock; hue = l.color.hue; task = task })) refl (low-attribute _ _ _ _ (omega arith)) tt (omega arith)
  started-by Task.Stop = nothing

  stepped_by : (r : Running) → P (stepped l r).reported
  unfolding stepped timed temperature_to_moved temperature_passed hue_passed saturation_passed loop_passed
  stepped_by Running.Idle = nothing
  stepped_by (Running.HueSaturationMoveTo run) = some false (hue_saturation_passed (found_in l) run _) (both-plain _ _ _)
  stepped_by (Running.HueMove run) = one false (hue_passed (found_in l) run) refl (low-attribute _ _ _ _ (omega arith)) tt (omega arith)
  stepped_by (Running.SaturationMove run) = one false (saturation_passed (found_in l) run) refl (low-attribute _ _ _ _ (omega arith)) tt (omega arith)
  stepped_by (Running.ColorTemperatureMoveTo run) =
      one false (temperature_to_passed (found_in l) run (permille_of (l.clock - run.start) run.task.ms)) refl (low-attribute _ _ _ _ (omega arith)) tt (omega arith)
  stepped_by (Running.ColorTemperatureMove run) = one false (temperature_passed (found_in l) run) refl (low-attribute _ _ _ _ (omega arith)) tt (omega arith)
  stepped_by (Running.ColorLoop direction hue seconds start) =
      one false (loop_passed (found_in l) (loop_run direction hue seconds start)) refl (low-attribute _ _ _ _ (omega arith)) tt (omega arith)

module _ (l : Lamp) where
  -- with the full time in front, 14
  few : (full : Bool) (p : Passed) → Plain p → length (only full RemainingTime ++ pass_reported p l.looping.active) ≤ 14
  few full p plain =
      rw length-append
      (omega (arith, only_one full RemainingTime, pass-few p l.looping.active, ap (λ b. length (only b EnhancedCurrentHue)) plain.unenhanced))

  low : (full : Bool) (p : Passed) → Plain p → Below 17 (only full RemainingTime ++ pass_reported p l.looping.active)
  low full p plain =
      below-append (below-only full RemainingTime (omega arith))
      (pass_below 17 (omega arith) p l.looping.active plain.first plain.second plain.device)

  -- a start reports at most 14, and so does a step
  pub started-few : (task : Task) → length (started l task).reported ≤ 14
  started-few = started-by l (λ xs. length xs ≤ 14) (omega arith) few

  pub stepped-few : (r : Running) → length (stepped l r).reported ≤ 14
  stepped-few = stepped_by l (λ xs. length xs ≤ 14) (omega arith) few

  -- and none from 17 on
  pub started_below : (task : Task) → Below 17 (started l task).reported
  started_below = started-by l (λ xs. Below 17 xs) none low

  pub stepped-below : (r : Running) → Below 17 (stepped l r).reported
  stepped-below = stepped_by l (λ xs. Below 17 xs) none low
