-- A start or step changes the colour, the remaining time and the running record alone, and keeps the widths of a lamp's numbers.
use Rattle.std.specs.Prelude.{Option, Some, None, ℤ}
use Prim.Native.Nat.{ℕ, ◌-◌, ◌≤◌}
use mathlib.Core.Bool.{Bool, true, false}
use mathlib.Core.Path.{◌≡◌, refl}
use native.Mathlib.Omega.{arith}
use lib.Dec.{leb}
use lib.IntN.{pos}
use Rattle.matter.proofs.Laws.{cond_both}
use Rattle.matter.specs.Limits.{clock_limit, saturation_limit}
use Rattle.matter.specs.InRange.{Byte, Short, InRangeBounds}
use Rattle.hue.proofs.Laws.{moved-small}
use Rattle.progress.proofs.Laws.{clamp-within}
use Rattle.progress.specs.Progress.{delta_at_rate, clamped_sum}
use Rattle.remaining_time.specs.declared.RemainingTime.{RemainingTime}
use Rattle.color.specs.declared.Color.{Color}
use Rattle.color.specs.Valid.{color_valid}
use Rattle.color.proofs.Kept.{valid-saturation, valid-above, valid-below, valid-stamps, hue-word, saturation-hue, mireds-hue}
use Rattle.tasks.specs.declared.HueSaturationRun.{HueSaturationRun}
use Rattle.tasks.specs.declared.HueRun.{HueRun}
use Rattle.tasks.specs.declared.SaturationRun.{SaturationRun}
use Rattle.tasks.specs.declared.ColorTemperatureToRun.{ColorTemperatureToRun}
use Rattle.tasks.specs.declared.ColorTemperatureRun.{ColorTemperatureRun}
use Rattle.tasks.specs.declared.ColorLoopRun.{ColorLoopRun}
use Rattle.tasks.specs.declared.Running.{Running}
use Rattle.tasks.specs.Runs.{loop_run, loop_running}
use Rattle.tasks.specs.declared.Task.{Task}
use Rattle.tasks.specs.InRange.{InRangeTask, InRangeRunning}
use Rattle.lamp.specs.declared.Lamp.{Lamp}
use Rattle.lamp.specs.Answers.{at_clock}
use Rattle.matter.specs.Bounds.{lower, upper}
use Rattle.lamp.specs.Calls.{hue_saturation_start, temperature_to_start, temperature_start, started, stepped, with_bounds}
use Rattle.color.specs.Bounded.{bounded}
use Rattle.matter.specs.declared.limits.Bounds.{Bounds}
use Rattle.lamp.specs.Valid.{lamp_valid}
use Rattle.lamp.proofs.Kept.{valid-clock, valid-color}
use Rattle.matter.specs.Rules.{signed}
use Rattle.lamp.specs.Passes.{Effect, found_with, left_by, left_effect, changed, hue_saturation_passed, temperature_to_passed, unless, at_end, saturation_done, mireds_done, hue_moved, saturation_moved, hue_pass, saturation_pass, temperature_pass, loop_pass, hue_passed, hue_saturation_moved, loop_passed, saturation_passed, temperature_passed, temperature_to_moved, timed}
use Rattle.lamp.specs.InRange.{InRangeLamp}

-- ---- what a start or step changes

module _ (l : Lamp) (P : Lamp → Type 0) (any : (c : Color) (r : Running) (t : RemainingTime) → P (changed l c r t)) where
  -- what holds whatever these three are holds after a start
  pub started-any : (task : Task) → P (started l task).lamp
  unfolding started hue_saturation_start temperature_to_start temperature_start hue_saturation_moved timed temperature_to_moved hue_passed saturation_passed temperature_passed loop_passed
  started-any (Task.HueSaturationMoveTo task) = any _ _ _
  started-any (Task.HueMove task) = any _ _ _
  started-any (Task.SaturationMove task) = any _ _ _
  started-any (Task.ColorTemperatureMoveTo task) = any _ _ _
  started-any (Task.ColorTemperatureMove task) =
      cond_both (λ (e : Effect). P e.lamp) (leb (upper l.bounds task.max) (lower l.bounds task.min)) _ _ (λ t. any _ _ _) (λ t. any _ _ _)
  started-any (Task.ColorLoop task) = any _ _ _
  started-any Task.Stop = any _ _ _

  -- and after a step
  pub stepped-any : (r : Running) → P (stepped l r).lamp
  unfolding stepped hue_saturation_moved timed temperature_to_moved hue_passed saturation_passed temperature_passed loop_passed
  stepped-any Running.Idle = any _ _ _
  stepped-any (Running.HueSaturationMoveTo run) = any _ _ _
  stepped-any (Running.HueMove run) = any _ _ _
  stepped-any (Running.SaturationMove run) = any _ _ _
  stepped-any (Running.ColorTemperatureMoveTo run) = any _ _ _
  stepped-any (Running.ColorTemperatureMove run) = any _ _ _
  stepped-any (Running.ColorLoop direction hue seconds start) = any _ _ _

-- ---- widths

-- a valid lamp: its validity bounds the other numbers
pub in-range-of : (m : Lamp) → lamp_valid m ≡ true → InRangeBounds m.bounds → Short m.color.hue → Short m.looping.time → Short m.looping.start → Short m.looping.stored → Short m.remaining.tenths → Byte m.options → InRangeRunning m.running → InRangeLamp m
in-range-of m validity bounds hue time start stored tenths options run =
    let f : color_valid m.color m.bounds m.clock ≡ true = valid-color m validity in
    let limit : m.clock ≤ clock_limit = valid-clock m validity in
    let stamps : (m.color.stamps.hue ≤ m.clock) × (m.color.stamps.saturation ≤ m.clock) × (m.color.stamps.mireds ≤ m.clock) = valid-stamps _ _ _ f in
    record {
      clock = omega arith;
      bounds = bounds;
      hue = hue;
      saturation = omega (arith, valid-saturation m.color m.bounds m.clock f);
      mireds = omega (arith, valid-below m.color m.bounds m.clock f);
      hue_stamp = omega arith;
      saturation_stamp = omega arith;
      mireds_stamp = omega arith;
      loop_time = time;
      loop_start = start;
      loop_stored = stored;
      remaining = tenths;
      options = options;
      running = run;
    }

module _ (l : Lamp) (in_range : InRangeLamp l) where
  -- at a clock where it is valid
  pub clock-in-range : (clock : ℕ) → lamp_valid (at_clock l clock) ≡ true → InRangeLamp (at_clock l clock)
  clock-in-range clock validity =
      in-range-of _ validity in_range.bounds in_range.hue in_range.loop_time in_range.loop_start in_range.loop_stored in_range.remaining in_range.options in_range.running

  -- with another colour, running record and remaining time
  pub changed-in-range : (c : Color) (r : Running) (t : RemainingTime) → lamp_valid (changed l c r t) ≡ true → Short c.hue → Short t.tenths → InRangeRunning r → InRangeLamp (changed l c r t)
  changed-in-range c r t validity hue tenths run =
      in-range-of _ validity in_range.bounds hue in_range.loop_time in_range.loop_start in_range.loop_stored tenths in_range.options run

  -- what runs on, or nothing at an end
  unless-in-range : (end : Bool) (r : Running) → InRangeRunning r → InRangeRunning (unless end r)
  unless-in-range end r h = cond_both InRangeRunning end _ r (λ e. tt) (λ e. h)

  -- the hue's part of a move-to leaves a hue
  hue-part-word : (d : Option ℤ) (start permille : ℕ) (enhanced : Bool) → Short (hue_moved l.color d start permille enhanced l.clock).color.hue
  hue-part-word None start permille enhanced = in_range.hue
  hue-part-word (Some way) start permille enhanced = hue-word _ _ _ _ enhanced in_range.hue (moved-small _ _)

  -- the saturation's leaves the hue
  saturation-part-hue : (c : Color) (t : Option ℕ) (start permille : ℕ) → (saturation_moved c t start permille l.clock).color.hue ≡ c.hue
  saturation-part-hue c None start permille = refl
  saturation-part-hue c (Some target) start permille = saturation-hue c _ _ _

  -- a pass of a move-to keeps widths, if it keeps validity
  hue-saturation-in-range : (t : RemainingTime) (run : HueSaturationRun) (permille : ℕ) → InRangeRunning (Running.HueSaturationMoveTo run) → lamp_valid (left_effect l (left_by false (hue_saturation_passed (found_with l t) run permille) (Running.HueSaturationMoveTo run))).lamp ≡ true → InRangeLamp (left_effect l (left_by false (hue_saturation_passed (found_with l t) run permille) (Running.HueSaturationMoveTo run))).lamp
  unfolding hue_saturation_moved timed
  hue-saturation-in-range t run permille in_run validity =
      changed-in-range _ _ _ validity
      (rw saturation-part-hue (hue-part-word run.task.delta run.hue permille run.task.enhanced))
      (omega arith) (unless-in-range (at_end permille) _ in_run)

  -- so does one in mireds
  temperature-to-in-range : (t : RemainingTime) (run : ColorTemperatureToRun) (permille : ℕ) → InRangeRunning (Running.ColorTemperatureMoveTo run) → lamp_valid (left_effect l (left_by false (temperature_to_passed (found_with l t) run permille) (Running.ColorTemperatureMoveTo run))).lamp ≡ true → InRangeLamp (left_effect l (left_by false (temperature_to_passed (found_with l t) run permille) (Running.ColorTemperatureMoveTo run))).lamp
  unfolding temperature_to_moved timed
  temperature-to-in-range t run permille in_run validity =
      changed-in-range _ _ _ validity (rw mireds-hue in_range.hue) (omega arith) (unless-in-range (at_end permille) _ in_run)

  -- of a hue move
  hue-in-range : (run : HueRun) → InRangeRunning (Running.HueMove run) → lamp_valid (hue_pass l run).lamp ≡ true → InRangeLamp (hue_pass l run).lamp
  unfolding hue_passed
  hue-in-range run t validity = changed-in-range _ _ _ validity (hue-word _ _ _ _ run.task.enhanced in_range.hue (moved-small _ _)) in_range.remaining t

  -- of a saturation move
  saturation-in-range : (run : SaturationRun) → InRangeRunning (Running.SaturationMove run) → lamp_valid (saturation_pass l run).lamp ≡ true → InRangeLamp (saturation_pass l run).lamp
  unfolding saturation_passed
  saturation-in-range run t validity =
      let now : ℕ = clamped_sum 0 saturation_limit run.saturation (delta_at_rate (signed run.task.direction run.task.rate) (l.clock - run.start)) in
      changed-in-range _ _ _ validity (rw saturation-hue in_range.hue) in_range.remaining (unless-in-range (saturation_done run.task.direction now) _ t)

  -- of a temperature move
  temperature-in-range : (run : ColorTemperatureRun) → InRangeRunning (Running.ColorTemperatureMove run) → lamp_valid (temperature_pass l run).lamp ≡ true → InRangeLamp (temperature_pass l run).lamp
  unfolding temperature_passed
  temperature-in-range run t validity =
      let now : ℕ = clamped_sum run.lo run.hi run.mireds (delta_at_rate run.rate (l.clock - run.start)) in
      changed-in-range _ _ _ validity (rw mireds-hue in_range.hue) in_range.remaining (unless-in-range (mireds_done run.rate run.lo run.hi now) _ t)

  -- of the colour loop
  loop-in-range : (run : ColorLoopRun) → InRangeRunning (loop_running run) → lamp_valid (loop_pass l run).lamp ≡ true → InRangeLamp (loop_pass l run).lamp
  unfolding loop_passed
  loop-in-range run t validity = changed-in-range _ _ _ validity (hue-word _ _ _ _ true in_range.hue (moved-small _ _)) in_range.remaining t

  -- a step keeps widths
  pub stepped-in-range : (r : Running) → InRangeRunning r → lamp_valid (stepped l r).lamp ≡ true → InRangeLamp (stepped l r).lamp
  unfolding stepped
  stepped-in-range Running.Idle t validity = changed-in-range _ _ _ validity in_range.hue in_range.remaining tt
  stepped-in-range (Running.HueSaturationMoveTo run) t validity = hue-saturation-in-range _ run _ t validity
  stepped-in-range (Running.HueMove run) t validity = hue-in-range run t validity
  stepped-in-range (Running.SaturationMove run) t validity = saturation-in-range run t validity
  stepped-in-range (Running.ColorTemperatureMoveTo run) t validity = temperature-to-in-range _ run _ t validity
  stepped-in-range (Running.ColorTemperatureMove run) t validity = temperature-in-range run t validity
  stepped-in-range (Running.ColorLoop direction hue seconds start) t validity = loop-in-range (loop_run direction hue seconds start) t validity

-- a start keeps widths
pub started-in-range : (l : Lamp) (task : Task) → lamp_valid l ≡ true → lamp_valid (started l task).lamp ≡ true → InRangeLamp l → InRangeTask task → InRangeLamp (started l task).lamp
unfolding started hue_saturation_start temperature_to_start temperature_start
started-in-range l (Task.HueSaturationMoveTo task) before validity in_range t =
    hue-saturation-in-range l in_range _ _ _
    (in_range.clock, in_range.hue, in_range.saturation, t)
    validity
started-in-range l (Task.HueMove task) before validity in_range t = hue-in-range l in_range _ (in_range.clock, in_range.hue, t) validity
started-in-range l (Task.SaturationMove task) before validity in_range t = saturation-in-range l in_range _ (in_range.clock, in_range.saturation, t) validity
started-in-range l (Task.ColorTemperatureMoveTo task) before validity in_range t =
    let f : color_valid l.color l.bounds l.clock ≡ true = valid-color l before in
    let found : (l.bounds.min ≤ l.color.mireds) × (l.color.mireds ≤ l.bounds.max) = (valid-above _ _ _ f, valid-below _ _ _ f) in
    temperature-to-in-range l in_range _ _ _
    (in_range.clock, in_range.mireds, record { target = omega (arith, clamp-within l.bounds.min l.bounds.max (pos task.target) (omega arith)); ms = t.ms })
    validity
started-in-range l (Task.ColorTemperatureMove task) before validity in_range t =
    cond_both (λ (e : Effect). lamp_valid e.lamp ≡ true → InRangeLamp e.lamp) (leb (upper l.bounds task.max) (lower l.bounds task.min)) _ _
    (λ e f. changed-in-range l in_range _ _ _ f in_range.hue in_range.remaining tt)
    (λ e f. temperature-in-range l in_range _ (in_range.clock, in_range.mireds, t.rate, omega arith, omega arith) f)
    validity
started-in-range l (Task.ColorLoop task) before validity in_range t = loop-in-range l in_range _ (in_range.clock, in_range.hue, t) validity
started-in-range l Task.Stop before validity in_range t = changed-in-range l in_range _ _ _ validity in_range.hue in_range.remaining tt

-- new bounds keep widths
pub with-bounds-in-range : (l : Lamp) (bounds : Bounds) → lamp_valid (with_bounds l bounds).lamp ≡ true → InRangeLamp l → InRangeBounds bounds → InRangeLamp (with_bounds l bounds).lamp
unfolding bounded
with-bounds-in-range l bounds validity in_range t =
    in-range-of _ validity t in_range.hue in_range.loop_time in_range.loop_start in_range.loop_stored in_range.remaining in_range.options in_range.running
