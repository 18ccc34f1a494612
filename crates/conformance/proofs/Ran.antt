-- The lamps that an accepted start and accepted steps after it leave; what the start saves, and that the steps run it
-- till nothing runs.
use Rattle.matter.specs.Causes.{accepted, number_of}
use Prim.Native.Nat.{ℕ, ◌-◌}
use mathlib.Core.Bool.{Bool, true, false, true≢false}
use mathlib.Core.Logic.{◌⊎◌, inl, inr}
use mathlib.Core.Path.{◌≡◌, refl, sym, ap, subst, ◌∙◌}
use native.Mathlib.Omega.{arith}
use lib.Dec.{leb}
use Rattle.matter.proofs.Laws.{cond_both}
use Rattle.matter.specs.Limits.{saturation_limit}
use Rattle.progress.specs.Progress.{delta_at_rate, clamped_sum}
use Rattle.tasks.specs.declared.ColorTemperatureRun.{ColorTemperatureRun}
use Rattle.tasks.specs.declared.ColorTemperatureToRun.{ColorTemperatureToRun}
use Rattle.tasks.specs.declared.HueSaturationRun.{HueSaturationRun}
use Rattle.tasks.specs.declared.Running.{Running}
use Rattle.tasks.specs.declared.SaturationRun.{SaturationRun}
use Rattle.tasks.specs.declared.Task.{Task}
use Rattle.tasks.specs.Valid.{task_valid, running_valid}
use Rattle.tasks.specs.Runs.{runs}
use Rattle.lamp.specs.declared.Lamp.{Lamp}
use Rattle.lamp.specs.Answers.{at_clock}
use Rattle.matter.specs.Bounds.{lower, upper}
use Rattle.lamp.specs.Calls.{hue_saturation_start, temperature_to_start, temperature_start, started, stepped}
use Rattle.lamp.specs.Valid.{lamp_valid}
use Rattle.lamp.proofs.Kept.{valid-running, start-ready}
use Rattle.matter.specs.Rules.{signed}
use Rattle.lamp.specs.declared.passes.Found.{Found}
use Rattle.lamp.specs.Passes.{Effect, found_in, unless, hue_saturation_passed, temperature_to_passed, hue_passed, saturation_passed, temperature_passed, loop_passed}
use Rattle.lamp.specs.declared.Call.{Call}
use Rattle.commands.specs.Answers.{cause, answer}
use Rattle.commands.proofs.Granted.{granted}
use Rattle.commands.proofs.Kept.{answer-both, granted-ready}
use Rattle.conformance.specs.Started.{Ran, began, went, saved}
use Rattle.commands.proofs.Table.{step-7, step-8}

-- it runs on, or nothing does
abbrev pub OnOrIdle : Running → Running → Type 0
OnOrIdle run now = (now ≡ run) ⊎ (now ≡ Running.Idle)

unless-so : (end : Bool) (run : Running) → OnOrIdle run (unless end run)
unless-so end run = cond_both (OnOrIdle run) end _ _ (λ e. inr refl) (λ e. inl refl)

-- the numbers that the moves at a rate have come to
abbrev pub saturation_at : SaturationRun → ℕ → ℕ
saturation_at run clock =
    clamped_sum 0 saturation_limit run.saturation
    (delta_at_rate (signed run.task.direction run.task.rate) (clock - run.start))

abbrev pub mireds_at : ColorTemperatureRun → ℕ → ℕ
mireds_at run clock = clamped_sum run.lo run.hi run.mireds (delta_at_rate run.rate (clock - run.start))

module _ (f : Found) where
  move-to-so : (run : HueSaturationRun) (p : ℕ) →
      OnOrIdle (Running.HueSaturationMoveTo run) (unless (hue_saturation_passed f run p).ends (Running.HueSaturationMoveTo run))
  move-to-so run p = unless-so (hue_saturation_passed f run p).ends _

  saturation-so : (run : SaturationRun) →
      OnOrIdle (Running.SaturationMove run) (unless (saturation_passed f run).ends (Running.SaturationMove run))
  saturation-so run = unless-so (saturation_passed f run).ends _

  mireds-to-so : (run : ColorTemperatureToRun) (p : ℕ) →
      OnOrIdle (Running.ColorTemperatureMoveTo run) (unless (temperature_to_passed f run p).ends (Running.ColorTemperatureMoveTo run))
  mireds-to-so run p = unless-so (temperature_to_passed f run p).ends _

  mireds-so : (run : ColorTemperatureRun) →
      OnOrIdle (Running.ColorTemperatureMove run) (unless (temperature_passed f run).ends (Running.ColorTemperatureMove run))
  mireds-so run = unless-so (temperature_passed f run).ends _

stepped-so : (x : Lamp) (run : Running) → OnOrIdle run (stepped x run).lamp.running
unfolding stepped hue_passed loop_passed
stepped-so x Running.Idle = inl refl
stepped-so x (Running.HueSaturationMoveTo run) = move-to-so (found_in x) run _
stepped-so x (Running.HueMove run) = inl refl
stepped-so x (Running.SaturationMove run) = saturation-so (found_in x) run
stepped-so x (Running.ColorTemperatureMoveTo run) = mireds-to-so (found_in x) run _
stepped-so x (Running.ColorTemperatureMove run) = mireds-so (found_in x) run
stepped-so x (Running.ColorLoop direction hue seconds start) = inl refl

started-so : (m : Lamp) (clock : ℕ) (task : Task) → task_valid task ≡ true →
    OnOrIdle (saved m task clock) (started (at_clock m clock) task).lamp.running
unfolding started hue_saturation_start temperature_to_start temperature_start hue_passed loop_passed task_valid
started-so m clock (Task.HueSaturationMoveTo task) t = move-to-so _ _ _
started-so m clock (Task.HueMove task) t = inl refl
started-so m clock (Task.SaturationMove task) t = saturation-so _ _
started-so m clock (Task.ColorTemperatureMoveTo task) t = mireds-to-so _ _ _
started-so m clock (Task.ColorTemperatureMove task) t =
    cond_both (λ (e : Effect). OnOrIdle (saved m (Task.ColorTemperatureMove task) clock) e.lamp.running)
    (leb (upper m.bounds task.max) (lower m.bounds task.min)) _ _ (λ e. inr refl) (λ e. mireds-so _ _)
started-so m clock (Task.ColorLoop task) t = inl refl
started-so m clock Task.Stop t = absurd (true≢false (sym t))

-- ---- accepted calls

-- they do what is granted
pub granted-is : (l : Lamp) (x : Call) → cause l x ≡ accepted → answer l x ≡ granted l x
granted-is l x z = answer-both l (λ a. a ≡ granted l x) x (λ e. refl) (λ n. absurd (n z))

-- what holds of a valid lamp that begins a valid task holds after an accepted start
pub start-by : (m : Lamp) (task : Task) (clock : ℕ) (P : Lamp → Type 0) → cause m (Call.Start task clock) ≡ accepted →
    (lamp_valid (at_clock m clock) ≡ true → task_valid task ≡ true → P (started (at_clock m clock) task).lamp) →
    P (answer m (Call.Start task clock)).lamp
unfolding cause
start-by m task clock P z h =
    let f = start-ready m clock task z in
    answer-both m (λ a. P a.lamp) (Call.Start task clock) (λ e. h f.0 f.1) (λ n. absurd (n z))

-- and of one that makes a pass of what runs, valid too, after an accepted step
pub step_by : (x : Lamp) (run : Running) (clock : ℕ) (P : Lamp → Type 0) → x.running ≡ run → cause x (Call.Step clock) ≡ accepted →
    (lamp_valid (at_clock x clock) ≡ true → running_valid run x.bounds clock ≡ true →
    P (stepped (at_clock x clock) run).lamp) →
    P (answer x (Call.Step clock)).lamp
step_by x run clock P e z h =
    let f : lamp_valid (at_clock x clock) ≡ true = granted-ready x (Call.Step clock) z in
    let g : running_valid run x.bounds clock ≡ true =
    subst (λ (r : Running). running_valid r x.bounds clock ≡ true) e (valid-running (at_clock x clock) f)
    in
    answer-both x (λ a. P a.lamp) (Call.Step clock)
    (λ k. subst (λ (r : Running). P (stepped (at_clock x clock) r).lamp) (sym e) (h f g))
    (λ k. absurd (k z))

-- an accepted start saves this, or is done at once
pub start-saves : (m : Lamp) (task : Task) (clock : ℕ) → cause m (Call.Start task clock) ≡ accepted →
    OnOrIdle (saved m task clock) (answer m (Call.Start task clock)).lamp.running
start-saves m task clock z =
    start-by m task clock (λ y. OnOrIdle (saved m task clock) y.running) z (λ f t. started-so m clock task t)

-- a lamp whose step is accepted runs something
step-runs : (x : Lamp) (run : Running) (clock : ℕ) → OnOrIdle run x.running → cause x (Call.Step clock) ≡ accepted →
    x.running ≡ run
step-runs x run clock (inl e) z = e
step-runs x run clock (inr e) z = by (lamp_valid x) refl
  where
    by : (t : Bool) → lamp_valid x ≡ t → x.running ≡ run
    by true f = absurd (omega (arith, step-7 x clock f (ap runs e), ap number_of z))
    by false f = absurd (omega (arith, step-8 x clock f, ap number_of z))

module _ (m : Lamp) (task : Task) (begun : ℕ) where
  -- it runs what was saved, or nothing
  ran-saves : (n : Lamp) → Ran m task begun n → OnOrIdle (saved m task begun) n.running
  ran-saves n (began z) = start-saves m task begun z
  ran-saves n (went {x} clock r z) =
      let on : x.running ≡ saved m task begun = step-runs x (saved m task begun) clock (ran-saves x r) z in
      step_by x (saved m task begun) clock (λ y. OnOrIdle (saved m task begun) y.running) on z
      (λ f g. stepped-so (at_clock x clock) (saved m task begun))

  -- and what was saved, where it takes another step
  pub ran-runs : (n : Lamp) (clock : ℕ) → Ran m task begun n → cause n (Call.Step clock) ≡ accepted →
      n.running ≡ saved m task begun
  ran-runs n clock r z = step-runs n (saved m task begun) clock (ran-saves n r) z

  -- what holds after the start, and after each step of what it saved, holds of every lamp that they leave
  module _ (P : Lamp → Type 0)
      (first : lamp_valid (at_clock m begun) ≡ true → task_valid task ≡ true → P (started (at_clock m begun) task).lamp)
      (next : (x : Lamp) (clock : ℕ) → lamp_valid (at_clock x clock) ≡ true →
      running_valid (saved m task begun) x.bounds clock ≡ true → P x →
      P (stepped (at_clock x clock) (saved m task begun)).lamp) where
    pub ran-by : (n : Lamp) → Ran m task begun n → P n
    ran-by n (began z) = start-by m task begun P z first
    ran-by n (went {x} clock r z) =
        step_by x (saved m task begun) clock P (ran-runs x clock r z) z (λ f g. next x clock f g (ran-by x r))

-- where nothing runs after a pass, it was the last
pub idle-done : (end : Bool) (run : Running) → runs run ≡ true → unless end run ≡ Running.Idle → end ≡ true
idle-done true run r e = refl
idle-done false run r e = absurd (true≢false (sym r ∙ ap runs e))

-- the lamp was valid
pub ran-valid : {m : Lamp} {task : Task} {begun : ℕ} {n : Lamp} → Ran m task begun n → lamp_valid (at_clock m begun) ≡ true
ran-valid {m} {task} {begun} (began z) = granted-ready m (Call.Start task begun) z
ran-valid (went clock r z) = ran-valid r
