-- What a lamp shows in a move-to, in calls: after each accepted step of it, and from an accepted start on, as long as it
-- runs and after. The hue is that of the start and the part of its way (`gone`, the part's size, is compared with the
-- text's in TransitionAgrees); the saturation and the mireds are the numbers on their lines; the remaining time is the
-- text's.
use Rattle.matter.specs.Causes.{accepted}
use Rattle.std.specs.Prelude.{Option, Some, None}
use Prim.Native.Nat.{ℕ, zero, suc, ◌-◌, ◌%◌, ◌≤◌, ◌<◌, min}
use mathlib.Core.Bool.{Bool, true, false, cond, ◌&&◌, ◌||◌, or-true, true≢false}
use mathlib.Core.Logic.{◌⊎◌, inl, inr, ⊎_elim}
use mathlib.Core.Path.{◌≡◌, refl, sym, ap, subst, ◌∙◌}
use native.Mathlib.Nat.{zero-div}
use native.Mathlib.Omega.{arith}
use Rattle.std.proofs.lemmas.Bool.Decides.{nat_tests}
use lib.Dec.{leb, eqb}
use lib.IntN.{ℤ, pos, negsuc, nat_abs, ◌-ℤ◌}
use borrow.Author.Tests.{eqb-true, eq-eqb, ne_eqb, leb-true, lt-leb}
use Rattle.matter.specs.declared.limits.Bounds.{Bounds}
use Rattle.matter.proofs.Laws.{and_left, and_right, cond_both, each}
use Rattle.hue.specs.Hue.{moved_hue}
use Rattle.progress.specs.Progress.{permille_of, part_of, clamp}
use Rattle.progress.proofs.Laws.{permille-is, permille-full, permille-short, permille-most, permille-grows, part_up, clamp-within}
use Rattle.remaining_time.specs.RemainingTime.{new_tenths}
use Rattle.color.specs.declared.Color.{Color}
use Rattle.color.proofs.Kept.{valid-saturation, valid-above, valid-below}
use Rattle.tasks.specs.declared.ColorTemperatureMoveTo.{ColorTemperatureMoveTo}
use Rattle.tasks.specs.declared.ColorTemperatureToRun.{ColorTemperatureToRun}
use Rattle.tasks.specs.declared.HueSaturationMoveTo.{HueSaturationMoveTo}
use Rattle.tasks.specs.declared.HueSaturationRun.{HueSaturationRun}
use Rattle.tasks.specs.declared.Running.{Running}
use Rattle.tasks.specs.declared.Task.{Task}
use Rattle.tasks.specs.Runs.{runs}
use Rattle.tasks.specs.Valid.{move_to_valid, running_valid, saturation_valid, task_valid, time_valid, within_bounds}
use Rattle.lamp.specs.declared.Lamp.{Lamp}
use Rattle.lamp.specs.Answers.{at_clock}
use Rattle.lamp.specs.Calls.{started, stepped, hue_saturation_start, temperature_to_start, start_permille, no_hue_delta, no_saturation_delta}
use Rattle.lamp.specs.Valid.{lamp_valid}
use Rattle.lamp.proofs.Kept.{valid-color}
use Rattle.lamp.proofs.Passed.{with_full_time}
use Rattle.lamp.specs.Passes.{at_end, unless, hue_moved, saturation_moved, saturation_now, mireds_now, hue_now, hue_saturation_pass, temperature_to_pass, hue_saturation_moved, temperature_to_moved, timed}
use Rattle.lamp.specs.declared.Call.{Call}
use Rattle.commands.specs.Answers.{cause, answer}
use Rattle.conformance.specs.Limits.{Closest}
use Rattle.conformance.proofs.LimitsAgree.{closest-agrees, closest-only}
use Rattle.conformance.specs.Started.{Ran, Lasts, saved}
use Rattle.conformance.proofs.Ran.{start-by, step_by, ran-runs, ran-by, ran-valid, idle-done}
use Rattle.conformance.specs.Receipt.{Each, MiredsAlone}
use Rattle.conformance.specs.Reports.{RemainingTimeIs}
use Rattle.conformance.proofs.SettersSet.{hue-is-set, hue-leaves, saturation-is-set, saturation-leaves, mireds-is-set, mireds-leaves}
use Rattle.conformance.specs.Transition.{on_line}
use Rattle.conformance.proofs.TransitionAgrees.{gone, line-is, no-delta}

-- the hue so long after the start of a move-to, from the hue of the start, and from the hue before the call
abbrev pub HueShows : Option ℤ → ℕ → ℕ → ℕ → ℕ → ℕ → Type 0
HueShows None first elapsed time before now = now ≡ before
HueShows (Some way) first elapsed time before now = now ≡ moved_hue first (part_of way (permille_of elapsed time))

-- and the saturation
abbrev pub SaturationShows : Option ℕ → ℕ → ℕ → ℕ → ℕ → ℕ → Type 0
SaturationShows None first elapsed time before now = now ≡ before
SaturationShows (Some target) first elapsed time before now =
    now ≡ on_line first target (gone (pos target -ℤ pos first) elapsed time)

-- the colour so long after the start of a move to a hue, a saturation or both
abbrev pub ShowsMoveTo : HueSaturationMoveTo → ℕ → ℕ → ℕ → Color → Color → Type 0
ShowsMoveTo task hue saturation elapsed before after =
    Each (HueShows task.delta hue elapsed task.ms before.hue after.hue)
    (SaturationShows task.saturation saturation elapsed task.ms before.saturation after.saturation)
    (after.mireds ≡ before.mireds)

-- and of a move to mireds, from the mireds of the start to the target
abbrev pub ShowsMiredsTo : ℕ → ℕ → ℕ → ℕ → Color → Color → Type 0
ShowsMiredsTo mireds target elapsed time before after =
    MiredsAlone before after (λ a b. b ≡ on_line mireds target (gone (pos target -ℤ pos mireds) elapsed time))

-- nowhere to go: neither the hue nor the saturation has a way
abbrev pub NoHueDelta : Option ℤ → Type 0
NoHueDelta None = Unit
NoHueDelta (Some way) = way ≡ pos 0

abbrev pub NoSaturationDelta : Option ℕ → ℕ → Type 0
NoSaturationDelta None saturation = Unit
NoSaturationDelta (Some target) saturation = target ≡ saturation

abbrev pub Nowhere : HueSaturationMoveTo → ℕ → Type 0
Nowhere task saturation = NoHueDelta task.delta × NoSaturationDelta task.saturation saturation

-- ---- a pass at so many thousandths: those of the time elapsed, unless there is no way

no_part : (p : ℕ) → part_of (pos 0) p ≡ pos 0
no_part p = part_up 0 p ∙ ap pos (omega arith)

module _ (first p elapsed time : ℕ) where
  -- the thousandths are those of the time, or so
  abbrev Or : Type 0 → Type 0
  Or NoWay = (p ≡ permille_of elapsed time) ⊎ NoWay

  same-part : (way : ℤ) → Or (way ≡ pos 0) → part_of way p ≡ part_of way (permille_of elapsed time)
  same-part way (inl e) = ap (part_of way) e
  same-part way (inr e) = rw e (no_part p ∙ sym (no_part (permille_of elapsed time)))

  -- a number on its line
  line-shows : (lo hi target : ℕ) → p ≤ 1000 → (lo ≤ first) × (first ≤ hi) → (lo ≤ target) × (target ≤ hi) →
      Or (target ≡ first) →
      mireds_now (record { min = lo; max = hi }) first target p
      ≡ on_line first target (gone (pos target -ℤ pos first) elapsed time)
  line-shows lo hi target few f t at =
      line-is lo hi first target p few f.0 f.1 t.0 t.1
      ∙ ap (λ (z : ℤ). on_line first target (nat_abs z))
      (same-part (pos target -ℤ pos first) (⊎_elim inl (λ e. inr (no-delta first target (sym e))) at))

  module _ (c : Color) (clock : ℕ) where
    -- the hue's part of a pass, which leaves saturation and mireds
    hue-part : (d : Option ℤ) (enhanced : Bool) → Or (NoHueDelta d) →
        HueShows d first elapsed time c.hue (hue_moved c d first p enhanced clock).color.hue
        × ((hue_moved c d first p enhanced clock).color.saturation ≡ c.saturation)
        × ((hue_moved c d first p enhanced clock).color.mireds ≡ c.mireds)
    hue-part None enhanced at = (refl, refl, refl)
    hue-part (Some way) enhanced at =
        let left = hue-leaves c (hue_now first way p) (at_end p) enhanced clock in (
          hue-is-set c (hue_now first way p) (at_end p) enhanced clock ∙ ap (moved_hue first) (same-part way at),
          left.0,
          left.1,
        )

    -- and the saturation's, which leaves hue and mireds
    saturation-part : (t : Option ℕ) → p ≤ 1000 → first ≤ 254 → saturation_valid t ≡ true →
        Or (NoSaturationDelta t first) →
        SaturationShows t first elapsed time c.saturation (saturation_moved c t first p clock).color.saturation
        × ((saturation_moved c t first p clock).color.hue ≡ c.hue)
        × ((saturation_moved c t first p clock).color.mireds ≡ c.mireds)
    saturation-part None few high validity at = (refl, refl, refl)
    saturation-part (Some target) few high validity at =
        let left = saturation-leaves c (saturation_now first target p) (at_end p) clock in (
          saturation-is-set c (saturation_now first target p) (at_end p) clock
              ∙ line-shows 0 254 target few (omega arith, high) (omega arith, leb-true target 254 validity) at,
          left.0,
          left.1,
        )

module _ (x : Lamp) (p elapsed : ℕ) (few : p ≤ 1000) where
  pass-shows : (run : HueSaturationRun) → run.saturation ≤ 254 → saturation_valid run.task.saturation ≡ true →
      (p ≡ permille_of elapsed run.task.ms) ⊎ Nowhere run.task run.saturation →
      ShowsMoveTo run.task run.hue run.saturation elapsed x.color (hue_saturation_pass x run p).lamp.color
  unfolding hue_saturation_moved timed
  pass-shows run high validity at =
      let d : Option ℤ = run.task.delta in
      let t : Option ℕ = run.task.saturation in
      let time : ℕ = run.task.ms in
      let hued : Color = (hue_moved x.color d run.hue p run.task.enhanced x.clock).color in
      let h =
      hue-part run.hue p elapsed time x.color x.clock d run.task.enhanced (⊎_elim inl (λ n. inr n.0) at)
      in
      let s =
      saturation-part run.saturation p elapsed time hued x.clock t few high validity
      (⊎_elim inl (λ n. inr n.1) at)
      in
      record {
        hue = subst (HueShows d run.hue elapsed time x.color.hue) (sym s.1) h.0;
        saturation =
            subst (λ (n : ℕ). SaturationShows t run.saturation elapsed time n
            (saturation_moved hued t run.saturation p x.clock).color.saturation) h.1 s.0;
        mireds = s.2 ∙ h.2;
      }

  pass-shows-mireds : (run : ColorTemperatureToRun) →
      (x.bounds.min ≤ run.mireds) × (run.mireds ≤ x.bounds.max) →
      (x.bounds.min ≤ run.task.target) × (run.task.target ≤ x.bounds.max) →
      (p ≡ permille_of elapsed run.task.ms) ⊎ (run.task.target ≡ run.mireds) →
      ShowsMiredsTo run.mireds run.task.target elapsed run.task.ms x.color
      (temperature_to_pass x run p).lamp.color
  unfolding temperature_to_moved timed
  pass-shows-mireds run first last at =
      let now : ℕ = mireds_now x.bounds run.mireds run.task.target p in
      let left = mireds-leaves x.color now (at_end p) x.clock in
      record {
        hue = left.0;
        saturation = left.1;
        mireds =
            mireds-is-set x.color now (at_end p) x.clock
            ∙ line-shows run.mireds p elapsed run.task.ms x.bounds.min x.bounds.max run.task.target
            few first last at;
      }

-- mireds within the bounds
within : (b : Bounds) (n : ℕ) → within_bounds b n ≡ true → (b.min ≤ n) × (n ≤ b.max)
within b n e = (leb-true _ _ (and_left (leb b.min n) _ e), leb-true _ _ (and_right (leb b.min n) _ e))

-- a step's pass
module _ (x : Lamp) (elapsed : ℕ) where
  stepped-shows : (run : HueSaturationRun) →
      running_valid (Running.HueSaturationMoveTo run) x.bounds x.clock ≡ true →
      permille_of (x.clock - run.start) run.task.ms ≡ permille_of elapsed run.task.ms →
      ShowsMoveTo run.task run.hue run.saturation elapsed x.color
      (stepped x (Running.HueSaturationMoveTo run)).lamp.color
  unfolding stepped running_valid move_to_valid
  stepped-shows run validity at =
      let valid = each _ validity in
      pass-shows x (permille_of (x.clock - run.start) run.task.ms) elapsed (permille-most _ _) run
      (leb-true _ _ valid.1.1.0) (each _ valid.0).1.1.0 (inl at)

  stepped-shows-mireds : (run : ColorTemperatureToRun) →
      running_valid (Running.ColorTemperatureMoveTo run) x.bounds x.clock ≡ true →
      permille_of (x.clock - run.start) run.task.ms ≡ permille_of elapsed run.task.ms →
      ShowsMiredsTo run.mireds run.task.target elapsed run.task.ms x.color
      (stepped x (Running.ColorTemperatureMoveTo run)).lamp.color
  unfolding stepped running_valid
  stepped-shows-mireds run validity at =
      let valid = each _ validity in
      pass-shows-mireds x (permille_of (x.clock - run.start) run.task.ms) elapsed (permille-most _ _) run
      (within x.bounds run.mireds valid.1.1.0) (within x.bounds run.task.target valid.1.1.1.0)
      (inl at)

-- ---- an accepted step: the numbers of the record at the time elapsed, the remaining time, and what runs on

pub record RunsOn (time elapsed : ℕ) (run : Running) (after : Lamp) : Type 0 where
  pub remaining : RemainingTimeIs (time - elapsed) after.remaining.tenths
  pub ends : time ≤ elapsed → after.running ≡ Running.Idle
  pub goes_on : elapsed < time → after.running ≡ run

left_by : (e t : ℕ) → t ≤ 6553500 → RemainingTimeIs (t - e) (new_tenths (cond (leb 1000 (permille_of e t)) 0 (t - e)))
left_by e t h =
    record {
      enough = grind (arith, nat_tests, permille-short e t);
      fewest = λ n m. grind (arith, nat_tests, permille-short e t);
    }

-- a time valid is at most 6,553,500
time-valid : (ms : ℕ) → time_valid ms ≡ true → ms ≤ 6553500
time-valid ms e = leb-true ms 6553500 (and_right (eqb (ms % 100) 0) (leb ms 6553500) e)

runs_on : (time elapsed : ℕ) (run : Running) (after : Lamp) → time_valid time ≡ true →
    after.remaining.tenths ≡ new_tenths (cond (at_end (permille_of elapsed time)) 0 (time - elapsed)) →
    after.running ≡ unless (at_end (permille_of elapsed time)) run → RunsOn time elapsed run after
runs_on time elapsed run after validity left runs =
    record {
      remaining =
          rw left (left_by elapsed time (time-valid time validity));
      ends = λ h. runs ∙ rw (permille-full elapsed time h);
      goes_on = λ h. runs ∙ rw (lt-leb 1000 (permille_of elapsed time) (permille-short elapsed time h));
    }

module _ (l : Lamp) (clock : ℕ) (taken : cause l (Call.Step clock) ≡ accepted) where
  -- of a move to a hue, a saturation or both
  module _ (run : HueSaturationRun) (running : l.running ≡ Running.HueSaturationMoveTo run) where
    pub step-shows : ShowsMoveTo run.task run.hue run.saturation (clock - run.start) l.color
        (answer l (Call.Step clock)).lamp.color
    step-shows =
        step_by l _ clock
        (λ y. ShowsMoveTo run.task run.hue run.saturation (clock - run.start) l.color y.color)
        running taken (λ f g. stepped-shows (at_clock l clock) (clock - run.start) run g refl)

    pub step-runs-on : RunsOn run.task.ms (clock - run.start) (Running.HueSaturationMoveTo run)
        (answer l (Call.Step clock)).lamp
    unfolding stepped hue_saturation_moved timed running_valid move_to_valid
    step-runs-on =
        step_by l _ clock (RunsOn run.task.ms (clock - run.start) (Running.HueSaturationMoveTo run)) running
        taken (λ f g. runs_on _ _ _ _ (each _ (each _ g).0).0 refl refl)

  -- of a move to mireds
  module _ (run : ColorTemperatureToRun) (running : l.running ≡ Running.ColorTemperatureMoveTo run) where
    pub mireds-step-shows : ShowsMiredsTo run.mireds run.task.target (clock - run.start) run.task.ms
        l.color (answer l (Call.Step clock)).lamp.color
    mireds-step-shows =
        step_by l _ clock
        (λ y. ShowsMiredsTo run.mireds run.task.target (clock - run.start) run.task.ms l.color
        y.color) running taken (λ f g. stepped-shows-mireds (at_clock l clock) (clock - run.start) run g refl)

    pub mireds-step-runs-on : RunsOn run.task.ms (clock - run.start) (Running.ColorTemperatureMoveTo run)
        (answer l (Call.Step clock)).lamp
    unfolding stepped temperature_to_moved timed running_valid
    mireds-step-runs-on =
        step_by l _ clock (RunsOn run.task.ms (clock - run.start) (Running.ColorTemperatureMoveTo run)) running
        taken (λ f g. runs_on _ _ _ _ (each _ g).0 refl refl)

-- ---- an accepted start

on-its-way : (ms : ℕ) → 0 < ms → start_permille ms false ≡ 0
on-its-way ms h = rw (ne_eqb ms 0 (λ e. omega arith))

start-over : (ms : ℕ) → at_end (start_permille ms true) ≡ true
start-over ms = rw (or-true (eqb ms 0))

start-few : (ms : ℕ) (no_delta : Bool) → start_permille ms no_delta ≤ 1000
start-few ms no_delta = cond_both (λ (n : ℕ). n ≤ 1000) (eqb ms 0 || no_delta) 1000 0 (λ e. omega arith) (λ e. omega arith)

-- its thousandths are those of no time, unless there is no way
start-at : (ms : ℕ) (no_delta : Bool) → (start_permille ms no_delta ≡ permille_of 0 ms) ⊎ (no_delta ≡ true)
unfolding permille_of
start-at zero no_delta = inl refl
start-at (suc n) true = inr refl
start-at (suc n) false =
    inl (on-its-way (suc n) (omega arith)
    ∙ sym (permille-is 0 (suc n) (omega arith) ∙ ap (min 1000) (zero-div (suc n))))

start_left : (ms clock : ℕ) → ms ≤ 6553500 →
    RemainingTimeIs ms (new_tenths (cond (at_end (start_permille ms false)) 0 (ms - (clock - clock))))
start_left zero clock h = record { enough = omega arith; fewest = λ n m. omega arith }
start_left (suc n) clock h =
    rw (on-its-way (suc n) (omega arith)) (record { enough = omega arith; fewest = λ n m. omega arith })

-- what a start leaves: all of the time and the record, or, where there is nowhere to go or no time, nothing
pub record Begins (time : ℕ) (run : Running) (Done : Type 0) (after : Lamp) : Type 0 where
  pub remaining : (Done → ⊥) → RemainingTimeIs time after.remaining.tenths
  pub none_left : Done → after.remaining.tenths ≡ 0
  pub runs : 0 < time → (Done → ⊥) → after.running ≡ run
  pub no_time : time ≡ 0 → after.running ≡ Running.Idle
  pub nowhere : Done → after.running ≡ Running.Idle

begins-by : (ms clock : ℕ) (r : Running) (Done : Type 0) (b : Bool) (m : Lamp) → time_valid ms ≡ true →
    (Done → b ≡ true) → (b ≡ true → Done) →
    m.remaining.tenths ≡ new_tenths (cond (at_end (start_permille ms b)) 0 (ms - (clock - clock))) →
    m.running ≡ unless (at_end (start_permille ms b)) r → Begins ms r Done m
begins-by ms clock r Done true m validity to from left runs =
    record {
      remaining = λ n. absurd (n (from refl));
      none_left = λ d. left ∙ rw (start-over ms);
      runs = λ h n. absurd (n (from refl));
      no_time = λ e. runs ∙ rw (start-over ms);
      nowhere = λ d. runs ∙ rw (start-over ms);
    }
begins-by ms clock r Done false m validity to from left runs =
    record {
      remaining = λ n. rw left (start_left ms clock (time-valid ms validity));
      none_left = λ d. absurd (true≢false (sym (to d)));
      runs = λ h n. runs ∙ rw (on-its-way ms h);
      no_time = λ e. runs ∙ ap (λ (n : ℕ). unless (at_end (start_permille n false)) r) e;
      nowhere = λ d. absurd (true≢false (sym (to d)));
    }

-- whether there is a way
no-hue : (d : Option ℤ) → NoHueDelta d → no_hue_delta d ≡ true
no-hue None h = refl
no-hue (Some way) h = eq-eqb (nat_abs way) 0 (ap nat_abs h)

no-hue-so : (d : Option ℤ) → no_hue_delta d ≡ true → NoHueDelta d
no-hue-so None h = tt
no-hue-so (Some (pos n)) h = ap pos (eqb-true n 0 h)
no-hue-so (Some (negsuc n)) h = absurd (omega (arith, eqb-true (suc n) 0 h))

no-saturation : (t : Option ℕ) (first : ℕ) → NoSaturationDelta t first → no_saturation_delta t first ≡ true
no-saturation None first h = refl
no-saturation (Some target) first h = eq-eqb target first h

no-saturation-so : (t : Option ℕ) (first : ℕ) → no_saturation_delta t first ≡ true → NoSaturationDelta t first
no-saturation-so None first h = tt
no-saturation-so (Some target) first h = eqb-true target first h

module _ (task : HueSaturationMoveTo) (first : ℕ) where
  abbrev still : Bool
  still = no_hue_delta task.delta && no_saturation_delta task.saturation first

  nowhere-still : Nowhere task first → still ≡ true
  nowhere-still n = rw (no-hue task.delta n.0, no-saturation task.saturation first n.1)

  still-nowhere : still ≡ true → Nowhere task first
  still-nowhere e = (
    no-hue-so task.delta (and_left (no_hue_delta task.delta) _ e),
    no-saturation-so task.saturation first (and_right (no_hue_delta task.delta) _ e),
  )

-- the mireds that a start goes to
abbrev pub clamped : Lamp → ℕ → ℕ
clamped l target = clamp l.bounds.min l.bounds.max (pos target)

-- mireds of a valid lamp, and the closest to a target that its bounds allow
module _ (l : Lamp) (clock : ℕ) (validity : lamp_valid (at_clock l clock) ≡ true) where
  bounded : (l.bounds.min ≤ l.color.mireds) × (l.color.mireds ≤ l.bounds.max)
  bounded =
      let c = valid-color (at_clock l clock) validity in
      (valid-above l.color l.bounds clock c, valid-below l.color l.bounds clock c)

  closest-is : (target to : ℕ) → Closest l.bounds.min l.bounds.max target to →
      clamped l target ≡ to
  closest-is target to closest =
      closest-only l.bounds.min l.bounds.max target _ to
      (closest-agrees l.bounds.min l.bounds.max target (omega (arith, bounded))) closest

module _ (l : Lamp) (clock : ℕ) where
  pub start-begins : (task : HueSaturationMoveTo) → cause l (Call.Start (Task.HueSaturationMoveTo task) clock) ≡ accepted →
      Begins task.ms (saved l (Task.HueSaturationMoveTo task) clock) (Nowhere task l.color.saturation)
      (answer l (Call.Start (Task.HueSaturationMoveTo task) clock)).lamp
  unfolding started hue_saturation_start hue_saturation_moved timed task_valid move_to_valid
  start-begins task taken =
      let first : ℕ = l.color.saturation in
      start-by l (Task.HueSaturationMoveTo task) clock
      (Begins task.ms (saved l (Task.HueSaturationMoveTo task) clock) (Nowhere task first)) taken
      (λ f t. begins-by task.ms clock _ _ (still task first) _ (each _ t).0 (nowhere-still task first)
      (still-nowhere task first) refl refl)

  -- of a move to mireds, to the closest that the bounds allow
  pub mireds-start-begins : (task : ColorTemperatureMoveTo) →
      cause l (Call.Start (Task.ColorTemperatureMoveTo task) clock) ≡ accepted →
      (to : ℕ) → Closest l.bounds.min l.bounds.max task.target to →
      Begins task.ms (saved l (Task.ColorTemperatureMoveTo task) clock) (to ≡ l.color.mireds)
      (answer l (Call.Start (Task.ColorTemperatureMoveTo task) clock)).lamp
  unfolding started temperature_to_start temperature_to_moved timed task_valid
  mireds-start-begins task taken to closest =
      start-by l (Task.ColorTemperatureMoveTo task) clock
      (Begins task.ms (saved l (Task.ColorTemperatureMoveTo task) clock) (to ≡ l.color.mireds)) taken
      (λ f t.
      let e = closest-is l clock f task.target to closest in
      begins-by task.ms clock _ _
      (eqb (clamped l task.target) l.color.mireds) _ t
      (λ d. eq-eqb _ _ (e ∙ d)) (λ s. sym e ∙ eqb-true _ _ s) refl refl)

-- ---- from an accepted start on, at the clock of the last call, and where nothing runs any more at every later one

-- a pass has the thousandths of every clock at which its lamp shows the same
same-thousandths : (p begun time clock : ℕ) (run : Running) (after : Lamp) → runs run ≡ true →
    after.running ≡ unless (at_end p) run → p ≡ permille_of (after.clock - begun) time → Lasts after clock →
    p ≡ permille_of (clock - begun) time
same-thousandths p begun time clock run after r u h (inl e) = h ∙ ap (λ (c : ℕ). permille_of (c - begun) time) (sym e)
same-thousandths p begun time clock run after r u h (inr (i, le)) =
    omega (
      arith,
      leb-true 1000 p (idle-done (at_end p) run r (sym u ∙ i)),
      permille-most (clock - begun) time,
      permille-grows (after.clock - begun) (clock - begun) time (omega arith),
    )

-- of a start, unless there is no way
start-thousandths : (ms begun clock : ℕ) (no_delta : Bool) (NoWay : Type 0) (run : Running) (after : Lamp) →
    runs run ≡ true → after.running ≡ unless (at_end (start_permille ms no_delta)) run → after.clock ≡ begun → (no_delta ≡ true → NoWay) →
    Lasts after clock → (start_permille ms no_delta ≡ permille_of (clock - begun) ms) ⊎ NoWay
start-thousandths ms begun clock no_delta NoWay run after r u c so lasts =
    let z : after.clock - begun ≡ 0 = omega arith in
    ⊎_elim (λ e. inl (same-thousandths _ begun ms clock run after r u (rw z e) lasts)) (λ e. inr (so e))
    (start-at ms no_delta)

hue-later : (d : Option ℤ) (first e f time before mid now : ℕ) → HueShows d first e time before mid →
    HueShows d first f time mid now → HueShows d first f time before now
hue-later None first e f time before mid now h k = k ∙ h
hue-later (Some way) first e f time before mid now h k = k

saturation-later : (t : Option ℕ) (first e f time before mid now : ℕ) →
    SaturationShows t first e time before mid → SaturationShows t first f time mid now →
    SaturationShows t first f time before now
saturation-later None first e f time before mid now h k = k ∙ h
saturation-later (Some target) first e f time before mid now h k = k

module _ (m : Lamp) (begun : ℕ) where
  -- of a move to a hue, a saturation or both
  module _ (task : HueSaturationMoveTo) where
    pub move-to-shows : (n : Lamp) → Ran m (Task.HueSaturationMoveTo task) begun n → (clock : ℕ) → Lasts n clock →
        ShowsMoveTo task m.color.hue m.color.saturation (clock - begun) m.color n.color
    unfolding started stepped hue_saturation_start hue_saturation_moved timed task_valid move_to_valid
    move-to-shows n r =
        let first : ℕ = m.color.saturation in
        ran-by m (Task.HueSaturationMoveTo task) begun
        (λ n. (clock : ℕ) → Lasts n clock →
        ShowsMoveTo task m.color.hue first (clock - begun) m.color n.color)
        (λ f t clock lasts.
        pass-shows (with_full_time (at_clock m begun) task.ms)
        (start_permille task.ms (still task first)) (clock - begun) (start-few task.ms (still task first))
        (record { start = begun; hue = m.color.hue; saturation = first; task = task })
        (valid-saturation m.color m.bounds begun (valid-color (at_clock m begun) f)) (each _ t).1.1.0
        (start-thousandths task.ms begun clock (still task first) _ _
        (started (at_clock m begun) (Task.HueSaturationMoveTo task)).lamp refl refl refl (still-nowhere task first)
        lasts))
        (λ x k f g q clock lasts.
        let a = q x.clock (inl refl) in
        let b =
        stepped-shows (at_clock x k) (clock - begun) _ g
        (same-thousandths _ begun task.ms clock _
        (stepped (at_clock x k) (saved m (Task.HueSaturationMoveTo task) begun)).lamp refl refl refl lasts)
        in
        record {
          hue = hue-later task.delta _ _ _ _ _ _ _ a.hue b.hue;
          saturation = saturation-later task.saturation _ _ _ _ _ _ _ a.saturation b.saturation;
          mireds = b.mireds ∙ a.mireds;
        })
        n r

    pub steps-run-on : (n : Lamp) (clock : ℕ) → Ran m (Task.HueSaturationMoveTo task) begun n →
        cause n (Call.Step clock) ≡ accepted →
        RunsOn task.ms (clock - begun) (saved m (Task.HueSaturationMoveTo task) begun) (answer n (Call.Step clock)).lamp
    steps-run-on n clock r z = step-runs-on n clock z _ (ran-runs m (Task.HueSaturationMoveTo task) begun n clock r z)

  -- of a move to mireds, to the closest that the bounds allow
  module _ (task : ColorTemperatureMoveTo) where
    pub clamped-shows : (n : Lamp) → Ran m (Task.ColorTemperatureMoveTo task) begun n → (clock : ℕ) → Lasts n clock →
        ShowsMiredsTo m.color.mireds (clamped m task.target) (clock - begun) task.ms m.color n.color
    unfolding started stepped temperature_to_start temperature_to_moved timed
    clamped-shows n r =
        let first : ℕ = m.color.mireds in
        let target : ℕ = clamped m task.target in
        ran-by m (Task.ColorTemperatureMoveTo task) begun
        (λ n. (clock : ℕ) → Lasts n clock →
        ShowsMiredsTo first target (clock - begun) task.ms m.color n.color)
        (λ f t clock lasts.
        let still : Bool = eqb target first in
        let b = bounded m begun f in
        pass-shows-mireds (with_full_time (at_clock m begun) task.ms) (start_permille task.ms still)
        (clock - begun) (start-few task.ms still)
        (record { start = begun; mireds = first; task = record { target = target; ms = task.ms } }) b
        (clamp-within m.bounds.min m.bounds.max (pos task.target) (omega (arith, b)))
        (start-thousandths task.ms begun clock still _ _
        (started (at_clock m begun) (Task.ColorTemperatureMoveTo task)).lamp refl refl refl (eqb-true target first)
        lasts))
        (λ x k f g q clock lasts.
        let a = q x.clock (inl refl) in
        let b =
        stepped-shows-mireds (at_clock x k) (clock - begun) _ g
        (same-thousandths _ begun task.ms clock _
        (stepped (at_clock x k) (saved m (Task.ColorTemperatureMoveTo task) begun)).lamp refl refl refl lasts)
        in
        record { hue = b.hue ∙ a.hue; saturation = b.saturation ∙ a.saturation; mireds = b.mireds })
        n r

    pub mireds-to-shows : (to : ℕ) → Closest m.bounds.min m.bounds.max task.target to →
        (n : Lamp) → Ran m (Task.ColorTemperatureMoveTo task) begun n → (clock : ℕ) → Lasts n clock →
        ShowsMiredsTo m.color.mireds to (clock - begun) task.ms m.color n.color
    mireds-to-shows to closest n r clock lasts =
        subst (λ (t : ℕ). ShowsMiredsTo m.color.mireds t (clock - begun) task.ms m.color n.color)
        (closest-is m begun (ran-valid r) task.target to closest) (clamped-shows n r clock lasts)

    pub mireds-steps-run-on : (n : Lamp) (clock : ℕ) → Ran m (Task.ColorTemperatureMoveTo task) begun n →
        cause n (Call.Step clock) ≡ accepted →
        RunsOn task.ms (clock - begun) (saved m (Task.ColorTemperatureMoveTo task) begun)
        (answer n (Call.Step clock)).lamp
    mireds-steps-run-on n clock r z =
        mireds-step-runs-on n clock z _ (ran-runs m (Task.ColorTemperatureMoveTo task) begun n clock r z)
