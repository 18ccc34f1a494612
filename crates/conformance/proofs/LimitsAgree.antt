-- The port's bounds of a move or a step of mireds are the text's, a started move runs between them, and a target is brought to
-- the closest mireds.
use Rattle.matter.specs.Causes.{accepted}
use Rattle.std.specs.Prelude.{Some}
use Prim.Native.Nat.{ℕ, zero, suc, ◌≤◌, ◌<◌}
use mathlib.Core.Bool.{Bool, true, false, true≢false}
use mathlib.Core.Path.{◌≡◌, refl, sym, ap, ◌∙◌}
use native.Mathlib.Omega.{arith}
use Rattle.std.proofs.lemmas.Bool.Decides.{nat_tests}
use lib.Dec.{leb}
use lib.IntN.{ℤ, pos}
use borrow.Author.Tests.{leb-false, lt-leb, ne_eqb}
use Rattle.matter.specs.Requests.{request}
use Rattle.matter.specs.declared.limits.Bounds.{Bounds}
use Rattle.matter.specs.declared.commands.Command.{Command}
use Rattle.matter.specs.declared.commands.Request.{Request}
use Rattle.matter.specs.declared.commands.CommandOptions.{CommandOptions}
use Rattle.matter.specs.declared.enums.MoveModeEnum.{MoveModeEnum}
use Rattle.matter.specs.declared.enums.OnOff.{OnOff}
use Rattle.matter.proofs.Laws.{cond_both}
use Rattle.progress.specs.Progress.{clamp}
use Rattle.tasks.specs.declared.ColorTemperatureMove.{ColorTemperatureMove}
use Rattle.tasks.specs.declared.ColorTemperatureRun.{ColorTemperatureRun}
use Rattle.tasks.specs.declared.Task.{Task}
use Rattle.tasks.specs.Valid.{task_valid}
use Rattle.lamp.specs.declared.Answer.{Answer}
use Rattle.lamp.specs.declared.Lamp.{Lamp}
use Rattle.lamp.specs.Answers.{at_clock}
use Rattle.matter.specs.Bounds.{lower, upper}
use Rattle.lamp.specs.Calls.{done, started, temperature_start}
use Rattle.lamp.proofs.Kept.{start-ready}
use Rattle.matter.specs.Rules.{signed}
use Rattle.lamp.specs.Passes.{idled, temperature_pass}
use Rattle.lamp.specs.declared.Call.{Call}
use Rattle.commands.specs.Answers.{cause, answer, allowed, command_done}
use Rattle.commands.specs.Commands.{CommandEffect, asked, lo, hi, checks, command_effect}
use Rattle.commands.proofs.Kept.{answer-both}
use Rattle.conformance.specs.Limits.{Allowed, Closest}
use Rattle.conformance.proofs.Ran.{granted-is}

module _ (bounds : Bounds) where
  asked_is : (physical n : ℕ) → (n ≡ 0 → ⊥) → asked physical n ≡ n
  asked_is physical n h = rw (ne_eqb n 0 h)

  -- every mired that the text allows lies between the port's bounds
  pub allowed-within : (minimum maximum n : ℕ) → Allowed bounds minimum maximum n →
      (lo bounds minimum ≤ n) × (n ≤ hi bounds maximum)
  allowed-within minimum maximum n a = (low minimum a.field_minimum, high maximum a.field_maximum)
    where
      low : (m : ℕ) → ((m ≡ 0 → ⊥) → m ≤ n) → lo bounds m ≤ n
      low zero f = omega (arith, a.physical_minimum)
      low (suc m) f = rw (ne_eqb (suc m) 0 (λ e. omega arith)) (omega (arith, a.physical_minimum, f (λ e. omega arith)))

      high : (m : ℕ) → ((m ≡ 0 → ⊥) → n ≤ m) → n ≤ hi bounds m
      high zero f = omega (arith, a.physical_maximum)
      high (suc m) f =
          rw (ne_eqb (suc m) 0 (λ e. omega arith)) (omega (arith, a.physical_maximum, f (λ e. omega arith)))

  -- and every mired between them is allowed
  pub within-allowed : (minimum maximum n : ℕ) → lo bounds minimum ≤ n → n ≤ hi bounds maximum →
      Allowed bounds minimum maximum n
  within-allowed minimum maximum n h k =
      record {
        physical_minimum = omega arith;
        physical_maximum = omega arith;
        field_minimum = λ z. omega (arith, asked_is bounds.min minimum z);
        field_maximum = λ z. omega (arith, asked_is bounds.max maximum z);
      }

  -- the limits of a step cross exactly where no mired is allowed
  pub crossed-none : (minimum maximum n : ℕ) → hi bounds maximum < lo bounds minimum → Allowed bounds minimum maximum n → ⊥
  crossed-none minimum maximum n h a = omega (arith, h, allowed-within minimum maximum n a)

  pub uncrossed-some : (minimum maximum : ℕ) → lo bounds minimum ≤ hi bounds maximum → Allowed bounds minimum maximum (lo bounds minimum)
  uncrossed-some minimum maximum h = within-allowed minimum maximum (lo bounds minimum) (omega arith) h

-- ---- MoveColorTemperature: the task that it is answered with, started on a lamp with the same bounds

-- what a start does that runs between the mireds allowed: a pass of a record with these bounds and no others
pub record RunsWithin (bounds : Bounds) (minimum maximum : ℕ) (rate : ℤ) (before : Lamp) (clock : ℕ)
    (after : Answer) : Type 0 where
  pub run : ColorTemperatureRun
  pub begins : (run.start ≡ clock) × (run.mireds ≡ before.color.mireds) × (run.rate ≡ rate)
  pub passes : after ≡ done (temperature_pass (at_clock before clock) run)
  pub all : (n : ℕ) → Allowed bounds minimum maximum n → (run.lo ≤ n) × (n ≤ run.hi)
  pub only : (n : ℕ) → run.lo ≤ n → n ≤ run.hi → Allowed bounds minimum maximum n

-- no two mireds are allowed
abbrev pub NoTwo : Bounds → ℕ → ℕ → Type 0
NoTwo bounds minimum maximum =
    (n k : ℕ) → Allowed bounds minimum maximum n → Allowed bounds minimum maximum k → n ≡ k

-- the task that a call is answered with
abbrev pub Answered : Lamp → Call → Task → Type 0
Answered l x task = (answer l x).task ≡ Some task

module _ (l : Lamp) (mode : MoveModeEnum) (rate minimum maximum : ℕ) (options : CommandOptions) (on_off : OnOff)
    (first : ℕ) (task : Task)
    (given : Answered l (Call.Command (request (Command.MoveColorTemperature mode rate minimum maximum) options) on_off first) task)
    (m : Lamp) (same : m.bounds ≡ l.bounds) (clock : ℕ) (taken : cause m (Call.Start task clock) ≡ accepted) where
  abbrev asks : ColorTemperatureMove
  asks = record { rate = signed mode rate; min = asked l.bounds.min minimum; max = asked l.bounds.max maximum }

  -- the task that a command gives is the Stop task or this one, and a Stop is not started
  stop-refused : task ≡ Task.Stop → ⊥
  unfolding cause task_valid
  stop-refused e = true≢false (sym (start-ready m clock task taken).1 ∙ ap task_valid e)

  abbrev Gives : CommandEffect → Type 0
  Gives e = e.task ≡ Some task → task ≡ Task.ColorTemperatureMove asks

  gives-by : Gives (command_done (at_clock l first)
      (request (Command.MoveColorTemperature mode rate minimum maximum) options) on_off)
  unfolding command_effect
  gives-by =
      let q : Request = request (Command.MoveColorTemperature mode rate minimum maximum) options in
      cond_both Gives (checks q.command).stop _ _ (λ s g. absurd (stop-refused (cc)))
      (λ s. cond_both Gives (allowed l q on_off) _ _ (λ a g. cc)
      (λ a g. let z : ◌≡◌ {A = ℕ} 0 1 = cc in absurd (omega arith)))

  task-is : task ≡ Task.ColorTemperatureMove asks
  task-is =
      answer-both l (λ (a : Answer). a.task ≡ Some task → task ≡ Task.ColorTemperatureMove asks)
      (Call.Command (request (Command.MoveColorTemperature mode rate minimum maximum) options) on_off first)
      (λ z. gives-by)
      (λ n g. let z : ◌≡◌ {A = ℕ} 0 1 = cc in absurd (omega arith))
      given

  start_is : answer m (Call.Start task clock) ≡ done (temperature_start (at_clock m clock) asks)
  unfolding started
  start_is =
      granted-is m (Call.Start task clock) taken ∙ ap (λ (t : Task). done (started (at_clock m clock) t)) task-is

  low-is : lower m.bounds asks.min ≡ lo l.bounds minimum
  low-is = ap (λ (b : Bounds). lower b asks.min) same

  high_is : upper m.bounds asks.max ≡ hi l.bounds maximum
  high_is = ap (λ (b : Bounds). upper b asks.max) same

  crossed-by : (b : Bool) → leb (hi l.bounds maximum) (lo l.bounds minimum) ≡ b →
      NoTwo l.bounds minimum maximum → b ≡ true
  crossed-by true e h = refl
  crossed-by false e h =
      let apart : lo l.bounds minimum < hi l.bounds maximum = leb-false (hi l.bounds maximum) (lo l.bounds minimum) e in
      absurd (omega (
        arith,
        h (lo l.bounds minimum) (hi l.bounds maximum)
            (within-allowed l.bounds minimum maximum (lo l.bounds minimum) (omega arith) (omega arith))
            (within-allowed l.bounds minimum maximum (hi l.bounds maximum) (omega arith) (omega arith)),
      ))

  -- where no two mireds are allowed, it is done at once: the lamp is idle, nothing else but the clock changes, nothing is reported
  pub move-at-once : NoTwo l.bounds minimum maximum →
      answer m (Call.Start task clock) ≡ done (idled (at_clock m clock))
  unfolding temperature_start
  move-at-once h = start_is ∙ rw (high_is, low-is, crossed-by _ refl h)

  -- where two are, it runs between the mireds that are allowed and no others
  pub move-runs : (n k : ℕ) → Allowed l.bounds minimum maximum n → Allowed l.bounds minimum maximum k → n < k →
      RunsWithin l.bounds minimum maximum (signed mode rate) m clock (answer m (Call.Start task clock))
  unfolding temperature_start
  move-runs n k a b h =
      let low : lo l.bounds minimum ≤ n = (allowed-within l.bounds minimum maximum n a).0 in
      let high : k ≤ hi l.bounds maximum = (allowed-within l.bounds minimum maximum k b).1 in
      record {
        run =
            record {
              start = clock;
              mireds = m.color.mireds;
              rate = signed mode rate;
              lo = lo
                  l.bounds minimum;
              hi = hi l.bounds maximum;
            };
        begins = (refl, refl, refl);
        passes =
            start_is ∙ rw (high_is, low-is, lt-leb (hi l.bounds maximum) (lo l.bounds minimum) (omega arith));
        all = allowed-within l.bounds minimum maximum;
        only = within-allowed l.bounds minimum maximum;
      }

-- ---- MoveToColorTemperature: the closest that the device has

-- what a target is brought to is the closest
pub closest-agrees : (least most n : ℕ) → least ≤ most → Closest least most n (clamp least most (pos n))
unfolding clamp
closest-agrees least most n h =
    record {
      low = grind (arith, nat_tests);
      high = grind (arith, nat_tests);
      near = λ other a b. grind (arith, nat_tests);
    }

-- and there is no other
pub closest-only : (least most n a b : ℕ) → Closest least most n a → Closest least most n b → a ≡ b
closest-only least most n a b c d =
    grind (arith, c.near least, d.near least, c.near most, d.near most, c.near n, d.near n, c.low, c.high, d.low, d.high)
