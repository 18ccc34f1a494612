-- What a lamp shows in a move at a rate and in the colour loop is the text's, unit by unit (StepsAgree,
-- LoopTurnAgrees): after every accepted step, and from an accepted start on, as long as it runs and after.
use Rattle.matter.specs.Causes.{accepted}
use Prim.Native.Nat.{ℕ, ◌-◌, ◌≤◌, ◌<◌}
use mathlib.Core.Bool.{Bool, true, false, true≢false}
use mathlib.Core.Logic.{inl, ⊎_elim}
use mathlib.Core.Path.{◌≡◌, refl, sym, ap, ◌∙◌}
use native.Mathlib.Nat.{mul-le-mul_left}
use native.Mathlib.Omega.{arith}
use lib.Dec.{leb}
use lib.IntN.{ℤ}
use borrow.Author.Tests.{eqb-true, leb-true}
use Rattle.matter.specs.declared.enums.ColorLoopDirectionEnum.{ColorLoopDirectionEnum}
use Rattle.matter.specs.declared.enums.MoveModeEnum.{MoveModeEnum}
use Rattle.matter.proofs.Laws.{cond_both}
use Rattle.matter.specs.Limits.{clock_limit}
use Rattle.hue.specs.Hue.{moved_hue}
use Rattle.hue.proofs.Laws.{moved_up, moved_down}
use Rattle.progress.specs.Progress.{delta_at_rate, clamped_sum, loop_turn, loop_delta}
use Rattle.color.specs.declared.Color.{Color}
use Rattle.tasks.specs.declared.ColorLoop.{ColorLoop}
use Rattle.tasks.specs.declared.ColorLoopRun.{ColorLoopRun}
use Rattle.tasks.specs.declared.ColorTemperatureRun.{ColorTemperatureRun}
use Rattle.tasks.specs.declared.HueMove.{HueMove}
use Rattle.tasks.specs.declared.HueRun.{HueRun}
use Rattle.tasks.specs.declared.Running.{Running}
use Rattle.tasks.specs.declared.SaturationMove.{SaturationMove}
use Rattle.tasks.specs.declared.SaturationRun.{SaturationRun}
use Rattle.tasks.specs.declared.Task.{Task}
use Rattle.tasks.specs.Runs.{runs, loop_running}
use Rattle.lamp.specs.declared.Lamp.{Lamp}
use Rattle.lamp.specs.Answers.{at_clock}
use Rattle.matter.specs.Bounds.{lower, upper}
use Rattle.lamp.specs.Calls.{temperature_start, started, stepped}
use Rattle.lamp.proofs.Kept.{valid-clock}
use Rattle.matter.specs.Rules.{signed}
use Rattle.lamp.specs.Passes.{Effect, saturation_done, mireds_done, hue_pass, saturation_pass, temperature_pass, loop_pass, hue_passed, loop_passed, saturation_passed, temperature_passed}
use Rattle.lamp.specs.declared.Call.{Call}
use Rattle.commands.specs.Answers.{cause, answer}
use Rattle.conformance.specs.Started.{Ran, Lasts, saved}
use Rattle.conformance.proofs.Ran.{saturation_at, mireds_at, step_by, ran-by, idle-done}
use Rattle.conformance.specs.Receipt.{HueAlone, SaturationAlone, MiredsAlone}
use Rattle.conformance.proofs.SettersSet.{hue-is-set, hue-leaves, saturation-is-set, saturation-leaves, mireds-is-set, mireds-leaves}
use Rattle.conformance.specs.Steps.{enhanced_hue_maximum, saturation_maximum, steps_made, move_to, hue_move_to}
use Rattle.conformance.proofs.StepsAgree.{units-up, units-down, move-agrees, hue-move-agrees, hue-units-up, hue-units-down, mireds-up-done, mireds-down-done}

-- ---- one pass

-- the colour loop goes so many places up or down, by its direction
abbrev pub turn_mode : ColorLoopDirectionEnum → MoveModeEnum
turn_mode ColorLoopDirectionEnum.Increment = MoveModeEnum.Up
turn_mode ColorLoopDirectionEnum.Decrement = MoveModeEnum.Down

turn_by : (direction : ColorLoopDirectionEnum) (elapsed seconds hue : ℕ) → hue < 65536 →
    moved_hue hue (loop_delta direction elapsed seconds)
    ≡ hue_move_to (turn_mode direction) enhanced_hue_maximum (loop_turn elapsed seconds) hue
turn_by ColorLoopDirectionEnum.Increment elapsed seconds hue h =
    moved_up hue (loop_turn elapsed seconds) ∙ sym (hue-units-up (loop_turn elapsed seconds) hue h)
turn_by ColorLoopDirectionEnum.Decrement elapsed seconds hue h =
    moved_down hue (loop_turn elapsed seconds) ∙ sym (hue-units-down (loop_turn elapsed seconds) hue h)

module _ (x : Lamp) where
  hue-pass : (run : HueRun) → x.clock ≤ clock_limit → run.hue < 65536 →
      (hue_pass x run).lamp.color.hue
      ≡ hue_move_to run.task.direction enhanced_hue_maximum (steps_made run.task.rate (x.clock - run.start))
      run.hue
  unfolding hue_passed
  hue-pass run t h =
      hue-is-set x.color
      (moved_hue run.hue (delta_at_rate (signed run.task.direction run.task.rate) (x.clock - run.start))) false
      run.task.enhanced x.clock
      ∙ hue-move-agrees run.task.rate (x.clock - run.start) (omega arith) run.task.direction run.hue h

  saturation-pass : (run : SaturationRun) → x.clock ≤ clock_limit → run.saturation ≤ 254 →
      (saturation_pass x run).lamp.color.saturation
      ≡ move_to run.task.direction 0 saturation_maximum (steps_made run.task.rate (x.clock - run.start))
      run.saturation
  unfolding saturation_passed
  saturation-pass run t h =
      let now : ℕ = saturation_at run x.clock in
      saturation-is-set x.color now (saturation_done run.task.direction now) x.clock
      ∙ move-agrees run.task.rate (x.clock - run.start) (omega arith) run.task.direction 0 254
      run.saturation (omega arith) h

  mireds-pass : (run : ColorTemperatureRun) (mode : MoveModeEnum) (rate : ℕ) → run.rate ≡ signed mode rate →
      x.clock ≤ clock_limit → run.lo ≤ run.mireds → run.mireds ≤ run.hi →
      (temperature_pass x run).lamp.color.mireds
      ≡ move_to mode run.lo run.hi (steps_made rate (x.clock - run.start)) run.mireds
  unfolding temperature_passed
  mireds-pass run mode rate e t low high =
      let now : ℕ = mireds_at run x.clock in
      mireds-is-set x.color now (mireds_done run.rate run.lo run.hi now) x.clock
      ∙ ap (λ (r : ℤ). clamped_sum run.lo run.hi run.mireds (delta_at_rate r (x.clock - run.start))) e
      ∙ move-agrees rate (x.clock - run.start) (omega arith) mode run.lo run.hi run.mireds low high

  loop-pass : (run : ColorLoopRun) → run.hue < 65536 →
      (loop_pass x run).lamp.color.hue
      ≡ hue_move_to (turn_mode run.task.direction) enhanced_hue_maximum
      (loop_turn (x.clock - run.start) run.task.seconds) run.hue
  unfolding loop_passed
  loop-pass run h =
      hue-is-set x.color
      (moved_hue run.hue (loop_delta run.task.direction (x.clock - run.start) run.task.seconds)) false true
      x.clock
      ∙ turn_by run.task.direction (x.clock - run.start) run.task.seconds run.hue h

-- ---- an accepted step

module _ (l : Lamp) (clock : ℕ) (taken : cause l (Call.Step clock) ≡ accepted) where
  -- MoveHue, EnhancedMoveHue: it never ends, and wraps
  pub shown-hue-move : (run : HueRun) → l.running ≡ Running.HueMove run → run.hue < 65536 →
      (answer l (Call.Step clock)).lamp.color.hue
      ≡ hue_move_to run.task.direction enhanced_hue_maximum (steps_made run.task.rate (clock - run.start))
      run.hue
  unfolding stepped
  shown-hue-move run e h =
      step_by l (Running.HueMove run) clock
      (λ y. y.color.hue ≡ hue_move_to run.task.direction enhanced_hue_maximum
      (steps_made run.task.rate (clock - run.start)) run.hue)
      e taken (λ f g. hue-pass (at_clock l clock) run (valid-clock (at_clock l clock) f) h)

  pub hue-move-goes-on : (run : HueRun) → l.running ≡ Running.HueMove run →
      (answer l (Call.Step clock)).lamp.running ≡ Running.HueMove run
  unfolding stepped hue_passed
  hue-move-goes-on run e =
      step_by l (Running.HueMove run) clock (λ y. y.running ≡ Running.HueMove run) e taken (λ f g. refl)

  -- MoveSaturation
  pub shown-saturation-move : (run : SaturationRun) → l.running ≡ Running.SaturationMove run → run.saturation ≤ 254 →
      (answer l (Call.Step clock)).lamp.color.saturation
      ≡ move_to run.task.direction 0 saturation_maximum (steps_made run.task.rate (clock - run.start))
      run.saturation
  unfolding stepped
  shown-saturation-move run e h =
      step_by l (Running.SaturationMove run) clock
      (λ y. y.color.saturation ≡ move_to run.task.direction 0 saturation_maximum
      (steps_made run.task.rate (clock - run.start)) run.saturation)
      e taken (λ f g. saturation-pass (at_clock l clock) run (valid-clock (at_clock l clock) f) h)

  -- MoveColorTemperature, from within its bounds
  pub shown-mireds-move : (run : ColorTemperatureRun) (mode : MoveModeEnum) (rate : ℕ) →
      l.running ≡ Running.ColorTemperatureMove run → run.rate ≡ signed mode rate → run.lo ≤ run.mireds →
      run.mireds ≤ run.hi →
      (answer l (Call.Step clock)).lamp.color.mireds
      ≡ move_to mode run.lo run.hi (steps_made rate (clock - run.start)) run.mireds
  unfolding stepped
  shown-mireds-move run mode rate e r low high =
      step_by l (Running.ColorTemperatureMove run) clock
      (λ y. y.color.mireds ≡ move_to mode run.lo run.hi (steps_made rate (clock - run.start)) run.mireds)
      e taken (λ f g. mireds-pass (at_clock l clock) run mode rate r (valid-clock (at_clock l clock) f) low high)

  -- the colour loop
  pub shown-loop : (run : ColorLoopRun) → l.running ≡ loop_running run → run.hue < 65536 →
      (answer l (Call.Step clock)).lamp.color.hue
      ≡ hue_move_to (turn_mode run.task.direction) enhanced_hue_maximum
      (loop_turn (clock - run.start) run.task.seconds) run.hue
  unfolding stepped
  shown-loop run e h =
      step_by l (loop_running run) clock
      (λ y. y.color.hue ≡ hue_move_to (turn_mode run.task.direction) enhanced_hue_maximum
      (loop_turn (clock - run.start) run.task.seconds) run.hue)
      e taken (λ f g. loop-pass (at_clock l clock) run h)

-- ---- from an accepted start on

-- a move that has come to its end stays there
steps-more : (rate e f : ℕ) → e ≤ f → steps_made rate e ≤ steps_made rate f
steps-more rate e f h = omega (arith, mul-le-mul_left rate h)

up-stays : (top k j n : ℕ) → n ≤ top → k ≤ j → move_to MoveModeEnum.Up 0 top k n ≡ top →
    move_to MoveModeEnum.Up 0 top j n ≡ top
up-stays top k j n h le e = omega (arith, units-up top k n h, units-up top j n h)

down-stays : (low k j n : ℕ) → low ≤ n → k ≤ j → move_to MoveModeEnum.Down low 0 k n ≡ low →
    move_to MoveModeEnum.Down low 0 j n ≡ low
down-stays low k j n h le e = omega (arith, units-down low k n h, units-down low j n h)

mireds-stay : (mode : MoveModeEnum) (rate lo hi k j n : ℕ) → lo ≤ n → n ≤ hi → k ≤ j →
    mireds_done (signed mode rate) lo hi (move_to mode lo hi k n) ≡ true → move_to mode lo hi j n ≡ move_to mode lo hi k n
mireds-stay MoveModeEnum.Stop rate lo hi k j n low high le e = refl
mireds-stay MoveModeEnum.Up rate lo hi k j n low high le e =
    let z : move_to MoveModeEnum.Up lo hi k n ≡ hi = mireds-up-done lo hi _ rate e in up-stays hi k j n high le z ∙ sym z
mireds-stay MoveModeEnum.Down rate lo hi k j n low high le e =
    let z : move_to MoveModeEnum.Down lo hi k n ≡ lo = mireds-down-done lo hi _ rate e in down-stays lo k j n low le z
    ∙ sym z

saturation-stays : (mode : MoveModeEnum) (k j n : ℕ) → n ≤ 254 → k ≤ j →
    saturation_done mode (move_to mode 0 254 k n) ≡ true → move_to mode 0 254 j n ≡ move_to mode 0 254 k n
saturation-stays MoveModeEnum.Stop k j n h le e = refl
saturation-stays MoveModeEnum.Up k j n h le e =
    let z : move_to MoveModeEnum.Up 0 254 k n ≡ 254 = eqb-true _ 254 e in up-stays 254 k j n h le z ∙ sym z
saturation-stays MoveModeEnum.Down k j n h le e =
    let z : move_to MoveModeEnum.Down 0 254 k n ≡ 0 = eqb-true _ 0 e in down-stays 0 k j n (omega arith) le z ∙ sym z

module _ (m : Lamp) (begun : ℕ) where
  -- a hue that moves alone and never stops, where a start is a step of what it saves: so it has only the clock of the
  -- last call
  module _ (task : Task) (at : ℕ → ℕ) where
    abbrev GoesOn : Color → Lamp → Type 0
    GoesOn from n = (runs n.running ≡ true) × HueAlone from n.color (λ a b. b ≡ at (n.clock - begun))

    hue-goes-on : started (at_clock m begun) task ≡ stepped (at_clock m begun) (saved m task begun) →
        ((x : Lamp) → x.clock ≤ clock_limit → GoesOn x.color (stepped x (saved m task begun)).lamp) →
        (n : Lamp) → Ran m task begun n → (clock : ℕ) → Lasts n clock →
        HueAlone m.color n.color (λ a b. b ≡ at (clock - begun))
    hue-goes-on same on n r clock lasts =
        let (running, shows) =
        ran-by m task begun (GoesOn m.color)
        (λ f g. rw same (on (at_clock m begun) (valid-clock _ f)))
        (λ x k f g p.
        let (running, shows) = on (at_clock x k) (valid-clock _ f) in (
          running,
          record {
            hue = shows.hue;
            saturation = shows.saturation ∙ p.1.saturation;
            mireds = shows.mireds ∙ p.1.mireds;
          },
        ))
        n r
        in
        ⊎_elim (λ e. rw e shows) (λ i. absurd (true≢false (sym running ∙ ap runs i.0))) lasts

  -- MoveHue, EnhancedMoveHue
  pub hue-move-follows : (task : HueMove) → m.color.hue < 65536 → (n : Lamp) → Ran m (Task.HueMove task) begun n →
      (clock : ℕ) → Lasts n clock →
      HueAlone m.color n.color
      (λ a b. b ≡ hue_move_to task.direction enhanced_hue_maximum (steps_made task.rate (clock - begun)) a)
  unfolding started stepped hue_passed
  hue-move-follows task small =
      hue-goes-on (Task.HueMove task)
      (λ e. hue_move_to task.direction enhanced_hue_maximum (steps_made task.rate e) m.color.hue) refl
      (λ x t.
      let run : HueRun = record { start = begun; hue = m.color.hue; task = task } in
      let left = hue-leaves x.color _ false task.enhanced x.clock in
      (refl, record { hue = hue-pass x run t small; saturation = left.0; mireds = left.1 }))

  -- MoveSaturation
  module _ (task : SaturationMove) (small : m.color.saturation ≤ 254) where
    abbrev saturation_run : SaturationRun
    saturation_run = record { start = begun; saturation = m.color.saturation; task = task }

    abbrev pub SaturationFollows : Lamp → Type 0
    SaturationFollows n =
        (clock : ℕ) → Lasts n clock →
        SaturationAlone m.color n.color
        (λ a b. b ≡ move_to task.direction 0 saturation_maximum (steps_made task.rate (clock - begun)) a)

    saturation-later : (x : Lamp) → x.clock ≤ clock_limit → (clock : ℕ) →
        Lasts (saturation_pass x saturation_run).lamp clock →
        move_to task.direction 0 254 (steps_made task.rate (clock - begun)) m.color.saturation
        ≡ move_to task.direction 0 254 (steps_made task.rate (x.clock - begun)) m.color.saturation
    unfolding saturation_passed
    saturation-later x t clock lasts =
        let now : ℕ = saturation_at saturation_run x.clock in
        let e : now ≡ move_to task.direction 0 254 (steps_made task.rate (x.clock - begun))
        m.color.saturation =
        move-agrees task.rate (x.clock - begun) (omega arith) task.direction 0 254 m.color.saturation
        (omega arith) small
        in
        ⊎_elim
        (λ c. rw c)
        (λ i.
        saturation-stays task.direction (steps_made task.rate (x.clock - begun))
        (steps_made task.rate (clock - begun)) m.color.saturation small
        (steps-more task.rate (x.clock - begun) (clock - begun) (omega (arith, i.1)))
        (ap (saturation_done task.direction) (sym e) ∙ idle-done (saturation_done task.direction now)
        (Running.SaturationMove saturation_run) refl i.0))
        lasts

    saturation-follows : (x : Lamp) → x.clock ≤ clock_limit → x.color.hue ≡ m.color.hue →
        x.color.mireds ≡ m.color.mireds →
        SaturationFollows (saturation_pass x saturation_run).lamp
    unfolding saturation_passed
    saturation-follows x t h r clock lasts =
        let now : ℕ = saturation_at saturation_run x.clock in
        let end : Bool = saturation_done task.direction now in
        record {
          hue = (saturation-leaves x.color now end x.clock).0 ∙ h;
          saturation = saturation-pass x saturation_run t small ∙ sym (saturation-later x t clock lasts);
          mireds = (saturation-leaves x.color now end x.clock).1 ∙ r;
        }

    pub saturation-move-follows : (n : Lamp) → Ran m (Task.SaturationMove task) begun n → SaturationFollows n
    unfolding started stepped
    saturation-move-follows n r =
        ran-by m (Task.SaturationMove task) begun SaturationFollows
        (λ f g. saturation-follows (at_clock m begun) (valid-clock _ f) refl refl)
        (λ x k f g p. saturation-follows (at_clock x k) (valid-clock _ f) (p x.clock (inl refl)).hue
        (p x.clock (inl refl)).mireds)
        n r

  -- MoveColorTemperature
  module _ (mode : MoveModeEnum) (rate min max : ℕ)
      (low : lower m.bounds min ≤ m.color.mireds) (high : m.color.mireds ≤ upper m.bounds max) where
    abbrev mireds_run : ColorTemperatureRun
    mireds_run =
        record {
          start = begun;
          mireds = m.color.mireds;
          rate = signed mode rate;
          lo = lower m.bounds min;
          hi = upper m.bounds max;
        }

    abbrev mireds_task : Task
    mireds_task = Task.ColorTemperatureMove (record { rate = signed mode rate; min = min; max = max })

    -- so many units on
    abbrev mireds_by : ℕ → ℕ
    mireds_by elapsed =
        move_to mode (lower m.bounds min) (upper m.bounds max) (steps_made rate elapsed) m.color.mireds

    abbrev MiredsFollow : Lamp → Type 0
    MiredsFollow n =
        (clock : ℕ) → Lasts n clock → MiredsAlone m.color n.color (λ a b. b ≡ mireds_by (clock - begun))

    mireds-later : (x : Lamp) → x.clock ≤ clock_limit → (clock : ℕ) → Lasts (temperature_pass x mireds_run).lamp clock →
        mireds_by (clock - begun) ≡ mireds_by (x.clock - begun)
    unfolding temperature_passed
    mireds-later x t clock lasts =
        let now : ℕ = mireds_at mireds_run x.clock in
        let e : now ≡ mireds_by (x.clock - begun) =
        move-agrees rate (x.clock - begun) (omega arith) mode (lower m.bounds min) (upper m.bounds max)
        m.color.mireds low high
        in
        ⊎_elim
        (λ c. rw c)
        (λ i.
        mireds-stay mode rate (lower m.bounds min) (upper m.bounds max) (steps_made rate (x.clock - begun))
        (steps_made rate (clock - begun)) m.color.mireds low high
        (steps-more rate (x.clock - begun) (clock - begun) (omega (arith, i.1)))
        (ap (mireds_done (signed mode rate) (lower m.bounds min) (upper m.bounds max)) (sym e)
        ∙ idle-done (mireds_done (signed mode rate) (lower m.bounds min) (upper m.bounds max) now)
        (Running.ColorTemperatureMove mireds_run) refl i.0))
        lasts

    mireds-follow : (x : Lamp) → x.clock ≤ clock_limit → x.color.hue ≡ m.color.hue →
        x.color.saturation ≡ m.color.saturation →
        MiredsFollow (temperature_pass x mireds_run).lamp
    unfolding temperature_passed
    mireds-follow x t h s clock lasts =
        let now : ℕ = mireds_at mireds_run x.clock in
        let end : Bool = mireds_done (signed mode rate) (lower m.bounds min) (upper m.bounds max) now in
        record {
          hue = (mireds-leaves x.color now end x.clock).0 ∙ h;
          saturation = (mireds-leaves x.color now end x.clock).1 ∙ s;
          mireds = mireds-pass x mireds_run mode rate refl t low high ∙ sym (mireds-later x t clock lasts);
        }

    -- where the bounds meet, it is done at once: no unit leads on
    mireds-still : (k : ℕ) (mode : MoveModeEnum) → upper m.bounds max ≤ lower m.bounds min →
        m.color.mireds ≡ move_to mode (lower m.bounds min) (upper m.bounds max) k m.color.mireds
    mireds-still k MoveModeEnum.Stop h = refl
    mireds-still k MoveModeEnum.Up h = omega (arith, units-up (upper m.bounds max) k m.color.mireds high)
    mireds-still k MoveModeEnum.Down h = omega (arith, units-down (lower m.bounds min) k m.color.mireds low)

    pub mireds-move-follows : (n : Lamp) → Ran m mireds_task begun n → (clock : ℕ) → Lasts n clock →
        MiredsAlone m.color n.color
        (λ a b. b ≡ move_to mode (lower m.bounds min) (upper m.bounds max) (steps_made rate (clock - begun)) a)
    unfolding started stepped temperature_start
    mireds-move-follows n r =
        ran-by m mireds_task begun MiredsFollow
        (λ f g.
        cond_both (λ (e : Effect). MiredsFollow e.lamp) (leb (upper m.bounds max) (lower m.bounds min)) _ _
        (λ t clock lasts. record {
          hue = refl;
          saturation = refl;
          mireds = mireds-still
              (steps_made rate (clock - begun)) mode (leb-true _ _ t);
        })
        (λ t. mireds-follow (at_clock m begun) (valid-clock _ f) refl refl))
        (λ x k f g p. mireds-follow (at_clock x k) (valid-clock _ f) (p x.clock (inl refl)).hue
        (p x.clock (inl refl)).saturation)
        n r

  -- the colour loop
  pub loop-follows : (task : ColorLoop) → m.color.hue < 65536 → (n : Lamp) → Ran m (Task.ColorLoop task) begun n →
      (clock : ℕ) → Lasts n clock →
      HueAlone m.color n.color
      (λ a b. b ≡ hue_move_to (turn_mode task.direction) enhanced_hue_maximum (loop_turn (clock - begun) task.seconds) a)
  unfolding started stepped loop_passed
  loop-follows task small =
      hue-goes-on (Task.ColorLoop task)
      (λ e. hue_move_to (turn_mode task.direction) enhanced_hue_maximum (loop_turn e task.seconds) m.color.hue) refl
      (λ x t.
      let run : ColorLoopRun = record { start = begun; hue = m.color.hue; task = task } in
      let left = hue-leaves x.color _ false true x.clock in
      (refl, record { hue = loop-pass x run small; saturation = left.0; mireds = left.1 }))
