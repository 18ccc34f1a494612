-- Every command that moves a number does what the text asks of it, from its fields to the numbers that a lamp shows:
-- the call is accepted and gives a valid task, and every lamp on which that task is started, and stepped, shows
-- what the text has then.
use Rattle.matter.specs.Causes.{accepted, invalid_command}
use Rattle.std.specs.Prelude.{Option, Some, None}
use Prim.Native.Nat.{ℕ, zero, suc, ◌-◌, ◌≤◌, ◌<◌, min, max}
use mathlib.Core.Bool.{Bool, true, false, cond, true≢false}
use mathlib.Core.Path.{◌≡◌, refl, sym, ap, subst, ◌∙◌}
use native.Mathlib.Nat.{mul-one}
use native.Mathlib.Omega.{arith}
use lib.Dec.{eqb}
use lib.IntN.{pos, nat_abs, ◌+ℤ◌}
use Rattle.matter.specs.declared.limits.Bounds.{Bounds}
use Rattle.matter.specs.declared.commands.Command.{Command}
use Rattle.matter.specs.declared.commands.Request.{Request}
use Rattle.matter.specs.declared.enums.DirectionEnum.{DirectionEnum}
use Rattle.matter.specs.declared.enums.MoveModeEnum.{MoveModeEnum}
use Rattle.matter.specs.declared.enums.OnOff.{OnOff}
use Rattle.matter.specs.declared.enums.StepModeEnum.{StepModeEnum}
use Rattle.matter.proofs.Laws.{cond_both}
use Rattle.matter.specs.InRange.{InRangeCommand, InRangeRequest}
use Rattle.hue.specs.Hue.{path_delta}
use Rattle.progress.proofs.Laws.{clamp-keeps, clamp-within}
use Rattle.progress.specs.Progress.{clamp}
use Rattle.color.specs.declared.Color.{Color}
use Rattle.color.proofs.Kept.{valid-saturation, valid-above, valid-below}
use Rattle.tasks.specs.declared.Task.{Task}
use Rattle.tasks.specs.Valid.{task_valid}
use Rattle.tasks.specs.Runs.{runs}
use Rattle.lamp.specs.declared.Lamp.{Lamp}
use Rattle.lamp.specs.Answers.{at_clock, first_cause}
use Rattle.matter.specs.Bounds.{lower, upper}
use Rattle.lamp.specs.Valid.{lamp_valid}
use Rattle.lamp.proofs.Kept.{valid-color, no-cause}
use Rattle.lamp.specs.declared.Call.{Call}
use Rattle.commands.specs.Answers.{allowed, command_cause, after_clock, cause, answer}
use Rattle.commands.specs.Commands.{cause_if, checks, asked, lo, hi, stored, temperature_task, step_delta, command_effect}
use Rattle.commands.proofs.Kept.{answer-both, granted-ready}
use Rattle.commands.proofs.StepLimits.{step-within}
use Rattle.commands.proofs.TaskValid.{given-valid}
use Rattle.conformance.proofs.ArrivalsAgree.{move-to-follows, mireds-to-follow}
use Rattle.conformance.proofs.DirectionsAgree.{directions-agree}
use Rattle.conformance.specs.Limits.{Allowed}
use Rattle.conformance.proofs.LimitsAgree.{allowed-within, within-allowed, closest-agrees}
use Rattle.conformance.proofs.MovesAgree.{hue-move-follows, saturation-move-follows, mireds-move-follows}
use Rattle.conformance.specs.Started.{Ran, Lasts, saved}
use Rattle.conformance.proofs.Ran.{ran-valid}
use Rattle.conformance.specs.Receipt.{Reaches, Goes-by, Goes-to, sense, Ends, Each, MiredsAlone, moves, OnReceipt}
use Rattle.conformance.specs.Transition.{milliseconds}
use Rattle.conformance.specs.Steps.{steps_made, step_to, move_to}
use Rattle.conformance.proofs.StepsAgree.{saturation-step-agrees, mireds-step-agrees}

-- what the task does wherever and whenever it is started, while it runs and after, is what the command asks
abbrev pub Follows : Bounds → Color → Command → Task → Type 0
Follows bounds received c task =
    (m n : Lamp) (begun : ℕ) → m.bounds ≡ bounds → m.color.hue < 65536 → Ran m task begun n →
    (clock : ℕ) → Lasts n clock → OnReceipt bounds received c (clock - begun) m.color n.color

-- a valid task that does so
pub record Gives (l : Lamp) (c : Command) (given : Option Task) : Type 0 where
  pub task : Task
  pub is : given ≡ Some task
  pub is_valid : task_valid task ≡ true
  pub follows : Follows l.bounds l.color c task

-- ---- ways of a step

step-goes : (mode : StepModeEnum) (size time elapsed from now : ℕ) → 0 < size →
    Goes-by (sense (step_delta mode size)) (nat_abs (step_delta mode size)) time elapsed from now →
    Goes-by mode size time elapsed from now
step-goes StepModeEnum.Up size time elapsed from now h g = g
step-goes StepModeEnum.Down zero time elapsed from now h g = absurd (omega arith)
step-goes StepModeEnum.Down (suc size) time elapsed from now h g = g

-- ---- the bounds of a mired move or step are the text's

module _ (bounds : Bounds) (minimum maximum least most n : ℕ) (ends : Ends bounds minimum maximum least most)
    (allow : Allowed bounds minimum maximum n) where
  in_bounds : (lo bounds minimum ≤ n) × (n ≤ hi bounds maximum)
  in_bounds = allowed-within bounds minimum maximum n allow

  least-is : lo bounds minimum ≡ least
  least-is =
      let a : Allowed bounds minimum maximum (lo bounds minimum) =
      within-allowed bounds minimum maximum (lo bounds minimum) (omega arith) (omega (arith, in_bounds))
      in
      omega (arith, ends.between (lo bounds minimum) a, allowed-within bounds minimum maximum least ends.smallest)

  most-is : hi bounds maximum ≡ most
  most-is =
      let a : Allowed bounds minimum maximum (hi bounds maximum) =
      within-allowed bounds minimum maximum (hi bounds maximum) (omega (arith, in_bounds)) (omega arith)
      in
      omega (arith, ends.between (hi bounds maximum) a, allowed-within bounds minimum maximum most ends.largest)

-- and there are such, where any mireds are allowed
pub ends-are : (bounds : Bounds) (minimum maximum n : ℕ) → Allowed bounds minimum maximum n →
    Ends bounds minimum maximum (lo bounds minimum) (hi bounds maximum)
ends-are bounds minimum maximum n allow =
    let i : (lo bounds minimum ≤ n) × (n ≤ hi bounds maximum) = allowed-within bounds minimum maximum n allow in
    record {
      smallest = within-allowed bounds minimum maximum (lo bounds minimum) (omega arith) (omega arith);
      largest = within-allowed bounds minimum maximum (hi bounds maximum) (omega arith) (omega arith);
      between = allowed-within bounds minimum maximum;
    }

-- ---- the commands

-- a task whose start saves what runs, other than Stop, and that does what the command asks
abbrev Does : Bounds → Color → Command → Option Task → Type 0
Does bounds received c None = ⊥
Does bounds received c (Some task) =
    ((m : Lamp) (clock : ℕ) → runs (saved m task clock) ≡ true) × Follows bounds received c task

not-0 : (n : ℕ) → cause_if (eqb n 0) invalid_command ≡ accepted → 0 < n
not-0 zero e = cc
not-0 (suc n) e = omega arith

-- one of the three said another way
module _ {H S M : Type 0} (g : Each H S M) where
  with-hue : {So : Type 0} → (H → So) → Each So S M
  with-hue f = record { hue = f g.hue; saturation = g.saturation; mireds = g.mireds }

  with-saturation : {So : Type 0} → (S → So) → Each H So M
  with-saturation f = record { hue = g.hue; saturation = f g.saturation; mireds = g.mireds }

  with-mireds : {So : Type 0} → (M → So) → Each H S So
  with-mireds f = record { hue = g.hue; saturation = g.saturation; mireds = f g.mireds }

module _ (l : Lamp) (validity : lamp_valid l ≡ true) (hued : l.color.hue < 65536) where
  -- a lamp on which a task was started was valid
  fair : {m n : Lamp} {task : Task} {begun : ℕ} → Ran m task begun n → m.color.saturation ≤ 254
  fair {m} {begun = begun} r = valid-saturation _ _ _ (valid-color (at_clock m begun) (ran-valid r))

  ordered : l.bounds.min ≤ l.bounds.max
  ordered =
      let c = valid-color l validity in
      omega (arith, valid-above l.color l.bounds l.clock c, valid-below l.color l.bounds l.clock c)

  -- where a command's task moves mireds to a target within the bounds
  to-mireds : (target time : ℕ) (m n : Lamp) (begun : ℕ) → m.bounds ≡ l.bounds →
      (l.bounds.min ≤ target) × (target ≤ l.bounds.max) →
      Ran m (temperature_task target time) begun n → (clock : ℕ) → Lasts n clock →
      MiredsAlone m.color n.color (λ a y. Reaches a target (milliseconds time) (clock - begun) y)
  to-mireds target time m n begun b w r clock lasts =
      with-mireds (mireds-to-follow m begun _ n r clock lasts)
      (subst (λ (to : ℕ). Reaches m.color.mireds to (milliseconds time) (clock - begun) n.color.mireds)
      (rw b (clamp-keeps l.bounds.min l.bounds.max target w.0 w.1)))

  -- where a command's task moves a hue to another
  goes_to : (to time : ℕ) (direction : DirectionEnum) (elapsed from now : ℕ) → to < 65536 →
      Goes-by (sense (path_delta l.color.hue to direction)) (nat_abs (path_delta l.color.hue to direction))
      (milliseconds time) elapsed from now →
      Goes-to direction l.color.hue to (milliseconds time) elapsed from now
  goes_to to time direction elapsed from now h g =
      record {
        way = path_delta l.color.hue to direction;
        goes = directions-agree l.color.hue to hued h direction;
        moves = g;
      }

  -- a command with good fields
  abbrev Asked : Command → Type 0
  Asked c = InRangeCommand c → (checks c).cause ≡ accepted → Does l.bounds l.color c (command_effect l c).task

  move-to-hue-does : (hue : ℕ) (direction : DirectionEnum) (time : ℕ) →
      Asked (Command.MoveToHue hue direction time)
  unfolding command_effect
  move-to-hue-does hue direction time t z = (
    λ m clock. refl,
    λ m n begun b k r clock lasts.
        with-hue (move-to-follows m begun _ k n r clock lasts)
        (goes_to (stored hue) time direction _ _ _ (omega (arith, t.0))),
  )

  move-hue-does : (mode : MoveModeEnum) (rate : ℕ) (enhanced : Bool) →
      Asked (Command.MoveHue mode rate enhanced)
  unfolding command_effect
  move-hue-does mode rate true t z =
      (λ m clock. refl, λ m n begun b k r clock lasts. rw (mul-one rate) (hue-move-follows m begun _ k n r clock lasts))
  move-hue-does mode rate false t z =
      (λ m clock. refl, λ m n begun b k r clock lasts. hue-move-follows m begun _ k n r clock lasts)

  step-hue-does : (mode : StepModeEnum) (size time : ℕ) →
      Asked (Command.StepHue mode size time)
  unfolding command_effect
  step-hue-does mode size time t z = (
    λ m clock. refl,
    λ m n begun b k r clock lasts.
        with-hue (move-to-follows m begun _ k n r clock lasts)
        (step-goes mode (stored size) _ _ _ _ (omega (arith, not-0 size z))),
  )

  move-to-saturation-does : (saturation time : ℕ) →
      Asked (Command.MoveToSaturation saturation time)
  unfolding command_effect
  move-to-saturation-does saturation time t z =
      (λ m clock. refl, λ m n begun b k r clock lasts. move-to-follows m begun _ k n r clock lasts)

  move-saturation-does : (mode : MoveModeEnum) (rate : ℕ) →
      Asked (Command.MoveSaturation mode rate)
  unfolding command_effect
  move-saturation-does mode rate t z =
      (λ m clock. refl, λ m n begun b k r clock lasts. saturation-move-follows m begun _ (fair r) n r clock lasts)

  step-saturation-does : (mode : StepModeEnum) (size time : ℕ) →
      Asked (Command.StepSaturation mode size time)
  unfolding command_effect
  step-saturation-does mode size time t z = (
    λ m clock. refl,
    λ m n begun b k r clock lasts.
        with-saturation (move-to-follows m begun _ k n r clock lasts)
        (subst (λ (to : ℕ). Reaches m.color.saturation to (milliseconds time) (clock - begun) n.color.saturation)
        (saturation-step-agrees mode l.color.saturation size (valid-saturation _ _ _ (valid-color l validity)))),
  )

  move-to-hue-and-saturation-does : (hue saturation time : ℕ) (enhanced : Bool) (enhanced_hue : ℕ) →
      Asked (Command.MoveToHueAndSaturation hue saturation time enhanced enhanced_hue)
  unfolding command_effect
  move-to-hue-and-saturation-does hue saturation time enhanced enhanced_hue t z = (
    λ m clock. refl,
    λ m n begun b k r clock lasts.
        with-hue (move-to-follows m begun _ k n r clock lasts)
        (goes_to (cond enhanced enhanced_hue (stored hue)) time DirectionEnum.Shortest _ _ _
        (cond_both (λ n. n < 65536) enhanced enhanced_hue (stored hue) (λ e. t.3) (λ e. omega (arith, t.0)))),
  )

  enhanced-move-to-hue-does : (hue : ℕ) (direction : DirectionEnum) (time : ℕ) →
      Asked (Command.EnhancedMoveToHue hue direction time)
  unfolding command_effect
  enhanced-move-to-hue-does hue direction time t z = (
    λ m clock. refl,
    λ m n begun b k r clock lasts.
        with-hue (move-to-follows m begun _ k n r clock lasts) (goes_to hue time direction _ _ _ t.0),
  )

  enhanced-move-hue-does : (mode : MoveModeEnum) (rate : ℕ) →
      Asked (Command.EnhancedMoveHue mode rate)
  unfolding command_effect
  enhanced-move-hue-does mode rate t z =
      (λ m clock. refl, λ m n begun b k r clock lasts. hue-move-follows m begun _ k n r clock lasts)

  enhanced-step-hue-does : (mode : StepModeEnum) (size time : ℕ) →
      Asked (Command.EnhancedStepHue mode size time)
  unfolding command_effect
  enhanced-step-hue-does mode size time t z = (
    λ m clock. refl,
    λ m n begun b k r clock lasts.
        with-hue (move-to-follows m begun _ k n r clock lasts) (step-goes mode size _ _ _ _ (not-0 size z)),
  )

  move-to-color-temperature-does : (mireds time : ℕ) →
      Asked (Command.MoveToColorTemperature mireds time)
  unfolding command_effect
  move-to-color-temperature-does mireds time t z = (
    λ m clock. refl,
    λ m n begun b k r clock lasts.
        let selected : ℕ = clamp l.bounds.min l.bounds.max (pos mireds) in
        with-mireds
        (to-mireds selected time m n begun b (clamp-within l.bounds.min l.bounds.max (pos mireds) ordered) r clock
        lasts)
        (λ g. record {
          selected = selected;
          closest = closest-agrees l.bounds.min l.bounds.max mireds ordered;
          reaches = g;
        }),
  )

  move-color-temperature-does : (mode : MoveModeEnum) (rate min max : ℕ) →
      Asked (Command.MoveColorTemperature mode rate min max)
  unfolding command_effect
  move-color-temperature-does mode rate min max t z = (
    λ m clock. refl,
    λ m n begun b k r clock lasts least most ends allow.
        let e : lower m.bounds (asked l.bounds.min min) ≡ least =
        ap (λ (q : Bounds). lower q (asked l.bounds.min min)) b ∙ least-is l.bounds min max least most
        m.color.mireds ends allow
        in
        let f : upper m.bounds (asked l.bounds.max max) ≡ most =
        ap (λ (q : Bounds). upper q (asked l.bounds.max max)) b ∙ most-is l.bounds min max least most
        m.color.mireds ends allow
        in
        let i = ends.between m.color.mireds allow in
        with-mireds
        (mireds-move-follows m begun mode rate _ _ (omega (arith, e, i)) (omega (arith, f, i)) n r clock lasts)
        (λ g. g
        ∙ ap (λ (q : ℕ). move_to mode q (upper m.bounds (asked l.bounds.max max)) (steps_made rate (clock - begun))
        m.color.mireds) e
        ∙ ap (λ (q : ℕ). move_to mode least q (steps_made rate (clock - begun)) m.color.mireds) f),
  )

  step-color-temperature-does : (mode : StepModeEnum) (size time min max : ℕ) →
      Asked (Command.StepColorTemperature mode size time min max)
  unfolding command_effect
  step-color-temperature-does mode size time min max t z = (
    λ m clock. refl,
    λ m n begun b k r clock lasts least most ends allow.
        let from : ℕ = l.color.mireds in
        let target : ℕ = clamp (lo l.bounds min) (hi l.bounds max) (pos from +ℤ step_delta mode size) in
        let i : (lo l.bounds min ≤ from) × (from ≤ hi l.bounds max) =
        allowed-within l.bounds min max from allow
        in
        let w : (lo l.bounds min ≤ target) × (target ≤ hi l.bounds max) =
        clamp-within (lo l.bounds min) (hi l.bounds max) (pos from +ℤ step_delta mode size) (omega arith)
        in
        let run = subst (λ (to : ℕ). Ran m (temperature_task to time) begun n) (step-within l mode size min max (omega (arith, i))) r in
        with-mireds (to-mireds target time m n begun b (omega (arith, w), omega (arith, w)) run clock lasts)
        (subst (λ (to : ℕ). Reaches m.color.mireds to (milliseconds time) (clock - begun) n.color.mireds)
        (mireds-step-agrees (lo l.bounds min) (hi l.bounds max) from size i.0 i.1 mode
        ∙ ap (λ (q : ℕ). step_to mode q (hi l.bounds max) size from)
        (least-is l.bounds min max least most from ends allow)
        ∙ ap (λ (q : ℕ). step_to mode least q size from) (most-is l.bounds min max least most from ends allow))),
  )

  does : (c : Command) → moves c ≡ true → Asked c
  does (Command.MoveToHue hue direction time) v = move-to-hue-does hue direction time
  does (Command.MoveHue mode rate enhanced) v = move-hue-does mode rate enhanced
  does (Command.StepHue mode size time) v = step-hue-does mode size time
  does (Command.MoveToSaturation saturation time) v = move-to-saturation-does saturation time
  does (Command.MoveSaturation mode rate) v = move-saturation-does mode rate
  does (Command.StepSaturation mode size time) v = step-saturation-does mode size time
  does (Command.MoveToHueAndSaturation hue saturation time enhanced enhanced_hue) v =
      move-to-hue-and-saturation-does hue saturation time enhanced enhanced_hue
  does (Command.EnhancedMoveToHue hue direction time) v = enhanced-move-to-hue-does hue direction time
  does (Command.EnhancedMoveHue mode rate) v = enhanced-move-hue-does mode rate
  does (Command.EnhancedStepHue mode size time) v = enhanced-step-hue-does mode size time
  does (Command.MoveToColorTemperature mireds time) v = move-to-color-temperature-does mireds time
  does (Command.MoveColorTemperature mode rate min max) v =
      move-color-temperature-does mode rate min max
  does (Command.StepColorTemperature mode size time min max) v =
      step-color-temperature-does mode size time min max
  does (Command.ColorLoopSet flags action direction time start_hue) v = absurd (true≢false (sym v))
  does Command.StopMoveStep v = absurd (true≢false (sym v))

-- an accepted command has no cause of its own numbers
command-fields : (l : Lamp) (q : Request) (on_off : OnOff) (clock : ℕ) → cause l (Call.Command q on_off clock) ≡ accepted →
    (checks q.command).stop ≡ false → (checks q.command).cause ≡ accepted
unfolding cause command_cause
command-fields l q on_off clock z s =
    rw s at (no-cause (first_cause l clock) (after_clock q) z).1

-- an accepted command that may execute, in no Stop mode, does what the text asks
pub receipt-agrees : (l : Lamp) (q : Request) (on_off : OnOff) (clock : ℕ) → l.color.hue < 65536 → InRangeRequest q →
    moves q.command ≡ true → cause l (Call.Command q on_off clock) ≡ accepted → allowed l q on_off ≡ true → (checks q.command).stop ≡ false →
    Gives l q.command (answer l (Call.Command q on_off clock)).task
receipt-agrees l q on_off clock h t v z a s =
    gives _ refl
    (answer-both l (λ r. Does l.bounds l.color q.command r.task) (Call.Command q on_off clock)
    (λ e. rw (s, a) (does (at_clock l clock) (granted-ready l (Call.Command q on_off clock) z) h q.command v t.command
    (command-fields l q on_off clock z s)))
    (λ k. absurd (k z)))
  where
    gives : (given : Option Task) → (answer l (Call.Command q on_off clock)).task ≡ given →
        Does l.bounds l.color q.command given → Gives l q.command given
    gives None e d = absurd d
    gives (Some task) e d =
        record {
          task = task;
          is = refl;
          is_valid =
              given-valid l q on_off clock t task e
              (λ p. true≢false (sym (d.0 l clock) ∙ ap (λ (x : Task). runs (saved l x clock)) p));
          follows = d.1;
        }
