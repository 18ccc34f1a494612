-- A stop is the text's while no colour loop is active, but for the remaining time; an active loop is stopped too, and replaced
-- by what is started.
use Rattle.matter.specs.Causes.{accepted}
use Rattle.std.specs.Prelude.{Some}
use Prim.Native.Nat.{ℕ}
use mathlib.Core.Bool.{Bool, true, false, ◌&&◌, true≢false}
use mathlib.Core.Path.{◌≡◌, refl, sym, ap, ◌∙◌}
use native.Mathlib.Omega.{arith}
use Rattle.matter.specs.Requests.{request}
use Rattle.matter.specs.declared.commands.Command.{Command}
use Rattle.matter.specs.declared.commands.CommandOptions.{CommandOptions}
use Rattle.matter.specs.declared.enums.OnOff.{OnOff}
use Rattle.tasks.specs.declared.ColorLoopRun.{ColorLoopRun}
use Rattle.tasks.specs.declared.HueSaturationMoveTo.{HueSaturationMoveTo}
use Rattle.tasks.specs.declared.Running.{Running}
use Rattle.tasks.specs.declared.Task.{Task}
use Rattle.tasks.specs.Runs.{runs, loop_running}
use Rattle.lamp.specs.declared.Answer.{Answer}
use Rattle.lamp.specs.declared.Lamp.{Lamp}
use Rattle.lamp.specs.Answers.{at_clock}
use Rattle.lamp.specs.Calls.{halt_answer, started, hue_saturation_start, start_permille, no_hue_delta, no_saturation_delta}
use Rattle.lamp.specs.Passes.{unless, at_end, hue_saturation_moved, timed}
use Rattle.lamp.specs.declared.Call.{Call}
use Rattle.commands.specs.Answers.{allowed, cause, answer}
use Rattle.commands.specs.Commands.{command_effect}
use Rattle.commands.proofs.Kept.{answer-both}
use Rattle.conformance.specs.Stops.{Terminated, NoTimeLeft, turns_after_stop, loop_turns}

-- StopMoveStep that may execute asks for a stop (every Stop mode does: `options-passed-by` in OptionsAgree)
pub stop-asked : (l : Lamp) (options : CommandOptions) (on_off : OnOff) (clock : ℕ) →
    allowed l (request Command.StopMoveStep options) on_off ≡ true →
    cause l (Call.Command (request Command.StopMoveStep options) on_off clock) ≡ accepted →
    (answer l (Call.Command (request Command.StopMoveStep options) on_off clock)).task ≡ Some Task.Stop
unfolding command_effect
stop-asked l options on_off clock may_execute taken =
    answer-both l (λ (a : Answer). a.task ≡ Some Task.Stop)
    (Call.Command (request Command.StopMoveStep options) on_off clock)
    (λ z. rw may_execute) (λ n. absurd (n taken))

-- which is answered by a halt
module _ (l : Lamp) (clock : ℕ) (taken : cause l (Call.Halt clock) ≡ accepted) where
  pub halt-terminates : Terminated l (answer l (Call.Halt clock)).lamp
  unfolding answer halt_answer cause
  halt-terminates = record { still = rw taken; hue = rw taken; saturation = rw taken; mireds = rw taken }

  -- "If moving, stop, else ignore the command": where nothing moves, a halt changes nothing but the clock
  pub halt-ignored : l.running ≡ Running.Idle → (answer l (Call.Halt clock)).lamp ≡ at_clock l clock
  unfolding answer halt_answer cause
  halt-ignored e = rw (taken, ← e)

  -- the remaining time stays as it was, where the text has it 0
  pub halt-keeps-time : (answer l (Call.Halt clock)).lamp.remaining ≡ l.remaining
  unfolding answer halt_answer cause
  halt-keeps-time = rw taken

  -- so it is the text's exactly where it was 0
  pub halt-time-exactly : (NoTimeLeft l → NoTimeLeft (answer l (Call.Halt clock)).lamp)
      × (NoTimeLeft (answer l (Call.Halt clock)).lamp → NoTimeLeft l)
  halt-time-exactly =
      let kept : (answer l (Call.Halt clock)).lamp.remaining.tenths ≡ l.remaining.tenths = ap (λ r. r.tenths) halt-keeps-time in
      (λ e. kept ∙ e, λ e. sym kept ∙ e)

  -- the smallest: one tenth left
  pub halt-time-differs : l.remaining.tenths ≡ 1 → NoTimeLeft (answer l (Call.Halt clock)).lamp → ⊥
  halt-time-differs e z = omega (arith, halt-time-exactly.1 z)

-- ---- an active colour loop

-- what does not run does not turn
no-turn : (r : Running) → runs r ≡ false → loop_turns r ≡ false
no-turn Running.Idle e = refl
no-turn (Running.HueSaturationMoveTo run) e = refl
no-turn (Running.HueMove run) e = refl
no-turn (Running.SaturationMove run) e = refl
no-turn (Running.ColorTemperatureMoveTo run) e = refl
no-turn (Running.ColorTemperatureMove run) e = refl
no-turn (Running.ColorLoop direction hue seconds start) e = absurd (true≢false e)

-- the lamp after StopMoveStep and the halt that answers it
abbrev pub after_stop : Lamp → CommandOptions → OnOff → ℕ → ℕ → Lamp
after_stop l options on_off clock later =
    (answer (answer l (Call.Command (request Command.StopMoveStep options) on_off clock)).lamp (Call.Halt later)).lamp

module _ (l : Lamp) (options : CommandOptions) (on_off : OnOff) (clock later : ℕ)
    (may_execute : allowed l (request Command.StopMoveStep options) on_off ≡ true)
    (taken : cause l (Call.Command (request Command.StopMoveStep options) on_off clock) ≡ accepted)
    (halted : cause (answer l (Call.Command (request Command.StopMoveStep options) on_off clock)).lamp (Call.Halt later) ≡ accepted) where
  stopped : loop_turns (after_stop l options on_off clock later).running ≡ false
  stopped = no-turn (after_stop l options on_off clock later).running (halt-terminates _ later halted).still

  -- a loop that is not active turns no more, in both
  pub stop-agrees : l.looping.active ≡ false →
      loop_turns (after_stop l options on_off clock later).running
      ≡ turns_after_stop l.looping.active (loop_turns l.running)
  stop-agrees e = stopped ∙ sym (ap (λ (active : Bool). turns_after_stop active (loop_turns l.running)) e)

  -- one that is active turns on in the text; here a stop is asked for all the same, and with it the loop turns no more: any lamp whose
  -- loop is active and turns
  pub stop-on-loop-differs : l.looping.active ≡ true → loop_turns l.running ≡ true →
      (turns_after_stop l.looping.active (loop_turns l.running) ≡ true)
      × ((answer l (Call.Command (request Command.StopMoveStep options) on_off clock)).task ≡ Some Task.Stop)
      × (loop_turns (after_stop l options on_off clock later).running ≡ false)
  stop-on-loop-differs e t = (
    ap (λ (active : Bool). turns_after_stop active (loop_turns l.running)) e ∙ t,
    stop-asked l options on_off clock may_execute taken,
    stopped,
  )

-- a start of a move to a hue takes the place of a loop that turns, which the text has turn on; and the loop's attribute says that it
-- is active still
idle-or : (t : Bool) (running : Running) → loop_turns running ≡ false → loop_turns (unless t running) ≡ false
idle-or true running e = refl
idle-or false running e = e

pub loop-replaced : (l : Lamp) (task : HueSaturationMoveTo) (run : ColorLoopRun) → l.running ≡ loop_running run → (loop_turns l.running ≡ true) × (loop_turns (started l (Task.HueSaturationMoveTo task)).lamp.running ≡ false) × ((started l (Task.HueSaturationMoveTo task)).lamp.looping ≡ l.looping)
unfolding started hue_saturation_start hue_saturation_moved timed
loop-replaced l task run e = (
  rw e,
  idle-or
      (at_end (start_permille task.ms (no_hue_delta task.delta && no_saturation_delta task.saturation l.color.saturation)))
      (Running.HueSaturationMoveTo (record { start = l.clock; hue = l.color.hue; saturation = l.color.saturation; task = task }))
      refl,
  refl,
)
