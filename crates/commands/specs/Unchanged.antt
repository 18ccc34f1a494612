-- What a call leaves as it was, for every lamp; a refusal and an accepted halt, written out.
use Rattle.matter.specs.Causes.{accepted, Verdict}
use Rattle.std.specs.Prelude.{None, ℕ, Bool, true, false, [], ◌∷◌, ◌≡◌}
use Rattle.matter.specs.declared.commands.Request.{Request}
use Rattle.matter.specs.declared.enums.OnOff.{OnOff}
use Rattle.matter.specs.declared.limits.Bounds.{Bounds}
use Rattle.tasks.specs.declared.Running.{Running}
use Rattle.tasks.specs.declared.Task.{Task}
use Rattle.lamp.specs.declared.Answer.{Answer}
use Rattle.lamp.specs.declared.Lamp.{Lamp}
use Rattle.lamp.specs.declared.Call.{Call}
use Rattle.commands.specs.Answers.{cause, answer}

-- an answer without notices, task and wait
abbrev pub bare : Verdict → Lamp → Answer
bare verdict l =
    record {
      verdict = verdict;
      lamp = l;
      notices = record { places = 0 ∷ 0 ∷ 0 ∷ 0 ∷ 0 ∷ 0 ∷ 0 ∷ 0 ∷ 0 ∷ 0 ∷ 0 ∷ 0 ∷ 0 ∷ 0 ∷ 0 ∷ 0 ∷ []; len = 0 };
      task = None;
      wait = 0;
    }

-- "Each pass writes the device [..], then, in a move-to, the remaining time": the tasks that write it, and the records
abbrev pub is_move_to : Task → Bool
is_move_to (Task.HueSaturationMoveTo task) = true
is_move_to (Task.HueMove task) = false
is_move_to (Task.SaturationMove task) = false
is_move_to (Task.ColorTemperatureMoveTo task) = true
is_move_to (Task.ColorTemperatureMove task) = false
is_move_to (Task.ColorLoop task) = false
is_move_to Task.Stop = false

abbrev pub moves_to : Running → Bool
moves_to Running.Idle = false
moves_to (Running.HueSaturationMoveTo run) = true
moves_to (Running.HueMove run) = false
moves_to (Running.SaturationMove run) = false
moves_to (Running.ColorTemperatureMoveTo run) = true
moves_to (Running.ColorTemperatureMove run) = false
moves_to (Running.ColorLoop direction hue seconds start) = false

pub record Unchanged (l : Lamp) : Type 0 where
  -- "the lamp is then what it was and the notice list is empty"; "A refusal has no task and wait 0"
  pub refusal : (x : Call) → (cause l x ≡ accepted → ⊥) → answer l x ≡ bare (cause l x) l
  -- "halt, which only makes the lamp idle"
  pub halting : (clock : ℕ) → cause l (Call.Halt clock) ≡ accepted →
      answer l (Call.Halt clock)
      ≡ bare accepted
      (record {
        clock = clock;
        bounds = l.bounds;
        color = l.color;
        looping = l.looping;
        remaining = l.remaining;
        options = l.options;
        running = Running.Idle;
      })
  -- a task is a command's to give
  pub start-task : (task : Task) (clock : ℕ) → (answer l (Call.Start task clock)).task ≡ None
  pub step-task : (clock : ℕ) → (answer l (Call.Step clock)).task ≡ None
  -- no other call than one of new bounds changes the bounds (`NewBounds` has those), and none the options
  pub bounds : (x : Call) → ((new : Bounds) (clock : ℕ) → x ≡ Call.SetBounds new clock → ⊥) →
      (answer l x).lamp.bounds ≡ l.bounds
  pub options : (x : Call) → (answer l x).lamp.options ≡ l.options
  -- no command, the colour loop's among them, changes what runs, nor the remaining time, nor has a wait
  pub command-running : (r : Request) (on_off : OnOff) (clock : ℕ) →
      (answer l (Call.Command r on_off clock)).lamp.running ≡ l.running
  pub command-remaining : (r : Request) (on_off : OnOff) (clock : ℕ) →
      (answer l (Call.Command r on_off clock)).lamp.remaining ≡ l.remaining
  pub command-wait : (r : Request) (on_off : OnOff) (clock : ℕ) → (answer l (Call.Command r on_off clock)).wait ≡ 0
  -- no start or step changes the loop's settings
  pub start-looping : (task : Task) (clock : ℕ) → (answer l (Call.Start task clock)).lamp.looping ≡ l.looping
  pub step-looping : (clock : ℕ) → (answer l (Call.Step clock)).lamp.looping ≡ l.looping
  -- "Rate moves, loops and halts leave the remaining time as it was" (DECISIONS 14)
  pub start-remaining : (task : Task) (clock : ℕ) → is_move_to task ≡ false →
      (answer l (Call.Start task clock)).lamp.remaining ≡ l.remaining
  pub step-remaining : (clock : ℕ) → moves_to l.running ≡ false →
      (answer l (Call.Step clock)).lamp.remaining ≡ l.remaining
