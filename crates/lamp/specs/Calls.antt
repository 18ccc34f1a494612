-- Starts, steps and halts: document 01, leaf 6, halt of "Added by design", and their rows of the table of causes. New
-- bounds: document 02, A.9.
use Rattle.std.specs.Prelude.{Option, Some, None, ℤ}
use Rattle.std.specs.Prelude.{ℕ, ◌-◌, Bool, true, not, cond, ◌&&◌, ◌||◌, leb, eqb, is_ok, pos, nat_abs}
use Rattle.matter.specs.Causes.{Verdict, accepted, clock_refused, invalid_task, step_while_idle, invalid_lamp}
use Rattle.matter.specs.Causes.{crossed_bounds, mired_task_runs}
use Rattle.matter.specs.declared.limits.Bounds.{Bounds}
use Rattle.matter.specs.Bounds.{crossed, lower, upper}
use Rattle.notices.specs.Notices.{only, noted}
use Rattle.notices.specs.Names.{ColorTemperatureMireds}
use Rattle.progress.specs.Progress.{permille_of, clamp}
use Rattle.remaining_time.specs.declared.Written.{Written}
use Rattle.remaining_time.specs.RemainingTime.{written_quietly}
use Rattle.color.specs.Bounded.{mireds_move, bounded}
use Rattle.tasks.specs.declared.HueSaturationMoveTo.{HueSaturationMoveTo}
use Rattle.tasks.specs.declared.ColorTemperatureMoveTo.{ColorTemperatureMoveTo}
use Rattle.tasks.specs.declared.ColorTemperatureMove.{ColorTemperatureMove}
use Rattle.tasks.specs.declared.HueSaturationRun.{HueSaturationRun}
use Rattle.tasks.specs.declared.ColorTemperatureToRun.{ColorTemperatureToRun}
use Rattle.tasks.specs.declared.Task.{Task}
use Rattle.tasks.specs.declared.Running.{Running}
use Rattle.tasks.specs.Valid.{task_valid}
use Rattle.tasks.specs.Runs.{runs, moves_mireds, loop_run}
use Rattle.lamp.specs.declared.Lamp.{Lamp}
use Rattle.lamp.specs.declared.Answer.{Answer}
use Rattle.lamp.specs.declared.passes.Left.{Left}
use Rattle.lamp.specs.Answers.{at_clock, bad_clock, first_cause, unchanged}
use Rattle.lamp.specs.Valid.{lamp_valid}
use Rattle.lamp.specs.Passes.{Effect, found_with, left_by, left_effect, idled, hue_saturation_passed}
use Rattle.lamp.specs.Passes.{hue_saturation_pass, temperature_to_passed, temperature_to_pass, hue_pass}
use Rattle.lamp.specs.Passes.{saturation_pass, temperature_pass, loop_pass}

-- ---- starts: the lamp is at the call's clock already

-- "The full time is written to the remaining time first", which is a transition's start
abbrev pub full_written : Lamp → ℕ → Written
full_written l ms = written_quietly l.remaining ms true

-- no way at all: that of the hue is 0 or none is moved, and the saturation is there or none is moved
abbrev pub no_hue_delta : Option ℤ → Bool
no_hue_delta None = true
no_hue_delta (Some way) = eqb (nat_abs way) 0

abbrev pub no_saturation_delta : Option ℕ → ℕ → Bool
no_saturation_delta None start = true
no_saturation_delta (Some target) start = eqb target start

-- "Time 0, no way in hue and saturation together, or no way in mireds: the end at once", which is permille 1000
abbrev pub start_permille : ℕ → Bool → ℕ
start_permille ms no_delta = cond (eqb ms 0 || no_delta) 1000 0

-- what a start of a move-to leaves: the full time is written, then comes the first pass of the record that it saves
unfoldable pub hue_saturation_start : Lamp → HueSaturationMoveTo → Left
hue_saturation_start l task =
    let w : Written = full_written l task.ms in
    let run : HueSaturationRun =
    record { start = l.clock; hue = l.color.hue; saturation = l.color.saturation; task = task }
    in
    let no_delta : Bool = no_hue_delta task.delta && no_saturation_delta task.saturation l.color.saturation in
    left_by w.reported (hue_saturation_passed (found_with l w.remaining) run (start_permille task.ms no_delta))
    (Running.HueSaturationMoveTo run)

-- the target is clamped to the bounds
unfoldable pub temperature_to_start : Lamp → ColorTemperatureMoveTo → Left
temperature_to_start l task =
    let w : Written = full_written l task.ms in
    let target : ℕ = clamp l.bounds.min l.bounds.max (pos task.target) in
    let run : ColorTemperatureToRun =
    record { start = l.clock; mireds = l.color.mireds; task = record { target = target; ms = task.ms } }
    in
    left_by w.reported
    (temperature_to_passed (found_with l w.remaining) run (start_permille task.ms (eqb target l.color.mireds)))
    (Running.ColorTemperatureMoveTo run)

-- "A temperature move with lo ≥ hi is done at once: the lamp is idle, and nothing else but the clock changes"
unfoldable pub temperature_start : Lamp → ColorTemperatureMove → Effect
temperature_start l task =
    let lo : ℕ = lower l.bounds task.min in
    let hi : ℕ = upper l.bounds task.max in
    cond (leb hi lo) (idled l)
    (temperature_pass l (record { start = l.clock; mireds = l.color.mireds; rate = task.rate; lo = lo; hi = hi }))

-- "A start includes its first pass, at elapsed 0". The Stop task is refused below, and so is a step of an idle lamp.
unfoldable pub started : Lamp → Task → Effect
started l (Task.HueSaturationMoveTo task) = left_effect l (hue_saturation_start l task)
started l (Task.HueMove task) = hue_pass l (record { start = l.clock; hue = l.color.hue; task = task })
started l (Task.SaturationMove task) =
    saturation_pass l (record { start = l.clock; saturation = l.color.saturation; task = task })
started l (Task.ColorTemperatureMoveTo task) = left_effect l (temperature_to_start l task)
started l (Task.ColorTemperatureMove task) = temperature_start l task
started l (Task.ColorLoop task) = loop_pass l (record { start = l.clock; hue = l.color.hue; task = task })
started l Task.Stop = idled l

-- ---- steps: a pass of what runs

unfoldable pub stepped : Lamp → Running → Effect
stepped l Running.Idle = idled l
stepped l (Running.HueSaturationMoveTo run) =
    hue_saturation_pass l run (permille_of (l.clock - run.start) run.task.ms)
stepped l (Running.HueMove run) = hue_pass l run
stepped l (Running.SaturationMove run) = saturation_pass l run
stepped l (Running.ColorTemperatureMoveTo run) =
    temperature_to_pass l run (permille_of (l.clock - run.start) run.task.ms)
stepped l (Running.ColorTemperatureMove run) = temperature_pass l run
stepped l (Running.ColorLoop direction hue seconds start) = loop_pass l (loop_run direction hue seconds start)

-- ---- the causes, in the table's order, and the answers

-- an accepted start's or step's answer
abbrev pub done : Effect → Answer
done e =
    record {
      verdict = accepted;
      lamp = e.lamp;
      notices = noted e.reported;
      task = None;
      wait = e.wait;
    }

-- the choice between a refusal and an effect
abbrev pub choose : Verdict → Lamp → Answer → Answer
choose verdict l answer = cond (is_ok verdict) answer (unchanged l verdict)

-- "starts 8, 4, 6"
abbrev pub start_cause : Lamp → Task → ℕ → Verdict
start_cause l task clock =
    cond (is_ok (first_cause l clock)) (cond (task_valid task) accepted invalid_task) (first_cause l clock)

unfoldable pub start_answer : Lamp → Task → ℕ → Answer
start_answer l task clock = choose (start_cause l task clock) l (done (started (at_clock l clock) task))

-- "steps 8, 7, 4"
abbrev pub step_cause : Lamp → ℕ → Verdict
step_cause l clock =
    cond (not (lamp_valid l)) invalid_lamp
    (cond (not (runs l.running)) step_while_idle
    (cond (bad_clock l clock) clock_refused accepted))

unfoldable pub step_answer : Lamp → ℕ → Answer
step_answer l clock = choose (step_cause l clock) l (done (stepped (at_clock l clock) l.running))

-- "halt, which only makes the lamp idle"; "halt 8, 4"
unfoldable pub halt_answer : Lamp → ℕ → Answer
halt_answer l clock = choose (first_cause l clock) l (done (idled (at_clock l clock)))

-- "Crossed new bounds are refused with 5, after 8 and 4"; "18, a mired task is running, after 5"
abbrev pub bounds_cause : Lamp → Bounds → ℕ → Verdict
bounds_cause l bounds clock =
    cond (is_ok (first_cause l clock))
    (cond (crossed bounds) crossed_bounds (cond (moves_mireds l.running) mired_task_runs accepted))
    (first_cause l clock)

-- "with notice 5 alone", where the mireds move; "The wait is 0"
abbrev pub with_bounds : Lamp → Bounds → Effect
with_bounds l bounds =
    record {
      lamp =
          record {
            clock = l.clock;
            bounds = bounds;
            color = bounded l.color bounds l.clock;
            looping = l.looping;
            remaining = l.remaining;
            options = l.options;
            running = l.running;
          };
      reported = only (mireds_move l.color bounds) ColorTemperatureMireds;
      wait = 0;
    }

unfoldable pub bounds_answer : Lamp → Bounds → ℕ → Answer
bounds_answer l bounds clock = choose (bounds_cause l bounds clock) l (done (with_bounds (at_clock l clock) bounds))
