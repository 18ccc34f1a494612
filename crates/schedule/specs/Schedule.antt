-- The schedule of a fade: document 01, "Demand 3's schedule". A machine of its own. It is fed a move to a hue and the
-- hue that the command found, and from the accepted start on the calls alone; the lamp's bounds have no say since A.12
-- (docs/DECISIONS.md, point 12). It sees no lamp and no answer, and keeps its own clock and its own done.
use Rattle.std.specs.Prelude.{Some, None, is_ok}
use Rattle.std.specs.Prelude.{ℕ, ◌-◌, ◌*◌, min, Bool, true, false, not, cond, ◌&&◌, ◌||◌, List, [], ◌∷◌, leb, eqb}
use Rattle.std.specs.Prelude.{ℤ, nat_abs}
use Rattle.matter.specs.declared.commands.Command.{Command}
use Rattle.matter.specs.declared.commands.CommandOptions.{CommandOptions}
use Rattle.matter.specs.declared.commands.Request.{Request}
use Rattle.matter.specs.Requests.{request}
use Rattle.matter.specs.declared.enums.DirectionEnum.{DirectionEnum}
use Rattle.matter.specs.Limits.{clock_limit}
use Rattle.matter.specs.Bounds.{crossed}
use Rattle.hue.specs.Hue.{path_delta, moved_hue}
use Rattle.progress.specs.Progress.{permille_of, part_of, tenths_of}
use Rattle.tasks.specs.declared.Task.{Task}
use Rattle.tasks.specs.Valid.{task_valid}
use Rattle.lamp.specs.declared.Call.{Call}
use Rattle.commands.specs.Commands.{checks}
use Rattle.commands.specs.Answers.{clock_of}

-- a move to a hue, plain or enhanced, without saturation
pub record HueCommand : Type 0 where
  pub enhanced : Bool
  pub hue : ℕ
  pub direction : DirectionEnum
  pub tenths : ℕ
  pub options : CommandOptions

abbrev pub as_request : HueCommand → Request
as_request h =
    request
    (cond h.enhanced (Command.EnhancedMoveToHue h.hue h.direction h.tenths)
    (Command.MoveToHue h.hue h.direction h.tenths))
    h.options

-- "Target: the command's hue, a plain one times 256"
abbrev pub target : HueCommand → ℕ
target h = cond h.enhanced h.hue (h.hue * 256)

-- "Way: leaf 1's answer from the hue found to the target"
abbrev pub delta_from : HueCommand → ℕ → ℤ
delta_from h found = path_delta found (target h) h.direction

-- "Time: tenths × 100"
abbrev pub time : HueCommand → ℕ
time h = h.tenths * 100

-- the task of that way and time
abbrev pub task_of : HueCommand → ℕ → Task
task_of h found =
    Task.HueSaturationMoveTo
    (record {
      delta = Some (delta_from h found);
      saturation = None;
      ms = time h;
      enhanced = h.enhanced;
    })

-- what the schedule is fed before the calls
pub record Fed : Type 0 where
  pub fade : HueCommand
  pub found : ℕ
  -- the clock of the accepted start
  pub start : ℕ

-- what it says: its clock, its hue, remaining time, wait and done
pub record Shown : Type 0 where
  pub clock : ℕ
  pub hue : ℕ
  pub remaining : ℕ
  pub wait : ℕ
  pub done : Bool

-- "With e at or past the time, or way 0, it is done"
abbrev pub over : Fed → ℕ → Bool
over f e = leb (time f.fade) e || eqb (nat_abs (delta_from f.fade f.found)) 0

-- "At the accepted start and each accepted step, at elapsed e, its hue is the hue found plus the part [..], wrapped,
-- its remaining time is time − e in tenths, rounded up, and its wait is time − e, at most 100"; done: "target, 0, 0,
-- idle"
unfoldable pub shown_at : Fed → ℕ → Shown
shown_at f clock =
    let e : ℕ = clock - f.start in
    cond (over f e) (record { clock = clock; hue = target f.fade; remaining = 0; wait = 0; done = true })
    (record {
      clock = clock;
      hue = moved_hue f.found (part_of (delta_from f.fade f.found) (permille_of e (time f.fade)));
      remaining = tenths_of (time f.fade - e);
      wait = min 100 (time f.fade - e);
      done = false;
    })

-- "a call is accepted where it meets no cause below, the clock being the last accepted call's and the lamp idle once
-- done": the clock, and what the call itself can be refused for
abbrev pub own : Call → Bool → Bool
own (Call.Command r on_off clock) done = (checks r.command).stop || is_ok (checks r.command).cause
own (Call.Start task clock) done = task_valid task
own (Call.Step clock) done = not done
own (Call.Halt clock) done = true
own (Call.SetBounds bounds clock) done = not (crossed bounds)

abbrev pub takes : Shown → Call → Bool
takes s x = (leb s.clock (clock_of x) && leb (clock_of x) clock_limit) && own x s.done

-- "No other call moves it": an accepted step shows the fade at its clock, another accepted call only sets the clock
abbrev pub when_taken : Fed → Shown → Call → Shown
when_taken f s (Call.Command r on_off clock) =
    record { clock = clock; hue = s.hue; remaining = s.remaining; wait = s.wait; done = s.done }
when_taken f s (Call.Start task clock) =
    record { clock = clock; hue = s.hue; remaining = s.remaining; wait = s.wait; done = s.done }
when_taken f s (Call.Step clock) = shown_at f clock
when_taken f s (Call.Halt clock) =
    record { clock = clock; hue = s.hue; remaining = s.remaining; wait = s.wait; done = s.done }
when_taken f s (Call.SetBounds bounds clock) =
    record { clock = clock; hue = s.hue; remaining = s.remaining; wait = s.wait; done = s.done }

abbrev pub followed : Fed → Shown → Call → Shown
followed f s x = cond (takes s x) (when_taken f s x) s

-- the schedule after a list of calls that follow the start
unfoldable pub scheduled_from : Fed → Shown → List Call → Shown
scheduled_from f s [] = s
scheduled_from f s (x ∷ xs) = scheduled_from f (followed f s x) xs

abbrev pub scheduled : Fed → List Call → Shown
scheduled f xs = scheduled_from f (shown_at f f.start) xs
