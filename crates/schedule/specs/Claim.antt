-- Demand 3 (docs/DEMANDS.md, whose words are quoted here). For every list of commands, starts, steps and halts, refused
-- ones too, from any valid lamp, and of new bounds (document 02, A.9): each move to a hue that is accepted and may
-- execute gives its task and, once a start of that task is accepted, keeps its schedule. One statement over a lamp and
-- a whole list. Premises: the lamp is valid; lamp and calls are in range; the demand's own.
use Rattle.std.specs.Prelude.{Some, ℕ, ◌+◌, ◌≤◌, true, cond, ◌||◌, List, [], ◌∷◌, ◌++◌, ◌≡◌, eqb, pos, nat_abs}
use Rattle.std.specs.Int.Signed.{le_z}
use Rattle.matter.specs.declared.enums.OnOff.{OnOff}
use Rattle.matter.specs.declared.limits.Bounds.{Bounds}
use Rattle.matter.specs.Bounds.{crossed}
use Rattle.matter.specs.Causes.{accepted, clock_refused, crossed_bounds}
use Rattle.hue.specs.Hue.{distance}
use Rattle.lamp.specs.declared.Lamp.{Lamp}
use Rattle.lamp.specs.declared.Answer.{Answer}
use Rattle.lamp.specs.Valid.{lamp_valid}
use Rattle.lamp.specs.declared.Call.{Call}
use Rattle.lamp.specs.InRange.{InRangeLamp}
use Rattle.lamp.specs.Answers.{bad_clock}
use Rattle.commands.specs.Answers.{cause, answer, allowed}
use Rattle.schedule.specs.Calls.{next, after, accepts, idle, InRangeCalls, quiet, accepted_step, steps, reached, paced}
use Rattle.schedule.specs.Schedule.{HueCommand, as_request, target, delta_from, time, task_of, Fed, Shown, takes}
use Rattle.schedule.specs.Schedule.{scheduled}

-- the way travelled, read off a hue: how far it is from the one found, on the side of the way's sign
abbrev pub travelled : Fed → Lamp → ℕ
travelled f l =
    cond (le_z (pos 0) (delta_from f.fade f.found)) (distance f.found l.color.hue)
    (distance l.color.hue f.found)

abbrev pub whole_delta : Fed → ℕ
whole_delta f = nat_abs (delta_from f.fade f.found)

-- the lamp shows what the schedule says
pub record Agrees (l : Lamp) (s : Shown) : Type 0 where
  pub hue : l.color.hue ≡ s.hue
  pub remaining : l.remaining.tenths ≡ s.remaining
  pub done : idle l ≡ s.done

-- after the calls `ys` that follow the start, whose answer was `a`
pub record Keeps (a : Answer) (f : Fed) (ys : List Call) : Type 0 where
  -- (b) the same hue, remaining time and done
  pub agrees : Agrees (after a.lamp ys) (scheduled f ys)
  -- (d) "done exactly at the first accepted step at or after its time, or at its start if time or way is zero"
  pub done : idle (after a.lamp ys)
      ≡ (eqb (time f.fade) 0 || eqb (whole_delta f) 0 || reached (f.start + time f.fade) a.lamp ys)
  -- (e) "Where each accepted step also comes at or after the wait [..] asked, at most d steps are accepted after the
  -- start of a fade of d tenths, and once d are, it is done"
  pub pace : paced (f.start + a.wait) a.lamp ys ≡ true →
      (steps a.lamp ys ≤ f.fade.tenths) × (steps a.lamp ys ≡ f.fade.tenths → idle (after a.lamp ys) ≡ true)
  -- (f) "no hue lies off the chosen arc"
  pub arc : travelled f (after a.lamp ys) ≤ whole_delta f
  -- (g) "At done, the hue is the target and the remaining time 0"
  pub end : idle (after a.lamp ys) ≡ true →
      ((after a.lamp ys).color.hue ≡ target f.fade) × ((after a.lamp ys).remaining.tenths ≡ 0)
  -- document 02, A.9: new bounds can be refused with 4 or 5, never with 8 or 18
  pub new_bounds : (bounds : Bounds) (clock : ℕ) → cause (after a.lamp ys) (Call.SetBounds bounds clock)
      ≡ cond (bad_clock (after a.lamp ys) clock) clock_refused (cond (crossed bounds) crossed_bounds accepted)

-- at the call `x` that comes after those
pub record KeepsAt (a : Answer) (f : Fed) (ys : List Call) (x : Call) : Type 0 where
  -- (b) it is accepted exactly when the schedule takes it
  pub accepted : accepts (after a.lamp ys) x ≡ takes (scheduled f ys) x
  -- (c) an accepted step asks for the schedule's wait
  pub wait : accepted_step (after a.lamp ys) x ≡ true →
      (answer (after a.lamp ys) x).wait ≡ (scheduled f (ys ++ (x ∷ []))).wait
  -- (f) "the way travelled never shrinks"
  pub grows : travelled f (after a.lamp ys) ≤ travelled f (after a.lamp (ys ++ (x ∷ [])))

-- a fade, started with the answer `a`: all along the calls that follow
pub record KeptFade (a : Answer) (f : Fed) (calls : List Call) : Type 0 where
  -- (c) the start asks for the schedule's wait
  pub wait : a.wait ≡ (scheduled f []).wait
  pub everywhere : (ys zs : List Call) → calls ≡ ys ++ zs → Keeps a f ys
  pub every_call : (ys : List Call) (x : Call) (zs : List Call) → calls ≡ ys ++ (x ∷ zs) → KeepsAt a f ys x

-- what the schedule of a fade is fed: the command, the hue that it found, and the clock of the start
abbrev pub fed : HueCommand → Lamp → ℕ → Fed
fed h l clock =
    record {
      fade = h;
      found = l.color.hue;
      start = clock;
    }

-- a move to a hue, as a call, and a start of the task that it gives on the lamp `l`
abbrev pub move_to : HueCommand → OnOff → ℕ → Call
move_to h on_off clock = Call.Command (as_request h) on_off clock

abbrev pub start_of : HueCommand → Lamp → ℕ → Call
start_of h l clock = Call.Start (task_of h l.color.hue) clock

-- the premises of the schedule, at a start on the lamp `now` of what the command gave on the lamp `l`
pub record Premises (h : HueCommand) (l now : Lamp) (at : ℕ) (calls : List Call) : Type 0 where
  -- "once a start of that task is accepted"
  pub accepted : accepts now (start_of h l at) ≡ true
  -- "at that start the hue is as the command found it"
  pub hue : now.color.hue ≡ l.color.hue
  -- "no other accepted start, halt or colour-loop command follows it"
  pub undisturbed : quiet (next now (start_of h l at)) calls ≡ true

-- a fade on the lamp `l`, started on the lamp `now`
abbrev pub FadeFrom : HueCommand → Lamp → Lamp → ℕ → List Call → Type 0
FadeFrom h l now at calls = Premises h l now at calls → KeptFade (answer now (start_of h l at)) (fed h l at) calls

-- a move to a hue on the lamp `l`, and the calls that follow it
pub record Kept (l : Lamp) (h : HueCommand) (on_off : OnOff) (clock : ℕ) (rest : List Call) : Type 0 where
  -- (a) it gives a task of its way and time
  pub task : (answer l (move_to h on_off clock)).task ≡ Some (task_of h l.color.hue)
  -- every start of that task that follows, after the calls `between`
  pub fades : (between calls : List Call) (at : ℕ) → rest ≡ between ++ (start_of h l at ∷ calls) →
      FadeFrom h l (after (next l (move_to h on_off clock)) between) at calls

-- every move to a hue in the list, on the lamp that the calls before it left, that is accepted and may execute
abbrev pub Everywhere : Lamp → List Call → Type 0
Everywhere l calls =
    (before rest : List Call) (h : HueCommand) (on_off : OnOff) (clock : ℕ) →
    calls ≡ before ++ (move_to h on_off clock ∷ rest) → accepts (after l before) (move_to h on_off clock) ≡ true →
    allowed (after l before) (as_request h) on_off ≡ true → Kept (after l before) h on_off clock rest

-- the claim: from any valid lamp, for every list of calls
abbrev pub Claim : Type 0
Claim = (l : Lamp) (calls : List Call) → lamp_valid l ≡ true → InRangeLamp l → InRangeCalls calls → Everywhere l calls
