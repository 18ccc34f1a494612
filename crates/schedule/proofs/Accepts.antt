-- Which calls a valid lamp accepts, that a refused one leaves it as it was, and what an accepted one gives.
use Prim.Native.Nat.{ℕ}
use mathlib.Core.Bool.{Bool, true, false, not, cond, ◌&&◌, ◌||◌}
use mathlib.Core.Path.{◌≡◌, refl, sym, ◌∙◌, ap}
use lib.Dec.{leb}
use Rattle.std.specs.Prelude.{is_ok}
use Rattle.matter.specs.Causes.{Verdict, accepted, clock_refused, invalid_task, step_while_idle, crossed_bounds, mired_task_runs}
use Rattle.matter.specs.Bounds.{crossed}
use Rattle.matter.proofs.Laws.{accepted-of, refused-of}
use Rattle.matter.specs.Limits.{clock_limit}
use Rattle.tasks.specs.Valid.{task_valid}
use Rattle.tasks.specs.Runs.{runs, moves_mireds}
use Rattle.lamp.specs.declared.Lamp.{Lamp}
use Rattle.lamp.specs.declared.Answer.{Answer}
use Rattle.lamp.specs.Answers.{bad_clock, first_cause}
use Rattle.lamp.specs.Valid.{lamp_valid}
use Rattle.lamp.specs.declared.Call.{Call}
use Rattle.commands.specs.Commands.{checks}
use Rattle.commands.specs.Answers.{in_order, command_cause, cause, answer, clock_of}
use Rattle.commands.proofs.Granted.{granted}
use Rattle.commands.proofs.Kept.{answer-both, number-is-cause, refused-same}
use Rattle.schedule.specs.Calls.{next, accepts}
use Rattle.std.proofs.lemmas.Bool.Decides.{nat_tests}
use native.Mathlib.Omega.{arith}

-- a clock that a lamp takes
abbrev pub timely : ℕ → ℕ → Bool
timely now clock = leb now clock && leb clock clock_limit

-- a call that nothing but validity and clock can turn away
abbrev pub grounds : Lamp → Call → Bool
grounds l (Call.Command r on_off clock) = (checks r.command).stop || is_ok (checks r.command).cause
grounds l (Call.Start task clock) = task_valid task
grounds l (Call.Step clock) = runs l.running
grounds l (Call.Halt clock) = true
grounds l (Call.SetBounds bounds clock) = not (crossed bounds) && not (moves_mireds l.running)

bad-is : (l : Lamp) (clock : ℕ) → bad_clock l clock ≡ not (timely l.clock clock)
bad-is l clock = grind (arith, nat_tests)

-- the causes of each kind of call in their order, by a clock that is taken or not, as one test
abbrev clock-table : Bool → Verdict
clock-table t = cond (not t) clock_refused accepted

command-table : (t stop : Bool) (v : Verdict) → is_ok (cond (is_ok (clock-table t)) (in_order stop v) (clock-table t)) ≡ (t && (stop || is_ok v))
command-table false stop v = refl
command-table true true v = refl
command-table true false v = refl

start-table : (t valid : Bool) → is_ok (cond (is_ok (clock-table t)) (cond valid accepted invalid_task) (clock-table t)) ≡ (t && valid)
start-table false valid = refl
start-table true true = refl
start-table true false = refl

step-table : (t run : Bool) → is_ok (cond (not run) step_while_idle (clock-table t)) ≡ (t && run)
step-table true true = refl
step-table true false = refl
step-table false true = refl
step-table false false = refl

halt-table : (t : Bool) → is_ok (clock-table t) ≡ (t && true)
halt-table true = refl
halt-table false = refl

bounds-table : (t crosses moves : Bool) → is_ok (cond (is_ok (clock-table t)) (cond crosses crossed_bounds (cond moves mired_task_runs accepted)) (clock-table t)) ≡ (t && (not crosses && not moves))
bounds-table false crosses moves = refl
bounds-table true true moves = refl
bounds-table true false true = refl
bounds-table true false false = refl

table : (l : Lamp) (x : Call) → lamp_valid l ≡ true → is_ok (cause l x) ≡ (timely l.clock (clock_of x) && grounds l x)
unfolding cause command_cause first_cause
table l (Call.Command r on_off clock) f = rw (f, bad-is l clock) (command-table (timely l.clock clock) (checks r.command).stop (checks r.command).cause)
table l (Call.Start task clock) f = rw (f, bad-is l clock) (start-table (timely l.clock clock) (task_valid task))
table l (Call.Step clock) f = rw (f, bad-is l clock) (step-table (timely l.clock clock) (runs l.running))
table l (Call.Halt clock) f = rw (f, bad-is l clock) (halt-table (timely l.clock clock))
table l (Call.SetBounds bounds clock) f =
    rw (f, bad-is l clock) (bounds-table (timely l.clock clock) (crossed bounds) (moves_mireds l.running))

-- accepted where clock and grounds are good
pub accepts-is : (l : Lamp) (x : Call) → lamp_valid l ≡ true → accepts l x ≡ (timely l.clock (clock_of x) && grounds l x)
accepts-is l x f = ap is_ok (number-is-cause l x) ∙ table l x f

-- an accepted call has no cause
pub no-cause : (l : Lamp) (x : Call) → accepts l x ≡ true → cause l x ≡ accepted
no-cause l x e = sym (number-is-cause l x) ∙ accepted-of (answer l x).verdict e

-- a refused call leaves the lamp
pub refused-keeps : (l : Lamp) (x : Call) → accepts l x ≡ false → next l x ≡ l
refused-keeps l x e =
    ap (λ (a : Answer). a.lamp) (refused-same l x (λ z. refused-of (answer l x).verdict e (number-is-cause l x ∙ z)))

-- an accepted one has what is granted
pub accepted-is : (l : Lamp) (x : Call) → accepts l x ≡ true → answer l x ≡ granted l x
accepted-is l x e = answer-both l (λ a. a ≡ granted l x) x (λ z. refl) (λ n. absurd (n (no-cause l x e)))
