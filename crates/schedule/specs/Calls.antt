-- A list of calls on a lamp, each given the lamp that the last one left, and what is asked of the list: demand 3
-- (docs/DEMANDS.md), whose words are quoted here.
use Rattle.std.specs.Prelude.{ℕ, suc, ◌+◌, Bool, true, false, not, cond, ◌&&◌, ◌||◌, List, [], ◌∷◌, leb, is_ok}
use Rattle.tasks.specs.Runs.{runs}
use Rattle.lamp.specs.declared.Lamp.{Lamp}
use Rattle.lamp.specs.declared.Call.{Call}
use Rattle.lamp.specs.InRange.{InRangeCall}
use Rattle.commands.specs.Answers.{answer, clock_of, is_loop_set}

-- the lamp that a call leaves
abbrev pub next : Lamp → Call → Lamp
next l x = (answer l x).lamp

-- the lamp that a list leaves
unfoldable pub after : Lamp → List Call → Lamp
after l [] = l
after l (x ∷ xs) = after (next l x) xs

abbrev pub accepts : Lamp → Call → Bool
accepts l x = is_ok (answer l x).verdict

abbrev pub idle : Lamp → Bool
idle l = not (runs l.running)

abbrev pub InRangeCalls : List Call → Type 0
InRangeCalls [] = Unit
InRangeCalls (x ∷ xs) = InRangeCall x × InRangeCalls xs

abbrev pub is_step : Call → Bool
is_step (Call.Command r on_off clock) = false
is_step (Call.Start task clock) = false
is_step (Call.Step clock) = true
is_step (Call.Halt clock) = false
is_step (Call.SetBounds bounds clock) = false

-- a start, a halt or a colour-loop command
abbrev pub interrupts : Call → Bool
interrupts (Call.Command r on_off clock) = is_loop_set r.command
interrupts (Call.Start task clock) = true
interrupts (Call.Step clock) = false
interrupts (Call.Halt clock) = true
interrupts (Call.SetBounds bounds clock) = false

-- "no other accepted start, halt or colour-loop command follows"
unfoldable pub quiet : Lamp → List Call → Bool
quiet l [] = true
quiet l (x ∷ xs) = not (interrupts x && accepts l x) && quiet (next l x) xs

abbrev pub accepted_step : Lamp → Call → Bool
accepted_step l x = is_step x && accepts l x

-- how many steps of the list are accepted
unfoldable pub steps : Lamp → List Call → ℕ
steps l [] = 0
steps l (x ∷ xs) = cond (accepted_step l x) (suc (steps (next l x) xs)) (steps (next l x) xs)

-- whether some accepted step came at a clock or later
unfoldable pub reached : ℕ → Lamp → List Call → Bool
reached clock l [] = false
reached clock l (x ∷ xs) = (accepted_step l x && leb clock (clock_of x)) || reached clock (next l x) xs

-- "each accepted step also comes at or after the wait its start or last accepted step asked": `due` is the clock of the
-- one before, and its wait
unfoldable pub paced : ℕ → Lamp → List Call → Bool
paced due l [] = true
paced due l (x ∷ xs) =
    cond (accepted_step l x) (leb due (clock_of x) && paced (clock_of x + (answer l x).wait) (next l x) xs)
    (paced due (next l x) xs)
