-- The answers of accepted calls, which the proofs of claims on them go by.
use Rattle.std.specs.Prelude.{Bool, true, false}
use Rattle.lamp.specs.declared.Lamp.{Lamp}
use Rattle.lamp.specs.declared.Answer.{Answer}
use Rattle.lamp.specs.declared.Call.{Call}
use Rattle.lamp.specs.Answers.{at_clock}
use Rattle.lamp.specs.Calls.{done, started, stepped, with_bounds}
use Rattle.lamp.specs.Passes.{idled}
use Rattle.commands.specs.Answers.{command_done, command_accepted}

-- the answer of a call where it is accepted
abbrev pub granted : Lamp → Call → Answer
granted l (Call.Command r on_off clock) = command_accepted (command_done (at_clock l clock) r on_off)
granted l (Call.Start task clock) = done (started (at_clock l clock) task)
granted l (Call.Step clock) = done (stepped (at_clock l clock) l.running)
granted l (Call.Halt clock) = done (idled (at_clock l clock))
granted l (Call.SetBounds bounds clock) = done (with_bounds (at_clock l clock) bounds)

-- whether a call sets bounds
abbrev pub sets_bounds : Call → Bool
sets_bounds (Call.Command r on_off clock) = false
sets_bounds (Call.Start task clock) = false
sets_bounds (Call.Step clock) = false
sets_bounds (Call.Halt clock) = false
sets_bounds (Call.SetBounds bounds clock) = true
