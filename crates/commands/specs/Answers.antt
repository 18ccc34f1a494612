-- The answer of every call of a lamp: the table of causes in its order, the effect of an accepted call, and the choice
-- between the two. Document 01, "Commands in their order" and "Why a call is turned away".
use Rattle.std.specs.Prelude.{ℕ, Bool, true, false, cond, is_ok}
use Rattle.matter.specs.declared.commands.Command.{Command}
use Rattle.matter.specs.declared.commands.Request.{Request}
use Rattle.matter.specs.declared.enums.OnOff.{OnOff}
use Rattle.matter.specs.Causes.{Verdict, accepted}
use Rattle.matter.specs.Rules.{may_execute}
use Rattle.notices.specs.Notices.{noted}
use Rattle.tasks.specs.declared.Task.{Task}
use Rattle.lamp.specs.declared.Lamp.{Lamp}
use Rattle.lamp.specs.declared.Answer.{Answer}
use Rattle.lamp.specs.Answers.{at_clock, first_cause}
use Rattle.lamp.specs.Calls.{choose, start_cause, step_cause, start_answer, step_answer, halt_answer, bounds_cause}
use Rattle.lamp.specs.Calls.{bounds_answer}
use Rattle.lamp.specs.declared.Call.{Call}
use Rattle.commands.specs.Commands.{CommandEffect, skip, giving, checks, command_effect}

-- whether a command may execute on a lamp
abbrev pub allowed : Lamp → Request → OnOff → Bool
allowed l r on_off = may_execute on_off l.options r.options.mask r.options.overrides

-- "commands 8, 4, then the order above": Stop mode, then the cause of the command's own numbers
abbrev pub in_order : Bool → Verdict → Verdict
in_order stop own = cond stop accepted own

abbrev pub after_clock : Request → Verdict
after_clock r = in_order (checks r.command).stop (checks r.command).cause

unfoldable pub command_cause : Lamp → Request → ℕ → Verdict
command_cause l r clock = cond (is_ok (first_cause l clock)) (after_clock r) (first_cause l clock)

-- the Stop task in Stop mode; where it may not execute, a pass-over; else what the command does
abbrev pub ran_with : Lamp → Bool → Bool → CommandEffect → CommandEffect
ran_with l stop allowed effect = cond stop (giving l Task.Stop) (cond allowed effect (skip l))

abbrev pub command_done : Lamp → Request → OnOff → CommandEffect
command_done l r on_off = ran_with l (checks r.command).stop (allowed l r on_off) (command_effect l r.command)

-- an accepted command asks for no wait
abbrev pub command_accepted : CommandEffect → Answer
command_accepted e =
    record { verdict = accepted; lamp = e.lamp; notices = noted e.reported; task = e.task; wait = 0 }

unfoldable pub command_answer : Lamp → Request → OnOff → ℕ → Answer
command_answer l r on_off clock =
    choose (command_cause l r clock) l (command_accepted (command_done (at_clock l clock) r on_off))

-- ---- every call

unfoldable pub cause : Lamp → Call → Verdict
cause l (Call.Command r on_off clock) = command_cause l r clock
cause l (Call.Start task clock) = start_cause l task clock
cause l (Call.Step clock) = step_cause l clock
cause l (Call.Halt clock) = first_cause l clock
cause l (Call.SetBounds bounds clock) = bounds_cause l bounds clock

unfoldable pub answer : Lamp → Call → Answer
answer l (Call.Command r on_off clock) = command_answer l r on_off clock
answer l (Call.Start task clock) = start_answer l task clock
answer l (Call.Step clock) = step_answer l clock
answer l (Call.Halt clock) = halt_answer l clock
answer l (Call.SetBounds bounds clock) = bounds_answer l bounds clock

-- ---- what theorems say of a call

-- its clock
abbrev pub clock_of : Call → ℕ
clock_of (Call.Command r on_off clock) = clock
clock_of (Call.Start task clock) = clock
clock_of (Call.Step clock) = clock
clock_of (Call.Halt clock) = clock
clock_of (Call.SetBounds bounds clock) = clock

-- whether a command is the colour loop's
abbrev pub is_loop_set : Command → Bool
is_loop_set (Command.MoveToHue hue direction time) = false
is_loop_set (Command.MoveHue mode rate enhanced) = false
is_loop_set (Command.StepHue mode size time) = false
is_loop_set (Command.MoveToSaturation saturation time) = false
is_loop_set (Command.MoveSaturation mode rate) = false
is_loop_set (Command.StepSaturation mode size time) = false
is_loop_set (Command.MoveToHueAndSaturation hue saturation time enhanced enhanced_hue) = false
is_loop_set (Command.EnhancedMoveToHue hue direction time) = false
is_loop_set (Command.EnhancedMoveHue mode rate) = false
is_loop_set (Command.EnhancedStepHue mode size time) = false
is_loop_set (Command.MoveToColorTemperature mireds time) = false
is_loop_set (Command.MoveColorTemperature mode rate min max) = false
is_loop_set (Command.StepColorTemperature mode size time min max) = false
is_loop_set (Command.ColorLoopSet flags action direction time start_hue) = true
is_loop_set Command.StopMoveStep = false
