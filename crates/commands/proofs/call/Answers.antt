-- An invalid lamp is refused, whatever the call.
use Rattle.std.specs.Prelude.{Some, None, is_some}
use mathlib.Core.Bool.{Bool, true, false, cond}
use mathlib.Core.Path.{◌≡◌, refl, sym, ap, ◌∙◌}
use Rattle.matter.specs.declared.refusals.Refusal.{Refusal}
use Rattle.lamp.specs.declared.Call.{Call}
use Rattle.lamp.specs.declared.Lamp.{Lamp}
use Rattle.lamp.specs.Answers.{first_cause, refusal}
use Rattle.lamp.specs.Calls.{start_answer, step_answer, halt_answer, bounds_answer}
use Rattle.lamp.specs.Valid.{lamp_valid}
use Rattle.commands.specs.Answers.{answer, command_answer, command_cause}
use Rattle.commands.proofs.call.Goals as goal

refused : (l : Lamp) (call : Call) → lamp_valid l ≡ false → refusal l Refusal.InvalidLamp ≡ answer l call
unfolding answer command_answer command_cause start_answer step_answer halt_answer bounds_answer first_cause
refused l (Call.Command r on_off clock) f = simp f
refused l (Call.Start task clock) f = simp f
refused l (Call.Step clock) f = simp f
refused l (Call.Halt clock) f = simp f
refused l (Call.SetBounds bounds clock) f = simp f

-- whether there is one is what it was asked by
there : {A : Type 0} (b : Bool) (a : A) → is_some (cond b (Some a) None) ≡ b
there true a = refl
there false a = refl

pub returns-in_default : goal.returns-in_default
returns-in_default c = c.refused.ensures ∙ refused c.args.lamp c.args.call (sym (ap is_some c.in_default.ensures ∙ there _ _))
