-- A fade, with a name for each of its parts: a lamp, a list of calls, in it a move to a hue, a start of the task that
-- it gives, and the calls that follow; and the claim's premises of it.
use Rattle.std.specs.Prelude.{ℕ, true, List, ◌∷◌, ◌++◌, ◌≡◌}
use Rattle.matter.specs.declared.enums.OnOff.{OnOff}
use Rattle.lamp.specs.declared.Lamp.{Lamp}
use Rattle.lamp.specs.declared.Answer.{Answer}
use Rattle.lamp.specs.Valid.{lamp_valid}
use Rattle.lamp.specs.declared.Call.{Call}
use Rattle.lamp.specs.InRange.{InRangeLamp}
use Rattle.commands.specs.Answers.{answer, allowed}
use Rattle.schedule.specs.Calls.{next, after, accepts, InRangeCalls, quiet}
use Rattle.schedule.specs.Schedule.{HueCommand, as_request}
use Rattle.schedule.specs.Claim.{move_to, start_of}

pub record Fade : Type 0 where
  pub lamp : Lamp
  pub before : List Call
  -- the command, and the on or off and the clock that it is given with
  pub move : HueCommand
  pub on_off : OnOff
  pub clock : ℕ
  pub between : List Call
  -- the clock of the start
  pub start : ℕ
  pub calls : List Call

-- ---- its parts

-- the lamp that the command finds, and its hue
abbrev pub finds : Fade → Lamp
finds e = after e.lamp e.before

abbrev pub found : Fade → ℕ
found e = (finds e).color.hue

abbrev pub command_call : Fade → Call
command_call e = move_to e.move e.on_off e.clock

-- the lamp that the start finds
abbrev pub ready : Fade → Lamp
ready e = after (next (finds e) (command_call e)) e.between

abbrev pub start_call : Fade → Call
start_call e = start_of e.move (finds e) e.start

-- the answer to the start, and the lamp after the calls `ys` that follow it
abbrev pub begun : Fade → Answer
begun e = answer (ready e) (start_call e)

abbrev pub later : Fade → List Call → Lamp
later e ys = after (begun e).lamp ys

-- the whole list
abbrev pub list_of : Fade → List Call
list_of e = e.before ++ (command_call e ∷ (e.between ++ (start_call e ∷ e.calls)))

-- ---- the claim's premises

-- but for the hue at the start: lamp valid, lamp and calls in range, the command accepted and may execute, the start
-- accepted, and no other accepted start, halt or colour-loop command after it
pub record PremisedButHue (e : Fade) : Type 0 where
  pub valid : lamp_valid e.lamp ≡ true
  pub in_range_lamp : InRangeLamp e.lamp
  pub in_range_calls : InRangeCalls (list_of e)
  pub accepted : accepts (finds e) (command_call e) ≡ true
  pub may_execute : allowed (finds e) (as_request e.move) e.on_off ≡ true
  pub started : accepts (ready e) (start_call e) ≡ true
  pub undisturbed : quiet (begun e).lamp e.calls ≡ true

-- all of them: at the start the hue is as the command found it
pub record Premised (e : Fade) : Type 0 where
  pub others : PremisedButHue e
  pub hue : (ready e).color.hue ≡ found e
