-- The calls of a lamp.
use Rattle.lamp.specs.declared.Call.{Call}
use Rattle.text.specs.Readers.{Reader, give, ◌then◌, number64, by_next}
use Rattle.lamp_lines.specs.Enums.{on_off_at}
use Rattle.lamp_lines.specs.Fields.{bounds_at}
use Rattle.lamp_lines.specs.Moves.{task_at}
use Rattle.call_lines.specs.Commands.{options_at, command_at}

-- <name> <on|off|none> <args> <mask> <override> <clock>
unfoldable pub invoke_at : Reader Call
invoke_at =
    by_next λ name.
    give (λ on_off command options clock. Call.Command (record { options = options; command = command }) on_off clock)
    then on_off_at then command_at name then options_at then number64

-- <task> <clock>
unfoldable pub begin_at : Reader Call
begin_at = give Call.Start then by_next task_at then number64

-- <clock>
unfoldable pub step_at : Reader Call
step_at = give Call.Step then number64

-- <clock>
unfoldable pub halt_at : Reader Call
halt_at = give Call.Halt then number64

-- <min> <max> <clock>
unfoldable pub set_bounds_at : Reader Call
set_bounds_at = give Call.SetBounds then bounds_at then number64
