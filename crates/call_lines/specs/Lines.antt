-- The lines of calls, by their first words, and what a lamp answers.
use Rattle.std.specs.Prelude.{ℕ, List, [], ◌∷◌}
use Rattle.matter.specs.Causes.{accepted}
use Rattle.tasks.specs.declared.Running.{Running}
use Rattle.lamp.specs.declared.Answer.{Answer}
use Rattle.lamp.specs.declared.Call.{Call}
use Rattle.lamp.specs.declared.Lamp.{Lamp}
use Rattle.std.specs.Prelude.{Result}
use Rattle.matter.specs.declared.refusals.Refusal.{Refusal}
use Rattle.lamp.specs.Answers.{unchanged}
use Rattle.lamp.specs.Making.{making}
use Rattle.lamp.specs.Passes.{changed}
use Rattle.commands.specs.Answers.{answer}
use Rattle.text.specs.Readers.{Reader, give, ◌then◌, number8, number32, number64, Row, ◌means◌, named, unknown}
use Rattle.lamp_lines.specs.Fields.{bounds_at, idle_lamp_at}
use Rattle.lamp_lines.specs.Records.{running_at}
use Rattle.call_lines.specs.declared.setters.Setting.{Setting}
use Rattle.call_lines.specs.declared.lines.Making.{Making}
use Rattle.call_lines.specs.declared.lines.OnLamp.{OnLamp}
use Rattle.call_lines.specs.declared.lines.Line.{Line}
use Rattle.call_lines.specs.Calls.{invoke_at, begin_at, step_at, halt_at, set_bounds_at}
use Rattle.call_lines.specs.Leaves.{leaf_at}
use Rattle.call_lines.specs.Setters.{setting_at, setting_answer}

-- ---- what a line asks for

-- on the lamp there is
abbrev pub call_line : Call → Line
call_line call = Line.OnLamp (OnLamp.Call call)

abbrev pub poke_line : Lamp → Line
poke_line fields = Line.OnLamp (OnLamp.Poke fields)

abbrev pub record_line : Running → Line
record_line running = Line.OnLamp (OnLamp.Record running)

abbrev pub set_line : Setting → Line
set_line setting = Line.OnLamp (OnLamp.Set setting)

-- <min> <max> <features> <options> <clock>
unfoldable pub making_at : Reader Line
making_at =
    give
    (λ bounds features options clock.
    Line.New (record { bounds = bounds; features = features; options = options; clock = clock }))
    then bounds_at then number32 then number8 then number64

abbrev pub lines : List (Row Line)
lines =
    "cmd" means (give call_line then invoke_at)
    ∷ "step" means (give call_line then step_at)
    ∷ "startlast" means (give Line.StartLast then number64)
    ∷ "start" means (give call_line then begin_at)
    ∷ "halt" means (give call_line then halt_at)
    ∷ "bounds" means (give call_line then set_bounds_at)
    ∷ "leaf" means (give Line.Ask then leaf_at)
    ∷ "set" means (give set_line then setting_at)
    ∷ "lamp" means (give Line.Lamp then idle_lamp_at)
    ∷ "new" means making_at
    ∷ "poke" means (give poke_line then idle_lamp_at)
    ∷ "record" means (give record_line then running_at)
    ∷ "show" means give (Line.OnLamp OnLamp.Show)
    ∷ "help" means give Line.Help
    ∷ []

-- by the first word
unfoldable pub line_at : List ℕ → Reader Line
line_at = named lines unknown

-- ---- what a lamp answers

abbrev pub made : Making → Result Lamp Refusal
made m = making m.bounds m.features m.options m.clock

-- a lamp that was put in place or shown: nothing is reported
abbrev pub shown_answer : Lamp → Answer
shown_answer l = unchanged l accepted

-- the lamp with another running record
abbrev pub with_record : Lamp → Running → Lamp
with_record l running = changed l l.color running l.remaining

unfoldable pub on_lamp : Lamp → OnLamp → Answer
on_lamp l (OnLamp.Call call) = answer l call
on_lamp l (OnLamp.Poke fields) = shown_answer (with_record fields l.running)
on_lamp l (OnLamp.Record running) = shown_answer (with_record l running)
on_lamp l OnLamp.Show = shown_answer l
on_lamp l (OnLamp.Set setting) = setting_answer l setting
