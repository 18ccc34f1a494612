-- Why a call is refused: document 01's table, and document 02's additions, each cause with its number. 3, which was a
-- mired step's with lo above hi, no longer occurs (document 02, A.12) and stays free.
use Rattle.std.specs.Prelude.{ℕ, Result, Ok, Err}
use Rattle.matter.specs.declared.refusals.Refusal.{Refusal}

abbrev pub refusal_number : Refusal → ℕ
-- hue or saturation above 254, mireds 0
refusal_number Refusal.ConstraintError = 1
-- rate or step 0
refusal_number Refusal.InvalidCommand = 2
-- clock earlier than the lamp's, or above the limit
refusal_number Refusal.Clock = 4
-- physical minimum above maximum at making; document 02, A.9: "Crossed new bounds" too
refusal_number Refusal.CrossedBounds = 5
-- an invalid task
refusal_number Refusal.InvalidTask = 6
-- step while idle
refusal_number Refusal.StepWhileIdle = 7
-- an invalid lamp; document 02, A.1: of a row too, or a count above 32
refusal_number Refusal.InvalidLamp = 8
-- document 02, A.1: "9, slice shorter than 16 times the lamps"
refusal_number Refusal.ShortSlice = 9
-- document 02, A.1: "10, place not in the row"
refusal_number Refusal.NoPlace = 10
-- document 02, A.9: "18, a mired task is running"
refusal_number Refusal.MiredTaskRuns = 18

-- of a call: that it is accepted, or its cause
abbrev pub Verdict : Type 0
Verdict = Result Unit Refusal

abbrev pub accepted : Verdict
accepted = Ok tt

-- "Number": 0 is an accepted call's
abbrev pub number_of : Verdict → ℕ
number_of (Ok u) = 0
number_of (Err refusal) = refusal_number refusal

-- what there is where a call is accepted, or its cause
abbrev pub unless_refused : {A : Type 0} → Verdict → A → Result A Refusal
unless_refused (Ok u) a = Ok a
unless_refused (Err refusal) a = Err refusal

abbrev pub constraint_error : Verdict
constraint_error = Err Refusal.ConstraintError

abbrev pub invalid_command : Verdict
invalid_command = Err Refusal.InvalidCommand

abbrev pub clock_refused : Verdict
clock_refused = Err Refusal.Clock

abbrev pub crossed_bounds : Verdict
crossed_bounds = Err Refusal.CrossedBounds

abbrev pub invalid_task : Verdict
invalid_task = Err Refusal.InvalidTask

abbrev pub step_while_idle : Verdict
step_while_idle = Err Refusal.StepWhileIdle

abbrev pub invalid_lamp : Verdict
invalid_lamp = Err Refusal.InvalidLamp

abbrev pub short_slice : Verdict
short_slice = Err Refusal.ShortSlice

abbrev pub no_place : Verdict
no_place = Err Refusal.NoPlace

abbrev pub mired_task_runs : Verdict
mired_task_runs = Err Refusal.MiredTaskRuns
