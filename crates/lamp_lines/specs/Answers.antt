-- The texts of answers.
use Rattle.std.specs.Prelude.{Option, Some, None, ℕ, Bool, cond, List, [], ◌∷◌, ◌++◌, eqb, ℤ, take, Ok, Err}
use Rattle.matter.specs.Causes.{Verdict, refusal_number}
use Rattle.matter.specs.Numbers.{move_mode_number, loop_direction_number, color_mode_number, enhanced_color_mode_number}
use Rattle.notices.specs.declared.Notices.{Notices}
use Rattle.tasks.specs.declared.Running.{Running}
use Rattle.tasks.specs.declared.Task.{Task}
use Rattle.tasks.specs.Runs.{runs}
use Rattle.lamp.specs.declared.Answer.{Answer}
use Rattle.lamp.specs.declared.Lamp.{Lamp}
use Rattle.lamp.specs.declared.NumberedAnswer.{NumberedAnswer}
use Rattle.text.specs.Ascii.{ascii}
use Rattle.text.specs.Digits.{signed_decimal, spaced, spaced_or_dash, spaced_all}

-- a signed number behind a blank
unfoldable pub signed_text : ℤ → List ℕ
signed_text n = ascii " " ++ signed_decimal n

abbrev pub bit : Bool → ℕ
bit b = cond b 1 0

-- a lamp's fields, in the protocol's order
abbrev pub lamp_numbers : Lamp → List ℕ
lamp_numbers l =
    l.bounds.min ∷ l.bounds.max ∷ l.clock ∷ l.options ∷ l.remaining.tenths
    ∷ l.color.stamps.hue ∷ l.color.stamps.saturation ∷ l.color.stamps.mireds
    ∷ l.color.hue ∷ l.color.saturation ∷ l.color.mireds
    ∷ color_mode_number l.color.mode ∷ enhanced_color_mode_number l.color.emode
    ∷ bit l.looping.active ∷ loop_direction_number l.looping.direction
    ∷ l.looping.time ∷ l.looping.start ∷ l.looping.stored ∷ []

-- ---- notices, tasks

-- in their order; `-` where there is none
unfoldable pub notices_text : Notices → List ℕ
notices_text n = cond (eqb n.len 0) (ascii " -") (spaced_all (take n.len n.places))

abbrev pub delta_text : Option ℤ → List ℕ
delta_text None = ascii " -"
delta_text (Some delta) = signed_text delta

abbrev pub task_text : Task → List ℕ
task_text (Task.HueSaturationMoveTo t) =
    ascii " move_to" ++ delta_text t.delta ++ spaced_or_dash t.saturation
    ++ spaced_all (t.ms ∷ bit t.enhanced ∷ [])
task_text (Task.HueMove t) =
    ascii " hue_move" ++ spaced_all (move_mode_number t.direction ∷ t.rate ∷ bit t.enhanced ∷ [])
task_text (Task.SaturationMove t) = ascii " sat_move" ++ spaced_all (move_mode_number t.direction ∷ t.rate ∷ [])
task_text (Task.ColorTemperatureMoveTo t) = ascii " ct_to" ++ spaced_all (t.target ∷ t.ms ∷ [])
task_text (Task.ColorTemperatureMove t) =
    ascii " ct_move" ++ signed_text t.rate ++ spaced_all (t.min ∷ t.max ∷ [])
task_text (Task.ColorLoop t) = ascii " loop" ++ spaced_all (loop_direction_number t.direction ∷ t.seconds ∷ [])
task_text Task.Stop = ascii " stop"

abbrev pub given_text : Option Task → List ℕ
given_text None = ascii " -"
given_text (Some task) = task_text task

-- ---- answers

abbrev pub status_text : Verdict → List ℕ
status_text (Ok u) = ascii "ok"
status_text (Err refusal) = ascii "refused" ++ spaced_all (refusal_number refusal ∷ [])

-- the same of a number, whichever it is
abbrev pub numbered_status_text : ℕ → List ℕ
numbered_status_text number = cond (eqb number 0) (ascii "ok") (ascii "refused" ++ spaced_all (number ∷ []))

abbrev pub running_text : Running → List ℕ
running_text r = cond (runs r) (ascii " running") (ascii " idle")

-- <notices or -> | <task given or -> | <wait>
abbrev pub reported_text : Notices → Option Task → ℕ → List ℕ
reported_text notices task wait =
    ascii " |" ++ notices_text notices ++ ascii " |" ++ given_text task ++ ascii " |" ++ spaced wait

-- behind the status: | <fields> | <notices or -> | <task given or -> | <wait> | running or idle
unfoldable pub behind_status : Lamp → Notices → Option Task → ℕ → List ℕ
behind_status l notices task wait =
    ascii " |" ++ spaced_all (lamp_numbers l) ++ reported_text notices task wait ++ ascii " |" ++ running_text l.running

unfoldable pub answer_text : Answer → List ℕ
answer_text a = status_text a.verdict ++ behind_status a.lamp a.notices a.task a.wait

-- the same of an answer by its number
unfoldable pub numbered_answer_text : NumberedAnswer → List ℕ
numbered_answer_text a = numbered_status_text a.number ++ behind_status a.lamp a.notices a.task a.wait
