-- What the lines of a row come to, and the texts of their answers: document 02, A.1 and A.3; docs/PROTOCOL.md.
use Rattle.tasks.specs.declared.Task.{Task}
use Rattle.std.specs.Prelude.{Option, Some, None, ℕ, zero, suc, ◌+◌, ◌*◌, ◌%◌, Bool, cond, ◌||◌}
use Rattle.std.specs.Prelude.{List, [], ◌∷◌, ◌++◌, ◌≡◌, leb, ltb, eqb, length, drop, replicate}
use Rattle.lamp.specs.declared.Answer.{Answer}
use Rattle.lamp.specs.declared.Call.{Call}
use Rattle.lamp.specs.declared.Lamp.{Lamp}
use Rattle.lamp.specs.Making.{fresh_lamp}
use Rattle.rows.specs.declared.Row.{Row}
use Rattle.rows.specs.declared.RowAnswer.{RowAnswer}
use Rattle.rows.specs.declared.RowStepped.{RowStepped}
use Rattle.rows.specs.Rows.{row_of, placed, row_stepped, row_bytes, lamp_at, answered_at, put_at, count_of, lowest_of}
use Rattle.std.specs.List.{fold}
use Rattle.text.specs.Ascii.{ascii}
use Rattle.text.specs.Digits.{decimal, spaced, spaced_or_dash, spaced_all, hex_text}
use Rattle.std.specs.Str.{bytes_eq}
use Rattle.lamp_lines.specs.Answers.{lamp_numbers, running_text, status_text, answer_text}
use Rattle.call_lines.specs.declared.lines.Line.{Line}
use Rattle.call_lines.specs.declared.lines.OnLamp.{OnLamp}
use Rattle.call_lines.specs.Lines.{shown_answer, on_lamp}
use Rattle.row_lines.specs.declared.answers.Asked.{Asked}
use Rattle.row_lines.specs.declared.answers.RowTurn.{RowTurn}
use Rattle.row_lines.specs.declared.lines.OnRow.{OnRow}
use Rattle.row_lines.specs.declared.lines.RowStep.{RowStep}

-- ---- the row in an answer

-- "each byte b of these texts makes h into (h × 31 + b) modulo 4,294,967,296"
unfoldable pub summed : ℕ → List ℕ → ℕ
summed h [] = h
summed h (b ∷ bs) = summed ((h * 31 + b) % 4294967296) bs

-- "the text `<fields> running` or `<fields> idle` with a newline behind it": no blank before the first field
unfoldable pub lamp_text : Lamp → List ℕ
lamp_text l = drop 1 (spaced_all (lamp_numbers l)) ++ running_text l.running ++ ascii "\n"

unfoldable pub lamps_text : List Lamp → List ℕ
lamps_text [] = []
lamps_text (l ∷ ls) = lamp_text l ++ lamps_text ls

-- "for each place of the row from 0 (at most 32 of them)", which is all that a row has
unfoldable pub row_sum : Row → ℕ
row_sum r = summed 0 (lamps_text (placed r))

-- <count> <word> <sum>: "The word is in decimal"
unfoldable pub row_text : Row → List ℕ
row_text r = spaced r.count ++ spaced r.running_mask ++ spaced (row_sum r)

-- | <row>
abbrev pub then_row : Row → List ℕ
then_row r = ascii " |" ++ row_text r

-- ---- what a line comes to

-- the row after it, the task that a lamp gave, and the answer
pub record Turn : Type 0 where
  pub row : Row
  pub task : Option Task
  pub text : List ℕ

-- what a function gives that puts its answer into a sink
abbrev pub Turned : {S : Type 0} → Turn → (S → ℕ → S) → S → S → RowTurn → Type 0
Turned t push old new r = (r.row ≡ t.row) × (r.task ≡ t.task) × (new ≡ fold push old t.text)

-- the row, no task
abbrev pub says : Row → List ℕ → Turn
says r text = record { row = r; task = None; text = text }

-- ok | <row>
abbrev pub shown_row : Row → Turn
shown_row r = says r (ascii "ok" ++ then_row r)

-- "`error` and changes nothing"
abbrev pub unread : Row → Turn
unread r = says r (ascii "error")

-- ---- making a row

-- "each as after `new 153 500 31 0 0`"
abbrev pub fresh_place : Lamp
fresh_place = fresh_lamp (record { min = 153; max = 500 }) 31 0 0

-- "Above 32: the count is kept, and there are lamps at places 0 to 31"
unfoldable pub fresh_row : ℕ → Row
fresh_row count = row_of count (replicate 32 fresh_place)

-- "another count, nothing else"
abbrev pub with_count : Row → ℕ → Row
with_count r count = record { count = count; running_mask = r.running_mask; lamps = r.lamps }

-- "sets the word, true or not"
abbrev pub with_mask : Row → ℕ → Row
with_mask r mask = record { count = r.count; running_mask = mask; lamps = r.lamps }

-- ---- how many are still turning, from the word alone

-- "`<count> <lowest>`, or `0 -`"
unfoldable pub turning_text : ℕ → List ℕ
turning_text mask = decimal (count_of mask) ++ spaced_or_dash (lowest_of mask)

-- ---- a row call

-- "its byte i is (fill + i) modulo 256 beforehand"
unfoldable pub lent_bytes : ℕ → ℕ → List ℕ
lent_bytes fill zero = []
lent_bytes fill (suc n) = fill % 256 ∷ lent_bytes (fill + 1) n

-- "two hexadecimal digits in small letters each, no blanks; `-` for one of length 0"
unfoldable pub slice_text : List ℕ → List ℕ
slice_text bytes = cond (eqb (length bytes) 0) (ascii " -") (ascii " " ++ hex_text bytes)

-- "`kept`: byte for byte what was lent; `written`: not"
unfoldable pub kept_text : List ℕ → ℕ → List ℕ
kept_text bytes fill = cond (bytes_eq bytes (lent_bytes fill (length bytes))) (ascii " kept") (ascii " written")

-- | <wait> | <slice> | kept or written
abbrev pub lent_text : ℕ → List ℕ → ℕ → List ℕ
lent_text wait bytes fill =
    ascii " |" ++ spaced wait ++ ascii " |" ++ slice_text bytes ++ ascii " |" ++ kept_text bytes fill

-- <status> | <row> | <wait> | <slice> | kept or written
unfoldable pub step_with : Row → ℕ → ℕ → ℕ → Turn
step_with r size fill clock =
    let stepped : RowStepped = row_stepped r size clock in
    says stepped.row
    (status_text stepped.verdict ++ then_row stepped.row
    ++ lent_text stepped.wait (row_bytes r (lent_bytes fill size) clock) fill)

-- "at most 1024 (above: `error`)"
unfoldable pub step_row : Row → RowStep → Turn
step_row r s = cond (ltb 1024 s.size) (unread r) (step_with r s.size s.fill s.clock)

-- ---- lines at a place

-- "`startlast` where no task was given" is an error
abbrev pub last_start : Option Task → ℕ → Option Asked
last_start None clock = None
last_start (Some task) clock = Some (Asked.Call (Call.Start task clock))

-- single calls; "edits and looks from outside"; "`at <place> set`, `new`, `drive`, `leaf`: `error`"
abbrev pub on_lamp_asked : OnLamp → Option Asked
on_lamp_asked (OnLamp.Call call) = Some (Asked.Call call)
on_lamp_asked (OnLamp.Poke fields) = Some (Asked.Edit (OnLamp.Poke fields))
on_lamp_asked (OnLamp.Record running) = Some (Asked.Edit (OnLamp.Record running))
on_lamp_asked OnLamp.Show = Some (Asked.Edit OnLamp.Show)
on_lamp_asked (OnLamp.Set setting) = None

abbrev pub asked_of : Line → Option Task → Option Asked
asked_of (Line.Lamp l) last = Some (Asked.Place l)
asked_of (Line.OnLamp what) last = on_lamp_asked what
asked_of (Line.StartLast clock) last = last_start last clock
asked_of (Line.New making) last = None
asked_of (Line.Ask leaf) last = None
asked_of Line.Help last = None

-- the answer of the lamp at the place, from the row's
abbrev pub lamp_answer : RowAnswer → ℕ → Answer
lamp_answer a place =
    record {
      verdict = a.verdict;
      lamp = lamp_at a.row place;
      notices = a.notices;
      task = a.task;
      wait = a.wait;
    }

-- "Where a single call is refused and there is no lamp to show (10, or a count above 32)"
abbrev pub lamp_hidden : ℕ → ℕ → Bool
lamp_hidden count place = ltb 32 count || leb count place

-- <the lamp's answer> | <row>
unfoldable pub called_at : Row → ℕ → Call → Turn
called_at r place call =
    let a : RowAnswer = answered_at r place call in
    record {
      row = a.row;
      task = a.task;
      text =
          cond (lamp_hidden r.count place) (status_text a.verdict ++ ascii " | - | - | - | 0 | -")
          (answer_text (lamp_answer a place))
          ++ then_row a.row;
    }

-- "No such lamp (place at or past the count, or past 31): `error`"
abbrev pub lamp_missing : ℕ → ℕ → Bool
lamp_missing count place = leb count place || leb 32 place

-- an edit's answer, and its lamp at the place
unfoldable pub edited_at : Row → ℕ → Answer → Turn
edited_at r place a =
    cond (lamp_missing r.count place) (unread r)
    (says (put_at r place a.lamp) (answer_text a ++ then_row (put_at r place a.lamp)))

-- of what is done on the lamp there
abbrev pub edited_on : Row → ℕ → OnLamp → Turn
edited_on r place what = edited_at r place (on_lamp (lamp_at r place) what)

unfoldable pub answered_place : Row → ℕ → Option Asked → Turn
answered_place r place (Some (Asked.Call call)) = called_at r place call
answered_place r place (Some (Asked.Place l)) = edited_at r place (shown_answer l)
answered_place r place (Some (Asked.Edit what)) = edited_on r place what
answered_place r place None = unread r

-- ---- the lines of the row that there is, where this task was given last

unfoldable pub on_row : Row → OnRow → Option Task → Turn
on_row r (OnRow.Count count) last = shown_row (with_count r count)
on_row r (OnRow.Mask mask) last = shown_row (with_mask r mask)
on_row r OnRow.Show last = shown_row r
on_row r (OnRow.Step s) last = step_row r s
on_row r OnRow.Turning last = says r (turning_text r.running_mask)
on_row r (OnRow.At a) last = answered_place r a.place (asked_of a.line last)
