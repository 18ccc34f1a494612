-- The table of causes (document 01, "Why a call is turned away"), as statements: each number in its cause and in no
-- other, for every call. For each kind of call the lines go through all cases of its tests, in the table's order, so
-- that no two of them meet and none is left out. 1 and 2 are as `checks` has them (`fields-agree` and
-- `invalid-agree` in `conformance`). And: no number is above 8 but 18, which is that of new bounds alone; no answer
-- uses more than 14 of its sixteen places, the rest being 0.
use Rattle.matter.specs.Causes.{number_of}
use Rattle.std.specs.Prelude.{ℕ, ◌≤◌, ◌<◌, true, false, List, ◌≡◌, length}
use Rattle.matter.specs.declared.commands.Command.{Command}
use Rattle.matter.specs.declared.commands.Request.{Request}
use Rattle.matter.specs.declared.enums.OnOff.{OnOff}
use Rattle.matter.specs.declared.limits.Bounds.{Bounds}
use Rattle.notices.specs.Notices.{noted}
use Rattle.tasks.specs.declared.Task.{Task}
use Rattle.tasks.specs.Valid.{task_valid}
use Rattle.tasks.specs.Runs.{runs, moves_mireds}
use Rattle.lamp.specs.declared.Lamp.{Lamp}
use Rattle.lamp.specs.declared.Answer.{Answer}
use Rattle.lamp.specs.Answers.{bad_clock}
use Rattle.lamp.specs.Making.{making_cause}
use Rattle.lamp.specs.Valid.{lamp_valid}
use Rattle.lamp.specs.declared.Call.{Call}
use Rattle.commands.specs.Commands.{checks}
use Rattle.commands.specs.Answers.{cause, answer}

-- steps 8, 7, 4; a step of a valid running lamp with a good clock is never refused
pub record StepCauses (l : Lamp) (clock : ℕ) : Type 0 where
  pub step-8 : lamp_valid l ≡ false → number_of (cause l (Call.Step clock)) ≡ 8
  pub step-7 : lamp_valid l ≡ true → runs l.running ≡ false → number_of (cause l (Call.Step clock)) ≡ 7
  pub step-4 : lamp_valid l ≡ true → runs l.running ≡ true → bad_clock l clock ≡ true →
      number_of (cause l (Call.Step clock)) ≡ 4
  pub step-0 : lamp_valid l ≡ true → runs l.running ≡ true → bad_clock l clock ≡ false →
      number_of (cause l (Call.Step clock)) ≡ 0

-- halts 8, 4
pub record HaltCauses (l : Lamp) (clock : ℕ) : Type 0 where
  pub halt-8 : lamp_valid l ≡ false → number_of (cause l (Call.Halt clock)) ≡ 8
  pub halt-4 : lamp_valid l ≡ true → bad_clock l clock ≡ true → number_of (cause l (Call.Halt clock)) ≡ 4
  pub halt-0 : lamp_valid l ≡ true → bad_clock l clock ≡ false → number_of (cause l (Call.Halt clock)) ≡ 0

-- starts 8, 4, 6
pub record StartCauses (l : Lamp) (clock : ℕ) (task : Task) : Type 0 where
  pub start-8 : lamp_valid l ≡ false → number_of (cause l (Call.Start task clock)) ≡ 8
  pub start-4 : lamp_valid l ≡ true → bad_clock l clock ≡ true → number_of (cause l (Call.Start task clock)) ≡ 4
  pub start-6 : lamp_valid l ≡ true → bad_clock l clock ≡ false → task_valid task ≡ false →
      number_of (cause l (Call.Start task clock)) ≡ 6
  pub start-0 : lamp_valid l ≡ true → bad_clock l clock ≡ false → task_valid task ≡ true →
      number_of (cause l (Call.Start task clock)) ≡ 0

-- new bounds 8, 4, 5, 18 (document 02, A.9)
pub record BoundsCauses (l : Lamp) (clock : ℕ) (bounds : Bounds) : Type 0 where
  pub bounds-8 : lamp_valid l ≡ false → number_of (cause l (Call.SetBounds bounds clock)) ≡ 8
  pub bounds-4 : lamp_valid l ≡ true → bad_clock l clock ≡ true → number_of (cause l (Call.SetBounds bounds clock)) ≡ 4
  pub bounds-5 : lamp_valid l ≡ true → bad_clock l clock ≡ false → bounds.max < bounds.min →
      number_of (cause l (Call.SetBounds bounds clock)) ≡ 5
  pub bounds-18 : lamp_valid l ≡ true → bad_clock l clock ≡ false → bounds.min ≤ bounds.max →
      moves_mireds l.running ≡ true → number_of (cause l (Call.SetBounds bounds clock)) ≡ 18
  pub bounds-0 : lamp_valid l ≡ true → bad_clock l clock ≡ false → bounds.min ≤ bounds.max →
      moves_mireds l.running ≡ false → number_of (cause l (Call.SetBounds bounds clock)) ≡ 0

-- commands 8, 4, Stop mode, the command's own numbers (1 or 2, or no cause), on or off
pub record CommandCauses (l : Lamp) (clock : ℕ) (r : Request) (on_off : OnOff) : Type 0 where
  pub command-8 : lamp_valid l ≡ false → number_of (cause l (Call.Command r on_off clock)) ≡ 8
  pub command-4 : lamp_valid l ≡ true → bad_clock l clock ≡ true → number_of (cause l (Call.Command r on_off clock)) ≡ 4
  pub command-stop : lamp_valid l ≡ true → bad_clock l clock ≡ false → (checks r.command).stop ≡ true →
      number_of (cause l (Call.Command r on_off clock)) ≡ 0
  pub command-own : lamp_valid l ≡ true → bad_clock l clock ≡ false → (checks r.command).stop ≡ false →
      cause l (Call.Command r on_off clock) ≡ (checks r.command).cause

-- an answer's list is some list of at most 14 in its places, with zeros behind
pub record Few (a : Answer) : Type 0 where
  pub reported : List ℕ
  pub listed : a.notices ≡ noted reported
  pub few : length reported ≤ 14

pub record TableOfCauses : Type 0 where
  pub steps : (l : Lamp) (clock : ℕ) → StepCauses l clock
  pub halts : (l : Lamp) (clock : ℕ) → HaltCauses l clock
  pub starts : (l : Lamp) (clock : ℕ) (task : Task) → StartCauses l clock task
  pub commands : (l : Lamp) (clock : ℕ) (r : Request) (on_off : OnOff) → CommandCauses l clock r on_off
  pub bounds : (l : Lamp) (clock : ℕ) (bounds : Bounds) → BoundsCauses l clock bounds
  -- a command's own numbers give 1, 2 or no cause
  pub own : (c : Command) → number_of (checks c).cause ≤ 2
  -- with `bounds`: 18 is of new bounds alone
  pub most : (l : Lamp) (x : Call) → ((new : Bounds) (clock : ℕ) → x ≡ Call.SetBounds new clock → ⊥) →
      number_of (cause l x) ≤ 8
  -- document 02, A.12: "Number 3 no longer occurs"
  pub no-3 : (l : Lamp) (x : Call) → number_of (answer l x).verdict ≡ 3 → ⊥
  pub making-no-3 : (bounds : Bounds) (clock : ℕ) → number_of (making_cause bounds clock) ≡ 3 → ⊥
  pub few : (l : Lamp) (x : Call) → Few (answer l x)
