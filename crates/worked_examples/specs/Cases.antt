-- The cases marked K in document 01: what a case says, and the list of all of them. A case of a transition goes through
-- the command, its start and its steps.
use Rattle.std.specs.Prelude.{ℕ, ◌+◌, ◌<◌, Bool, true, false, not, cond, List, [], ◌∷◌, map, ◌≡◌}
use Rattle.std.specs.Prelude.{ℤ, pos, neg_ℤ, take, replicate, Option, Some, None, is_ok}
use Rattle.matter.specs.declared.enums.ColorLoopActionEnum.{ColorLoopActionEnum}
use Rattle.matter.specs.declared.enums.ColorLoopDirectionEnum.{ColorLoopDirectionEnum}
use Rattle.matter.specs.declared.commands.Command.{Command}
use Rattle.matter.specs.Requests.{request, no_options}
use Rattle.matter.specs.declared.enums.DirectionEnum.{DirectionEnum}
use Rattle.matter.specs.declared.enums.MoveModeEnum.{MoveModeEnum}
use Rattle.matter.specs.declared.enums.OnOff.{OnOff}
use Rattle.matter.specs.Causes.{Verdict, accepted, number_of, invalid_task}
use Rattle.hue.specs.declared.HuePath.{HuePath}
use Rattle.hue.specs.Hue.{hue_path}
use Rattle.progress.specs.Progress.{permille_of, part_of, tenths_of}
use Rattle.remaining_time.specs.RemainingTime.{reported}
use Rattle.tasks.specs.declared.Task.{Task}
use Rattle.tasks.specs.declared.Running.{Running}
use Rattle.tasks.specs.Runs.{runs}
use Rattle.lamp.specs.declared.Lamp.{Lamp}
use Rattle.lamp.specs.declared.Answer.{Answer}
use Rattle.lamp.specs.Answers.{unchanged}
use Rattle.lamp.specs.Making.{fresh_lamp}
use Rattle.lamp.specs.Calls.{start_answer, step_answer}
use Rattle.commands.specs.Answers.{command_answer}

-- ---- the lamp and its calls

-- "bounds 153 and 500, clock 5000, hue 0, mireds 250, on, XY mode"
abbrev pub lamp : Lamp
lamp = fresh_lamp (record { min = 153; max = 500 }) 31 0 5000

-- a command with neither option bit
abbrev pub plain : Lamp → Command → OnOff → ℕ → Answer
plain l c on_off clock = command_answer l (request c no_options) on_off clock

-- a command to a lamp that is on, at the lamp's clock
abbrev pub given : Lamp → Command → Answer
given l c = plain l c OnOff.On l.clock

-- a call behind another: where that one was refused, its refusal stays, so that number 0 at the end says that all were
-- accepted
unfoldable pub next : Answer → (Lamp → Answer) → Answer
next a call = cond (is_ok a.verdict) (call a.lamp) a

-- a start of the task that was given; where none was, no start is accepted
abbrev start_of : Option Task → Lamp → Answer
start_of None l = unchanged l invalid_task
start_of (Some task) l = start_answer l task l.clock

-- a command to a lamp, and its task started
abbrev pub started_on : Lamp → Command → Answer
started_on l c = next (given l c) (start_of (given l c).task)

-- behind a start, a step at each of these times after 5000, in turn
unfoldable pub steps_at : Answer → List ℕ → List Answer
steps_at a [] = []
steps_at a (elapsed ∷ later) =
    let stepped : Answer = next a (λ (l : Lamp). step_answer l (5000 + elapsed)) in
    stepped ∷ steps_at stepped later

-- the answers to the start and to the steps
abbrev pub answers_on : Lamp → Command → List ℕ → List Answer
answers_on l c times = started_on l c ∷ steps_at (started_on l c) times

abbrev pub answers : Command → List ℕ → List Answer
answers c times = answers_on lamp c times

-- moves to hue 128 in so many tenths, one behind the other: the answer to the last start
unfoldable pub fades : Answer → List ℕ → Answer
fades a [] = a
fades a (tenths ∷ later) =
    fades (next a (λ (l : Lamp). started_on l (Command.MoveToHue 128 DirectionEnum.Shortest tenths))) later

-- ---- what is seen of an answer

-- the notices, without the unused places
abbrev pub listed : Answer → List ℕ
listed a = take a.notices.len a.notices.places

abbrev pub idle : Answer → Bool
idle a = not (runs a.lamp.running)

-- its number, and a number of the lamp or the notices
abbrev hue_seen : Answer → ℕ × ℕ
hue_seen a = (number_of a.verdict, a.lamp.color.hue)

abbrev tenths_seen : Answer → ℕ × ℕ
tenths_seen a = (number_of a.verdict, a.lamp.remaining.tenths)

abbrev list_seen : Answer → ℕ × List ℕ
list_seen a = (number_of a.verdict, listed a)

-- and whether the lamp is idle
abbrev mireds_seen : Answer → ℕ × ℕ × Bool
mireds_seen a = (number_of a.verdict, a.lamp.color.mireds, idle a)

-- the lamp idle, all else as it was
abbrev pub idled : Lamp → Lamp
idled l =
    record {
      clock = l.clock;
      bounds = l.bounds;
      color = l.color;
      looping = l.looping;
      remaining = l.remaining;
      options = l.options;
      running = Running.Idle;
    }

-- no notice, task or wait: this verdict and this lamp
abbrev pub bare : Verdict → Lamp → Answer
bare verdict l =
    record {
      verdict = verdict;
      lamp = l;
      notices = record { places = replicate 16 0; len = 0 };
      task = None;
      wait = 0;
    }

-- ---- the cases

-- a number at an elapsed time; with it, whether the transition is done
abbrev Point : Type 0
Point = ℕ × ℕ

abbrev EndPoint : Type 0
EndPoint = ℕ × ℕ × Bool

pub data Case : Type 0 where
  -- from one hue to another, in a direction: the way, and whether it is a tie
  way : ℕ → ℕ → DirectionEnum → ℤ → Bool → Case
  -- "equal hues, any direction: 0"; document 02, A.6: and no tie
  equal_hues : Case
  -- a plain move to a hue: the number of the answer
  move_to_hue : ℕ → ℕ → Case
  -- a way, its time and the time elapsed: permille and part
  progress : ℤ → ℕ → ℕ → ℕ → ℤ → Case
  -- a command: the hue at its start, and at the times of steps
  hues : Command → ℕ → List Point → Case
  -- a command: the mireds at its start and whether it is done, and at the times of steps
  mireds : Command → ℕ × Bool → List EndPoint → Case
  -- a command: the remaining tenths at its start, and at the times of steps
  left : Command → ℕ → List Point → Case
  -- the old tenths and the new, and whether a transition starts: whether it is reported
  remaining : ℕ → ℕ → Bool → Bool → Case
  -- fades of so many tenths, started one behind the other: the notices of the last start
  start_reports : List ℕ → List ℕ → Case
  -- milliseconds: tenths
  tenths : ℕ → ℕ → Case
  -- a command to a lamp, started: nothing changes, and the lamp is idle
  stays : Lamp → Command → Case

-- permille and part of a way, by the sums alone
abbrev progress_of : ℤ → ℕ → ℕ → ℕ × ℤ
progress_of w time elapsed = (permille_of elapsed time, part_of w (permille_of elapsed time))

-- the answer of the distances
abbrev path : ℤ → Bool → HuePath
path delta tie = record { delta = delta; is_tie = tie }

-- what a case says of the definitions
abbrev pub Holds : Case → Type 0
Holds (way from to direction answer tie) = hue_path from to direction ≡ path answer tie
Holds equal_hues = (hue : ℕ) (direction : DirectionEnum) → hue < 65536 → hue_path hue hue direction ≡ path (pos 0) false
Holds (move_to_hue hue number) =
    number_of (given lamp (Command.MoveToHue hue DirectionEnum.Shortest 10)).verdict ≡ number
Holds (progress w time elapsed permille part) = progress_of w time elapsed ≡ (permille, part)
Holds (hues c start points) =
    map hue_seen (answers c (map (λ (p : Point). p.0) points)) ≡ ((0, start) ∷ map (λ (p : Point). (0, p.1)) points)
Holds (mireds c start points) =
    map mireds_seen (answers c (map (λ (p : EndPoint). p.0) points))
    ≡ ((0, start.0, start.1) ∷ map (λ (p : EndPoint). (0, p.1, p.2)) points)
Holds (left c start points) =
    map tenths_seen (answers c (map (λ (p : Point). p.0) points)) ≡ ((0, start) ∷ map (λ (p : Point). (0, p.1)) points)
Holds (remaining old new start answer) = reported old new start ≡ answer
Holds (start_reports times list) = list_seen (fades (bare accepted lamp) times) ≡ (0, list)
Holds (tenths ms answer) = tenths_of ms ≡ answer
Holds (stays l c) = started_on l c ≡ bare accepted (idled l)

-- every case of a list holds
abbrev pub Each : List Case → Type 0
Each [] = Unit
Each (c ∷ cs) = Holds c × Each cs

-- the colour loop from the hue that is shown, at a second a turn: flags for action, direction and time
abbrev pub loop : ColorLoopDirectionEnum → Command
loop direction = Command.ColorLoopSet 7 ColorLoopActionEnum.ActivateFromEnhancedCurrentHue direction 1 0

-- mireds up at 100 a second between two limits
abbrev pub up_between : ℕ → ℕ → Command
up_between min max = Command.MoveColorTemperature MoveModeEnum.Up 100 min max

-- a lamp whose loop is active, halfway through a move of hue and saturation (`BusyRuns` in Busy)
abbrev pub busy : Lamp
busy =
    (next
    (started_on (given lamp (loop ColorLoopDirectionEnum.Decrement)).lamp
    (Command.MoveToHueAndSaturation 128 100 11 false 0))
    (λ (l : Lamp). step_answer l 5550)).lamp

abbrev pub cases : List Case
cases =
    -- K1 and K2
    way 0 32768 DirectionEnum.Shortest (pos 32768) true
    ∷ way 0 32768 DirectionEnum.Longest (neg_ℤ (pos 32768)) true
    -- K3
    ∷ equal_hues
    -- K4
    ∷ move_to_hue 254 0
    ∷ move_to_hue 255 1
    -- K5: in 70 tenths from 0 up to 65,280
    ∷ progress (pos 65280) 7000 3000 428 (pos 27939)
    ∷ hues (Command.EnhancedMoveToHue 65280 DirectionEnum.Up 70) 0 ((3000, 27939) ∷ [])
    -- K6: in 10 tenths from 250 to 153
    ∷ progress (neg_ℤ (pos 97)) 1000 500 500 (neg_ℤ (pos 48))
    ∷ mireds (Command.MoveToColorTemperature 153 10) (250, false) ((500, 202, false) ∷ [])
    -- K7: the first two at a start or not
    ∷ remaining 0 10 false false
    ∷ remaining 0 10 true false
    ∷ start_reports (10 ∷ []) (15 ∷ [])
    ∷ remaining 0 11 false true
    ∷ remaining 0 11 true true
    ∷ start_reports (11 ∷ []) (1 ∷ 15 ∷ [])
    ∷ remaining 50 60 true false
    ∷ start_reports (50 ∷ 60 ∷ []) (15 ∷ [])
    ∷ remaining 50 61 true true
    ∷ start_reports (50 ∷ 61 ∷ []) (1 ∷ 15 ∷ [])
    -- K8: of 40 tenths, after 1 ms
    ∷ tenths 3999 40
    ∷ left (Command.MoveToHue 128 DirectionEnum.Shortest 40) 40 ((1, 40) ∷ [])
    -- K9
    ∷ hues (loop ColorLoopDirectionEnum.Increment) 0 ((994, 65142) ∷ (995, 0) ∷ (1005, 0) ∷ (1006, 393) ∷ [])
    ∷ hues (loop ColorLoopDirectionEnum.Increment) 0 ((5, 327) ∷ [])
    -- K10
    ∷ hues (loop ColorLoopDirectionEnum.Decrement) 0 ((1, 65471) ∷ [])
    -- K11
    ∷ mireds (up_between 0 200) (200, true) []
    ∷ stays lamp (up_between 500 0)
    ∷ stays busy (up_between 500 0)
    -- K12
    ∷ mireds (up_between 0 0) (250, false) ((100, 260, false) ∷ (2500, 500, true) ∷ [])
    ∷ []
