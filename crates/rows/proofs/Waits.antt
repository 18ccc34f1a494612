-- A step that leaves its lamp running asks for a wait, and one that ends asks for none; a row call's wait is the least that its
-- lamps ask, so it is 0 exactly where nothing runs after it.
use Rattle.matter.specs.Causes.{accepted}
use Prim.Native.Nat.{ℕ, zero, suc, ◌-◌, ◌≤◌, ◌<◌}
use mathlib.Core.Bool.{Bool, true, false, true≢false}
use mathlib.Core.List.{List, [], ◌∷◌}
use mathlib.Core.Logic.{◌↔◌}
use mathlib.Core.Path.{◌≡◌, refl, sym, ◌∙◌}
use native.Mathlib.Nat.{mod-lt}
use native.Mathlib.Omega.{arith}
use lib.Dec.{leb, eqb}
use lib.ListN.{length, get_or}
use lib.Seq.{get_or-take}
use borrow.Author.Tests.{leb-true, leb-false, eqb-true, eqb-false}
use Rattle.progress.specs.Progress.{permille_of, end_wait, turn_wait}
use Rattle.progress.proofs.Laws.{permille-full, loop-takes-time}
use Rattle.tasks.specs.declared.Running.{Running}
use Rattle.tasks.specs.Runs.{runs}
use Rattle.lamp.specs.declared.Lamp.{Lamp}
use Rattle.lamp.specs.declared.Call.{Call}
use Rattle.lamp.specs.Answers.{at_clock, first_cause}
use Rattle.lamp.specs.Passes.{found_in, unless, waiting, timed, hue_passed, saturation_passed, temperature_passed, loop_passed}
use Rattle.lamp.specs.Calls.{done, stepped, step_cause, step_answer}
use Rattle.commands.specs.Answers.{answer}
use Rattle.rows.specs.declared.Row.{Row}
use Rattle.rows.specs.Rows.{no_lamp, lamp_at, placed, visited, lesser, least_wait, row_cause, row_stepped}
use Rattle.rows.proofs.Laws.{InRow, Room, either, visited-step, accepted-first, accepted-few, placed-many, row-lamp}

-- what an effect asks for is a wait exactly where it leaves its lamp running
pub record Asks (run : Running) (wait : ℕ) : Type 0 where
  pub some : runs run ≡ true → 0 < wait
  pub none : runs run ≡ false → wait ≡ 0

by_end : (end : Bool) (run : Running) (wait : ℕ) → runs run ≡ true → (end ≡ false → 0 < wait) → Asks (unless end run) (waiting end wait)
by_end true run wait r w = record { some = λ e. absurd (true≢false (sym e)); none = λ e. refl }
by_end false run wait r w = record { some = λ e. w refl; none = λ e. absurd (true≢false (sym r ∙ e)) }

-- before its end a move-to has time left
time-left : (elapsed ms : ℕ) → leb 1000 (permille_of elapsed ms) ≡ false → 0 < end_wait elapsed ms
time-left elapsed ms e =
    either (leb ms elapsed)
    (λ h. absurd (omega (arith, leb-false 1000 (permille_of elapsed ms) e, permille-full elapsed ms (leb-true ms elapsed h))))
    (λ h. omega (arith, leb-false ms elapsed h))

turn-left : (elapsed seconds : ℕ) → 0 < turn_wait elapsed seconds
turn-left elapsed seconds = omega (arith, mod-lt elapsed (loop-takes-time seconds))

pub step-asks : (l : Lamp) (r : Running) → Asks (stepped l r).lamp.running (stepped l r).wait
unfolding stepped timed hue_passed saturation_passed temperature_passed loop_passed
step-asks l Running.Idle = record { some = λ e. absurd (true≢false (sym e)); none = λ e. refl }
step-asks l (Running.HueSaturationMoveTo run) =
    by_end _ (Running.HueSaturationMoveTo run) _ refl (time-left (l.clock - run.start) run.task.ms)
step-asks l (Running.HueMove run) = by_end false (Running.HueMove run) 100 refl (λ e. omega arith)
step-asks l (Running.SaturationMove run) = by_end (saturation_passed (found_in l) run).ends (Running.SaturationMove run) 100 refl (λ e. omega arith)
step-asks l (Running.ColorTemperatureMoveTo run) =
    by_end _ (Running.ColorTemperatureMoveTo run) _ refl (time-left (l.clock - run.start) run.task.ms)
step-asks l (Running.ColorTemperatureMove run) = by_end (temperature_passed (found_in l) run).ends (Running.ColorTemperatureMove run) 100 refl (λ e. omega arith)
step-asks l (Running.ColorLoop direction hue seconds start) =
    by_end false (Running.ColorLoop direction hue seconds start) _ refl (λ e. turn-left (l.clock - start) seconds)

accepted-step : (l : Lamp) (clock : ℕ) → step_cause l clock ≡ accepted → step_answer l clock ≡ done (stepped (at_clock l clock) l.running)
unfolding step_answer
accepted-step l clock e = rw e

-- an accepted visit
pub visit-asks : (l : Lamp) (clock : ℕ) → (runs l.running ≡ true → step_cause l clock ≡ accepted) → Asks (visited l clock).lamp.running (visited l clock).wait
unfolding visited
visit-asks l clock e =
    either (runs l.running) (λ r. rw (r, accepted-step l clock (e r)) (step-asks (at_clock l clock) l.running))
    (λ r. rw r (record { some = λ h. absurd (true≢false (sym h ∙ r)); none = λ h. refl }))

-- in an accepted row call the own step of each lamp asks for a wait exactly where that lamp runs on
step-cause : (l : Lamp) (clock : ℕ) → runs l.running ≡ true → step_cause l clock ≡ first_cause l clock
unfolding first_cause
step-cause l clock e = rw e

pub place-asks : (r : Row) (size clock k : ℕ) → InRow k r → row_cause r size clock ≡ accepted →
    Asks (lamp_at (row_stepped r size clock).row k).running (answer (lamp_at r k) (Call.Step clock)).wait
place-asks r size clock k h e =
    let l = lamp_at r k in
    rw (row-lamp r size clock k h e, ← (visited-step l clock).0, ← (visited-step l clock).2)
    (visit-asks l clock (λ b. step-cause l clock b ∙ accepted-first r size clock k h e))

-- ---- the row's wait is the least of these

lesser-low : (a b : ℕ) →
    (0 < a → (0 < lesser a b) × (lesser a b ≤ a)) × (0 < b → (0 < lesser a b) × (lesser a b ≤ b))
unfolding lesser
lesser-low zero b = (λ h. absurd (omega arith), λ h. (omega arith, omega arith))
lesser-low (suc a) zero = (λ h. (omega arith, omega arith), λ h. absurd (omega arith))
lesser-low (suc a) (suc b) = (λ h. (omega arith, omega arith), λ h. (omega arith, omega arith))

lesser-one : (a b : ℕ) → (lesser a b ≡ a → ⊥) → lesser a b ≡ b
unfolding lesser
lesser-one zero b n = refl
lesser-one (suc a) zero n = absurd (n refl)
lesser-one (suc a) (suc b) n = omega (arith, n)

least-low : (clock k : ℕ) (ls : List Lamp) → k < length ls → 0 < (visited (get_or ls k no_lamp) clock).wait →
    (0 < least_wait clock ls) × (least_wait clock ls ≤ (visited (get_or ls k no_lamp) clock).wait)
least-low clock k [] h w = absurd (omega arith)
least-low clock zero (l ∷ ls) h w = (lesser-low (visited l clock).wait (least_wait clock ls)).0 w
least-low clock (suc k) (l ∷ ls) h w =
    let rest = least-low clock k ls (omega arith) w in
    let low = (lesser-low (visited l clock).wait (least_wait clock ls)).1 rest.0 in
    (low.0, omega (arith, low.1, rest.1))

record AskedIn (clock : ℕ) (ls : List Lamp) : Type 0 where
  place : ℕ
  there : place < length ls
  asks : (visited (get_or ls place no_lamp) clock).wait ≡ least_wait clock ls

least-asked : (clock : ℕ) (ls : List Lamp) → 0 < least_wait clock ls → AskedIn clock ls
least-asked clock [] h = absurd (omega arith)
least-asked clock (l ∷ ls) h =
    let a = (visited l clock).wait in
    let b = least_wait clock ls in
    either (eqb (lesser a b) a)
    (λ e. record { place = 0; there = omega arith; asks = sym (eqb-true (lesser a b) a e) })
    (λ e. let same = lesser-one a b (eqb-false (lesser a b) a e) in
    let later = least-asked clock ls (omega (arith, same, h)) in
    record { place = suc later.place; there = omega (arith, later.there); asks = later.asks ∙ sym same })

-- the visit of a place is the own step of its lamp
place-wait : (r : Row) (clock k : ℕ) → k < r.count → (visited (get_or (placed r) k no_lamp) clock).wait ≡ (answer (lamp_at r k) (Call.Step clock)).wait
place-wait r clock k there = rw (get_or-take r.count r.lamps k no_lamp there) (visited-step (lamp_at r k) clock).2

row-wait : (r : Row) (size clock : ℕ) → row_cause r size clock ≡ accepted → (row_stepped r size clock).wait ≡ least_wait clock (placed r)
unfolding row_stepped
row-wait r size clock e = rw e

-- it is at most what each lamp that runs on asks, and no lamp runs on where it is 0
pub wait-low : (r : Row) (size clock k : ℕ) → InRow k r → row_cause r size clock ≡ accepted →
    runs (lamp_at (row_stepped r size clock).row k).running ≡ true →
    (0 < (row_stepped r size clock).wait) × ((row_stepped r size clock).wait ≤ (answer (lamp_at r k) (Call.Step clock)).wait)
wait-low r size clock k h e running =
    let own = place-wait r clock k h.there in
    let some = (place-asks r size clock k h e).some running in
    rw (row-wait r size clock e, ← own)
    (least-low clock k (placed r) (omega (arith, placed-many r h.room, h.there)) (omega (arith, own, some)))

-- and where it is not 0, one of them asks it
pub record AskedAt (r : Row) (size clock : ℕ) : Type 0 where
  pub place : ℕ
  pub there : place < r.count
  pub asks : (answer (lamp_at r place) (Call.Step clock)).wait ≡ (row_stepped r size clock).wait

pub wait-asked : (r : Row) (size clock : ℕ) → length r.lamps ≡ 32 → row_cause r size clock ≡ accepted →
    0 < (row_stepped r size clock).wait → AskedAt r size clock
wait-asked r size clock len e h =
    let same = row-wait r size clock e in
    let found = least-asked clock (placed r) (omega (arith, same, h)) in
    let there : found.place < r.count =
    omega (arith, found.there, placed-many r (record { few = accepted-few r size clock e; places = len }))
    in
    record { place = found.place; there = there; asks = sym (place-wait r clock found.place there) ∙ found.asks ∙ sym same }

-- so it is 0 exactly where nothing runs after the call
pub row-no-wait : (r : Row) (size clock : ℕ) → length r.lamps ≡ 32 → row_cause r size clock ≡ accepted →
    ((row_stepped r size clock).wait ≡ 0)
    ↔ ((k : ℕ) → k < r.count → runs (lamp_at (row_stepped r size clock).row k).running ≡ false)
row-no-wait r size clock len e =
    let room : Room r = record { few = accepted-few r size clock e; places = len } in (
      λ z k there.
          either (runs (lamp_at (row_stepped r size clock).row k).running)
          (λ b. absurd (omega (arith, (wait-low r size clock k (record { there = there; room = room }) e b).0, z)))
          (λ b. b),
      λ none.
          either (eqb (row_stepped r size clock).wait 0)
          (λ z. eqb-true _ _ z)
          (λ z. let a = wait-asked r size clock len e (omega (arith, eqb-false (row_stepped r size clock).wait 0 z)) in
          let no = (place-asks r size clock a.place (record { there = a.there; room = room }) e).none (none a.place a.there) in
          absurd (omega (arith, a.asks, no, eqb-false (row_stepped r size clock).wait 0 z))),
    )
