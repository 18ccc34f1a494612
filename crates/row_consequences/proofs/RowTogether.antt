-- *Together* for rows, proved: a step at the row call's clock shows each fade at that clock, whether its lamp still runs or is done.
use Rattle.std.specs.Prelude.{is_ok}
use Prim.Native.Nat.{ℕ, ◌+◌, ◌-◌, ◌≤◌}
use mathlib.Core.Bool.{true, false, not, ◌&&◌, or-true, true≢false}
use mathlib.Core.List.{List, [], ◌∷◌, ◌++◌, append-nil}
use mathlib.Core.Path.{◌≡◌, refl, sym, ap, ◌∙◌, subst}
use native.Mathlib.Omega.{arith}
use lib.Dec.{leb, eqb}
use lib.IntN.{nat_abs}
use borrow.Author.Tests.{leb-true, le-leb, eqb-true}
use Rattle.matter.specs.Causes.{accepted}
use Rattle.matter.proofs.Laws.{and_left, and_right}
use Rattle.tasks.specs.Runs.{runs}
use Rattle.lamp.specs.declared.Lamp.{Lamp}
use Rattle.lamp.specs.declared.Answer.{Answer}
use Rattle.lamp.specs.declared.Call.{Call}
use Rattle.lamp.specs.Answers.{first_cause}
use Rattle.lamp.specs.Valid.{lamp_valid}
use Rattle.commands.specs.Answers.{answer, clock_of}
use Rattle.commands.proofs.Kept.{valid-kept, accepted-clock}
use Rattle.schedule.specs.Calls.{next, after, accepts, idle, accepted_step, is_step, interrupts, quiet, reached}
use Rattle.schedule.specs.Schedule.{Fed, Shown, time, delta_from, over, shown_at}
use Rattle.schedule.specs.Claim.{fed}
use Rattle.schedule.specs.Fades.{Fade, finds, command_call, ready, start_call, begun, later, list_of, Premised}
use Rattle.schedule.proofs.Accepts.{timely, accepts-is, no-cause, refused-keeps}
use Rattle.schedule.proofs.Lists.{after-append, after_one, scheduled-one, in-range-split, valid-after}
use Rattle.consequences.specs.Together.{Alike}
use Rattle.consequences.proofs.Kept.{kept}
use Rattle.rows.specs.declared.Row.{Row}
use Rattle.rows.specs.Rows.{lamp_at, row_cause}
use Rattle.rows.proofs.Laws.{either, row-lamp, accepted-first, first-none, idle-answer}
use Rattle.rows.proofs.Visiting.{step-number}
use Rattle.row_schedule.specs.RowCalls.{RowCall, each, after_row}
use Rattle.row_schedule.specs.RowClaim.{RowValid}
use Rattle.row_schedule.proofs.Lists.{after-row-append, its-calls, kept-after}
use Rattle.row_schedule.proofs.Keeps.{in_row, in_true_row, in-range-append}
use Rattle.row_consequences.specs.RowTogether.{FadeAt, RowTogether}

-- ---- the clock of a lamp never goes back

grows : (l : Lamp) (x : Call) → lamp_valid l ≡ true → l.clock ≤ (next l x).clock
grows l x v =
    either (accepts l x)
    (λ a. let t : timely l.clock (clock_of x) ≡ true = and_left _ _ (sym (accepts-is l x v) ∙ a) in
    omega (arith, leb-true l.clock (clock_of x) (and_left (leb l.clock (clock_of x)) _ t), accepted-clock l x (no-cause l x a)))
    (λ a. rw (refused-keeps l x a) (omega arith))

grows-after : (l : Lamp) (xs : List Call) → lamp_valid l ≡ true → l.clock ≤ (after l xs).clock
unfolding after
grows-after l [] v = omega arith
grows-after l (x ∷ xs) v = omega (arith, grows l x v, grows-after (next l x) xs (valid-kept l x v))

-- so a step that reached a clock leaves the lamp there or later
late : (clock : ℕ) (l : Lamp) (xs : List Call) → lamp_valid l ≡ true → reached clock l xs ≡ true → clock ≤ (after l xs).clock
unfolding reached after
late clock l [] v e = absurd (true≢false (sym e))
late clock l (x ∷ xs) v e =
    either (accepted_step l x && leb clock (clock_of x))
    (λ b. let a : accepts l x ≡ true = and_right (is_step x) _ (and_left (accepted_step l x) _ b) in
    omega (arith, leb-true clock (clock_of x) (and_right (accepted_step l x) _ b), accepted-clock l x (no-cause l x a), grows-after (next l x) xs (valid-kept l x v)))
    (λ b. late clock (next l x) xs (valid-kept l x v) (rw b at e))

-- ---- a fade with one step more

quiet_step : (l : Lamp) (xs : List Call) (clock : ℕ) → quiet l xs ≡ true → quiet l (xs ++ (Call.Step clock ∷ [])) ≡ true
unfolding quiet
quiet_step l [] clock q = refl
quiet_step l (x ∷ xs) clock q =
    rw (and_left (not (interrupts x && accepts l x)) _ q, quiet_step (next l x) xs clock (and_right (not (interrupts x && accepts l x)) _ q))

abbrev step_on : Fade → ℕ → Fade
step_on e clock =
    record {
      lamp = e.lamp;
      before = e.before;
      move = e.move;
      on_off = e.on_off;
      clock = e.clock;
      between = e.between;
      start = e.start;
      calls = e.calls ++ (Call.Step clock ∷ []);
    }

-- the whole list leaves the lamp that the calls behind the start leave
list-later : (e : Fade) → after e.lamp (list_of e) ≡ later e e.calls
unfolding after
list-later e =
    after-append e.lamp e.before _ ∙ after-append (next (finds e) (command_call e)) e.between (start_call e ∷ e.calls)

-- an idle lamp refuses a step, and stays
idle-next : (l : Lamp) (clock : ℕ) → runs l.running ≡ false → next l (Call.Step clock) ≡ l
unfolding answer
idle-next l clock r = ap (λ (a : Answer). a.lamp) (idle-answer l clock r)

-- a lamp shows a fade as at a clock
abbrev ShowsAt : Fed → ℕ → Lamp → Type 0
ShowsAt f clock l =
    (l.color.hue ≡ (shown_at f clock).hue) × (l.remaining.tenths ≡ (shown_at f clock).remaining) × (idle l ≡ (shown_at f clock).done)

module _ (e : Fade) (p : Premised e) (clock : ℕ) (first : first_cause (later e e.calls) clock ≡ accepted) where
  abbrev l : Lamp
  l = later e e.calls

  abbrev f : Fed
  f = fed e.move (finds e) e.start

  on : Premised (step_on e clock)
  on =
      let q = p.others in
      let t = in-range-split e.before _ q.in_range_calls in
      let u = in-range-split e.between _ t.1.1 in
      let small = (first-none l clock first).1 in
      record {
        others =
            record {
              valid = q.valid;
              in_range_lamp = q.in_range_lamp;
              in_range_calls =
                  in-range-append e.before _ t.0
                  (t.1.0, in-range-append e.between _ u.0 (u.1.0, in-range-append e.calls _ u.1.1 (omega (arith, small), tt)));
              accepted = q.accepted;
              may_execute = q.may_execute;
              started = q.started;
              undisturbed = quiet_step (begun e).lamp e.calls clock q.undisturbed;
            };
        hue = p.hue;
      }

  -- where the lamp is done, the fade is over at the step's clock
  over-then : idle l ≡ true → over f (clock - e.start) ≡ true
  over-then i =
      let q = p.others in
      let done = sym ((kept (step_on e clock) on).everywhere e.calls (Call.Step clock ∷ []) refl).done ∙ i in
      let valid = valid-kept (ready e) (start_call e) (valid-after _ e.between (valid-kept (finds e) (command_call e) (valid-after e.lamp e.before q.valid))) in
      either (eqb (nat_abs (delta_from e.move (finds e).color.hue)) 0)
      (λ w. rw (w, or-true))
      (λ w. either (eqb (time e.move) 0)
      (λ z. rw (le-leb (time e.move) (clock - e.start) (omega (arith, eqb-true (time e.move) 0 z))))
      (λ z. let r : reached (e.start + time e.move) (begun e).lamp e.calls ≡ true = rw (z, w) at done in
      rw (le-leb (time e.move) (clock - e.start) (omega (arith, late (e.start + time e.move) (begun e).lamp e.calls valid r, (first-none l clock first).0)))))

  done-shows : idle l ≡ true → ShowsAt f clock l
  unfolding shown_at
  done-shows i =
      let end = ((kept (step_on e clock) on).everywhere e.calls (Call.Step clock ∷ []) refl).end i in
      rw (over-then i) (end.0, end.1, i)

  -- a step at the clock shows the fade as at that clock
  shows : ShowsAt f clock (next l (Call.Step clock))
  unfolding answer
  shows =
      either (runs l.running)
      (λ r.
      let k = kept (step_on e clock) on in
      let agrees = (k.everywhere (e.calls ++ (Call.Step clock ∷ [])) [] (sym (append-nil (e.calls ++ (Call.Step clock ∷ []))))).agrees in
      let taken = sym (k.every_call e.calls (Call.Step clock) [] refl).accepted ∙ ap is_ok (step-number l clock r ∙ first) in
      let at = rw (after_one (begun e).lamp e.calls (Call.Step clock), scheduled-one f (shown_at f e.start) e.calls (Call.Step clock), taken) at agrees in
      (at.hue, at.remaining, at.done))
      (λ r. subst (ShowsAt f clock) (sym (idle-next l clock r)) (done-shows (rw r)))

-- ---- two lamps of a row

-- the lamp at the place of a fade, after the row call
lamp-is : (r : Row) (calls : List RowCall) (size clock k : ℕ) (e : Fade) → RowValid r → FadeAt k r calls e →
    row_cause (after_row r calls) size clock ≡ accepted →
    (first_cause (later e e.calls) clock ≡ accepted)
    × (lamp_at (after_row r (calls ++ (each size clock ∷ []))) k ≡ next (later e e.calls) (Call.Step clock))
unfolding after_row
lamp-is r calls size clock k e valid a z =
    let s = in_row r valid k a.there in
    let now = kept-after k r calls s in
    let same : lamp_at (after_row r calls) k ≡ later e e.calls =
    its-calls k r calls (in_true_row r valid k a.there) ∙ rw (a.lamp, a.given) (list-later e)
    in (
      ap (λ m. first_cause m clock) (sym same) ∙ accepted-first (after_row r calls) size clock k now z,
      ap (λ (q : Row). lamp_at q k) (after-row-append r calls (each size clock ∷ []))
          ∙ row-lamp (after_row r calls) size clock k now z
          ∙ ap (λ m. next m (Call.Step clock)) same,
    )

-- the schedules of two fades that are alike show the same at each clock
same_at : (d e : Fade) → Alike d e → (clock : ℕ) →
    shown_at (fed d.move (finds d) d.start) clock ≡ shown_at (fed e.move (finds e) e.start) clock
unfolding shown_at
same_at d e a clock = rw (a.found, a.target, a.direction, a.tenths, a.start)

pub row-together : RowTogether
row-together r calls size clock j k d e valid a b alike z =
    let m = lamp-is r calls size clock j d valid a z in
    let n = lamp-is r calls size clock k e valid b z in
    let x = shows d a.premised clock m.0 in
    let y = shows e b.premised clock n.0 in
    let s = same_at d e alike clock in
    rw (m.1, n.1)
    (record {
      hue = x.0 ∙ ap (λ (t : Shown). t.hue) s ∙ sym y.0;
      remaining = x.1 ∙ ap (λ (t : Shown). t.remaining) s ∙ sym y.1;
      done = x.2 ∙ ap (λ (t : Shown). t.done) s ∙ sym y.2;
    })
