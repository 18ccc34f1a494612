-- The claim, proved: a move to a hue gives its task, and once that is started keeps its schedule, over every list of calls.
use Rattle.std.proofs.lemmas.Bool.{cases_Bool}
use Rattle.std.specs.Prelude.{Some}
use Prim.Native.Nat.{ℕ, ◌+◌, ◌-◌, ◌%◌, ◌≤◌, ◌<◌}
use mathlib.Core.Bool.{not, ◌&&◌, true}
use mathlib.Core.List.{List, ◌∷◌, ◌++◌}
use mathlib.Core.Logic.{inl, inr}
use mathlib.Core.Path.{◌≡◌, sym, ◌∙◌, ap}
use native.Mathlib.Omega.{arith}
use lib.Dec.{eqb}
use borrow.Author.Tests.{leb-true}
use Rattle.matter.specs.declared.enums.OnOff.{OnOff}
use Rattle.matter.proofs.Laws.{each, and_right}
use Rattle.matter.specs.InRange.{InRangeRequest}
use Rattle.tasks.specs.Valid.{task_valid, move_to_valid}
use Rattle.lamp.specs.declared.Lamp.{Lamp}
use Rattle.lamp.specs.declared.Answer.{Answer}
use Rattle.lamp.specs.Valid.{lamp_valid}
use Rattle.lamp.specs.declared.Call.{Call}
use Rattle.lamp.specs.InRange.{InRangeLamp}
use Rattle.commands.specs.Commands.{command_effect}
use Rattle.commands.specs.Answers.{answer, allowed}
use Rattle.commands.proofs.Kept.{valid-kept}
use Rattle.schedule.specs.Calls.{next, after, accepts, interrupts, quiet, steps, paced}
use Rattle.schedule.specs.Schedule.{HueCommand, as_request, target, time, task_of, Fed, Shown, shown_at, scheduled_from}
use Rattle.schedule.specs.Claim.{Keeps, KeepsAt, KeptFade, fed, Kept, Claim}
use Rattle.schedule.proofs.Course.{Sane, followed-on, at_open, begins-done}
use Rattle.schedule.proofs.Accepts.{timely, accepts-is, accepted-is}
use Rattle.schedule.proofs.Fading.{Fading, idle-is, accepts-takes, fades-on, wait-is, Begins, begins, new-bounds-cause}
use Rattle.schedule.proofs.Lists.{after_one, scheduled-one, quiet-front, quiet-back, quiet-call, in-range-split, valid-after, in-range-after}
use Rattle.schedule.proofs.Pace.{fades-after, done-exactly, left, done-stays, pace-kept}

-- ---- from the start on

module _ (f : Fed) (n : Sane f) (a : Answer) (b : Begins f a) where
  -- one step is left for each tenth, at most
  steps-left : (ys : List Call) → quiet a.lamp ys ≡ true → paced (f.start + a.wait) a.lamp ys ≡ true → steps a.lamp ys + left (scheduled_from f (shown_at f f.start) ys).done ≤ f.fade.tenths
  steps-left ys q h =
      elim (cases_Bool (shown_at f f.start).done) [
        | inl d ↦ let z = done-stays ys n b.fading q d in omega arith
        | inr d ↦
            let o = at_open f f.start d in
            let e = o.early in
            let w = b.wait ∙ o.wait in
            let z = pace-kept (f.start + a.wait) (f.fade.tenths - 1) ys n b.fading q d h (omega arith) in
            omega arith
      ]

  module _ (ys : List Call) (q : quiet a.lamp ys ≡ true) where
    fading : Fading f (after a.lamp ys) (scheduled_from f (shown_at f f.start) ys)
    fading = fades-after ys n b.fading q

    pub keeps : Keeps a f ys
    keeps =
        record {
          agrees = record { hue = fading.shows.hue; remaining = fading.shows.remaining; done = idle-is fading };
          done = idle-is fading ∙ done-exactly ys n b.fading q ∙ rw (begins-done f);
          pace = λ h.
              let z = steps-left ys q h in (
                omega arith,
                λ e.
                    elim (cases_Bool (scheduled_from f (shown_at f f.start) ys).done) [
                      | inl d ↦ idle-is fading ∙ d
                      | inr d ↦ absurd (let k : steps a.lamp ys + 1 ≤ f.fade.tenths = rw d at z in omega arith)
                    ],
              );
          arc = rw fading.shows.hue fading.right.small;
          end = λ e.
              let r = fading.right.ends (sym (idle-is fading) ∙ e) in
              (fading.shows.hue ∙ r.0, fading.shows.remaining ∙ r.1);
          new_bounds = new-bounds-cause fading;
        }

    -- at a call that does not interrupt it
    pub keeps-at : (x : Call) → not (interrupts x && accepts (after a.lamp ys) x) ≡ true → KeepsAt a f ys x
    keeps-at x h =
        let later = fades-on fading n x h in
        record {
          accepted = accepts-takes fading x;
          wait = λ e. wait-is fading n x e ∙ ap (λ (s : Shown). s.wait) (sym (scheduled-one f (shown_at f f.start) ys x));
          grows =
              rw (after_one a.lamp ys x, later.shows.hue, fading.shows.hue)
              (followed-on f n (scheduled_from f (shown_at f f.start) ys) fading.right x);
        }

  pub kept-fade : (calls : List Call) → quiet a.lamp calls ≡ true → KeptFade a f calls
  unfolding scheduled_from
  kept-fade calls q =
      record {
        wait = b.wait;
        everywhere = λ ys zs e. keeps ys (quiet-front a.lamp ys zs (rw e at q));
        every_call = λ ys x zs e.
            let p : quiet a.lamp (ys ++ (x ∷ zs)) ≡ true = rw e at q in
            keeps-at ys (quiet-front a.lamp ys (x ∷ zs) p) x (quiet-call (after a.lamp ys) x zs (quiet-back a.lamp ys (x ∷ zs) p)).0;
      }

-- ---- the command

-- (a) the task
task-is : (l : Lamp) (h : HueCommand) (on_off : OnOff) (clock : ℕ) → accepts l (Call.Command (as_request h) on_off clock) ≡ true → allowed l (as_request h) on_off ≡ true → (answer l (Call.Command (as_request h) on_off clock)).task ≡ Some (task_of h l.color.hue)
unfolding command_effect
task-is l h on_off clock a e =
    rw (accepted-is l (Call.Command (as_request h) on_off clock) a)
    (elim (cases_Bool h.enhanced) [ inl z ↦ rw (z, e) | inr z ↦ rw (z, e) ])

-- the target of a command in range is a hue
pub target_small : (h : HueCommand) → InRangeRequest (as_request h) → target h < 65536
target_small h t =
    elim (cases_Bool h.enhanced) [
      | inl z ↦ rw z (let k = (rw z at t.command).0 in omega arith)
      | inr z ↦ rw z (let k = (rw z at t.command).0 in omega arith)
    ]

-- the time of an accepted start is that of a valid task
time-small : (l : Lamp) (h : HueCommand) (found clock : ℕ) → lamp_valid l ≡ true → accepts l (Call.Start (task_of h found) clock) ≡ true → time h ≤ 6553500
unfolding task_valid move_to_valid
time-small l h found clock f a =
    let g : task_valid (task_of h found) ≡ true = and_right (timely l.clock clock) _ (sym (accepts-is l (Call.Start (task_of h found) clock) f) ∙ a) in
    leb-true (time h) 6553500 (and_right (eqb (time h % 100) 0) _ (each _ g).0)

pub kept : (l : Lamp) (h : HueCommand) (on_off : OnOff) (clock : ℕ) (rest : List Call) → lamp_valid l ≡ true → InRangeLamp l → InRangeRequest (as_request h) → accepts l (Call.Command (as_request h) on_off clock) ≡ true → allowed l (as_request h) on_off ≡ true → Kept l h on_off clock rest
kept l h on_off clock rest valid in_range c a e =
    let x : Call = Call.Command (as_request h) on_off clock in
    record {
      task = task-is l h on_off clock a e;
      fades = λ between calls at split p.
          let found : Lamp = after (next l x) between in
          let f : Fed = fed h l at in
          let form' : lamp_valid found ≡ true = valid-after (next l x) between (valid-kept l x valid) in
          let n : Sane f = record { found = in_range.hue; target = target_small h c; time = time-small found h l.color.hue at form' p.accepted } in
          let b =
          begins f n found form' p.hue
          p.accepted in
          kept-fade f n (answer found (Call.Start (task_of h l.color.hue) at)) b calls p.undisturbed;
    }

pub keeps-schedule : Claim
keeps-schedule l calls valid in_range c before rest h on_off clock split a e =
    let t = in-range-split before (Call.Command (as_request h) on_off clock ∷ rest) (rw split at c) in
    kept (after l before) h on_off clock rest (valid-after l before valid) (in-range-after l before valid in_range t.0) t.1.0.0 a e
