-- A run's text, a line at a time: the next line and the rest, the room that a line takes, and that what is left to write shrinks; and
-- the clock of the next step, which fits in 64 bits.
use Rattle.std.specs.Prelude.{is_ok}
use Prim.Native.Nat.{ℕ, zero, suc, ◌+◌, ◌-◌, ◌^◌, ◌≤◌, ◌<◌, min}
use mathlib.Core.Bool.{Bool, true, false, cond, ◌&&◌, ◌||◌, true≢false, or-true}
use mathlib.Core.List.{List, [], ◌++◌, append-nil, append_assoc}
use mathlib.Core.Path.{◌≡◌, refl, sym, ap, ◌∙◌}
use native.Mathlib.Omega.{arith}
use lib.Dec.{ltb, leb}
use lib.ListN.{length, take, length-append, length-take}
use borrow.Author.Tests.{lt-ltb, le-ltb, ltb-true}
use Rattle.matter.specs.Causes.{Verdict, number_of}
use Rattle.matter.proofs.Laws.{cond_both}
use Rattle.matter.specs.Limits.{saturation_limit}
use Rattle.progress.specs.Progress.{clamped_sum, delta_at_rate}
use Rattle.tasks.specs.declared.Task.{Task}
use Rattle.tasks.specs.declared.Running.{Running}
use Rattle.tasks.specs.declared.SaturationRun.{SaturationRun}
use Rattle.tasks.specs.declared.ColorTemperatureRun.{ColorTemperatureRun}
use Rattle.tasks.specs.declared.ColorLoopRun.{ColorLoopRun}
use Rattle.tasks.specs.Runs.{loop_run}
use Rattle.lamp.specs.declared.Lamp.{Lamp}
use Rattle.lamp.specs.declared.Answer.{Answer}
use Rattle.lamp.specs.Answers.{at_clock, unchanged}
use Rattle.matter.specs.Rules.{signed}
use Rattle.lamp.specs.declared.passes.Found.{Found}
use Rattle.lamp.specs.declared.passes.Moved.{Moved}
use Rattle.lamp.specs.Passes.{Effect, waiting, at_end, saturation_done, mireds_done, timed, hue_passed, saturation_passed, temperature_passed, loop_passed}
use Rattle.matter.specs.Bounds.{lower, upper}
use Rattle.lamp.specs.Calls.{done, started, stepped, start_cause, step_cause, start_answer, step_answer, hue_saturation_start, temperature_to_start, temperature_start}
use Rattle.lamp.proofs.Kept.{valid-clock, start-ready, step-ready, choose-both, started-few, stepped-few}
use Rattle.fade_run.specs.declared.Fade.{Fade}
use Rattle.fade_line.specs.declared.writer.Line.{Line}
use Rattle.fade_line.specs.Text.{numbers, line_text, refused_text, room_for, fitting}
use Rattle.text.specs.Written.{pasted, Wrote}
use Rattle.text.proofs.WriteLaws.{wrote_none, length-pasted, take-pasted}
use Rattle.fade_line.proofs.TextLaws.{numbers-noted, line-short, refused-short, fitting-all}
use Rattle.fade_run.specs.Run.{line_of, is_over, moved, one_text, goes_on, step_after, further, text}
use Rattle.fade_run.specs.Inner.{rest, step_of, next_text}

-- ---- the text is the next line and the text of the rest

one_less : (n : ℕ) → n ≡ suc n - 1
one_less n = omega arith

further-is : (left : ℕ) (a : Answer) (clock : ℕ) → further left a clock ≡ text (step_of a clock left)
unfolding further step_of
further-is zero a clock = none (goes_on a)
  where
    none : (t : Bool) → [] ≡ text (cond (t && false) (Fade.Step (record { lamp = a.lamp; clock = clock + a.wait; left = 0 - 1 })) Fade.Over)
    none true = refl
    none false = refl
further-is (suc left) a clock = simp (lt-ltb 0 (suc left) (omega arith)) (some (goes_on a))
  where
    some : (t : Bool) → cond t (one_text (step_after a clock) (clock + a.wait) ++ further left (step_after a clock) (clock + a.wait)) []
        ≡ text (cond (t && true) (Fade.Step (record { lamp = a.lamp; clock = clock + a.wait; left = suc left - 1 })) Fade.Over)
    some true = ap (λ (n : ℕ). one_text (step_after a clock) (clock + a.wait) ++ further n (step_after a clock) (clock + a.wait)) (one_less left)
    some false = refl

pub text-next : (f : Fade) → text f ≡ next_text f ++ text (rest f)
text-next Fade.BadLine = refl
text-next (Fade.Refused number) = sym (append-nil _)
text-next (Fade.Start s) = ap (λ (t : List ℕ). next_text (Fade.Start s) ++ t) (further-is s.left _ s.clock)
text-next (Fade.Step s) = ap (λ (t : List ℕ). next_text (Fade.Step s) ++ t) (further-is s.left _ s.clock)
text-next Fade.Over = refl

-- ---- waits: 100 at most

waits-tick : (t : Bool) → waiting t 100 ≤ 100
waits-tick true = omega arith
waits-tick false = omega arith

waits-least : (t : Bool) (n : ℕ) → waiting t (min 100 n) ≤ 100
waits-least true n = omega arith
waits-least false n = omega arith

module _ (f : Found) where
  timed-wait : (moved : Moved) (start ms permille : ℕ) → (timed f moved start ms permille).wait ≤ 100
  unfolding timed
  timed-wait moved start ms permille = waits-least (at_end permille) (ms - (f.clock - start))

  saturation-wait : (run : SaturationRun) → (saturation_passed f run).wait ≤ 100
  unfolding saturation_passed
  saturation-wait run =
      waits-tick
      (saturation_done run.task.direction
      (clamped_sum 0 saturation_limit run.saturation (delta_at_rate (signed run.task.direction run.task.rate) (f.clock - run.start))))

  temperature-wait : (run : ColorTemperatureRun) → (temperature_passed f run).wait ≤ 100
  unfolding temperature_passed
  temperature-wait run =
      waits-tick
      (mireds_done run.rate run.lo run.hi (clamped_sum run.lo run.hi run.mireds (delta_at_rate run.rate (f.clock - run.start))))

  loop-wait : (run : ColorLoopRun) → (loop_passed f run).wait ≤ 100
  unfolding loop_passed
  loop-wait run = omega arith

stepped-wait : (l : Lamp) (r : Running) → (stepped l r).wait ≤ 100
unfolding stepped hue_passed
stepped-wait l Running.Idle = omega arith
stepped-wait l (Running.HueSaturationMoveTo run) = timed-wait _ _ _ _ _
stepped-wait l (Running.HueMove run) = omega arith
stepped-wait l (Running.SaturationMove run) = saturation-wait _ run
stepped-wait l (Running.ColorTemperatureMoveTo run) = timed-wait _ _ _ _ _
stepped-wait l (Running.ColorTemperatureMove run) = temperature-wait _ run
stepped-wait l (Running.ColorLoop direction hue seconds start) = loop-wait _ (loop_run direction hue seconds start)

started-wait : (l : Lamp) (task : Task) → (started l task).wait ≤ 100
unfolding started hue_saturation_start temperature_to_start temperature_start hue_passed
started-wait l (Task.HueSaturationMoveTo task) = timed-wait _ _ _ _ _
started-wait l (Task.HueMove task) = omega arith
started-wait l (Task.SaturationMove task) = saturation-wait _ _
started-wait l (Task.ColorTemperatureMoveTo task) = timed-wait _ _ _ _ _
started-wait l (Task.ColorTemperatureMove task) =
    cond_both (λ (e : Effect). e.wait ≤ 100) (leb (upper l.bounds task.max) (lower l.bounds task.min)) _ _ (λ t. omega arith) (λ t. temperature-wait _ _)
started-wait l (Task.ColorLoop task) = loop-wait _ _
started-wait l Task.Stop = omega arith

-- so the next step's clock fits in 64 bits
module _ (l : Lamp) (clock : ℕ) (fits : clock < 2 ^ 64) where
  pub start-clock : (task : Task) → clock + (start_answer l task clock).wait < 2 ^ 64
  unfolding start_answer
  start-clock task =
      choose-both (λ a. clock + a.wait < 2 ^ 64) (start_cause l task clock) l _
      (λ e. omega (arith, valid-clock (at_clock l clock) (start-ready l clock task e).0, started-wait (at_clock l clock) task))
      (λ e. omega (arith, fits))

  pub step-clock : clock + (step_answer l clock).wait < 2 ^ 64
  unfolding step_answer
  step-clock =
      choose-both (λ a. clock + a.wait < 2 ^ 64) (step_cause l clock) l _
      (λ e. omega (arith, valid-clock (at_clock l clock) (step-ready l clock e), stepped-wait (at_clock l clock) l.running))
      (λ e. omega (arith, fits))

-- ---- a line: never empty, and no longer than the room that is asked for

line-some : (line : Line) → 0 < length (line_text line)
unfolding line_text
line-some line = simp length-append (omega arith)

refused-some : (number : ℕ) → 0 < length (refused_text number)
unfolding refused_text
refused-some number = simp length-append (omega arith)

one-some : (a : Answer) (clock : ℕ) → 0 < length (one_text a clock)
one-some a clock =
    cond_both (λ (t : List ℕ). 0 < length t) (is_ok a.verdict) _ _ (λ e. line-some (line_of a clock)) (λ e. refused-some (number_of a.verdict))

pub next-some : (f : Fade) → is_over f ≡ false → 0 < length (next_text f)
next-some Fade.BadLine e = omega arith
next-some (Fade.Refused number) e = refused-some number
next-some (Fade.Start s) e = one-some (start_answer s.lamp s.task s.clock) s.clock
next-some (Fade.Step s) e = one-some (step_answer s.lamp s.clock) s.clock
next-some Fade.Over e = absurd (true≢false e)

one-short : (a : Answer) (clock : ℕ) → length (numbers a.notices) ≤ 16 → length (one_text a clock) ≤ 512
unfolding line_of
one-short a clock h =
    cond_both (λ (t : List ℕ). length t ≤ 512) (is_ok a.verdict) _ _ (λ e. line-short (line_of a clock) h) (λ e. refused-short (number_of a.verdict))

-- the notices of an effect, and of a refusal, are few
effect-few : (e : Effect) → length e.reported ≤ 14 → length (numbers (done e).notices) ≤ 16
effect-few e h = simp (numbers-noted e.reported) (omega (arith, h))

refusal-few : (l : Lamp) (cause : Verdict) → length (numbers (unchanged l cause).notices) ≤ 16
refusal-few l cause = omega arith

pub next-short : (f : Fade) → length (next_text f) ≤ 512
unfolding start_answer step_answer
next-short Fade.BadLine = omega arith
next-short (Fade.Refused number) = refused-short number
next-short (Fade.Start s) =
    one-short (start_answer s.lamp s.task s.clock) s.clock
    (choose-both (λ (a : Answer). length (numbers a.notices) ≤ 16) (start_cause s.lamp s.task s.clock) s.lamp _
    (λ e. effect-few (started (at_clock s.lamp s.clock) s.task) (started-few (at_clock s.lamp s.clock) s.task))
    (λ e. refusal-few s.lamp (start_cause s.lamp s.task s.clock)))
next-short (Fade.Step s) =
    one-short (step_answer s.lamp s.clock) s.clock
    (choose-both (λ (a : Answer). length (numbers a.notices) ≤ 16) (step_cause s.lamp s.clock) s.lamp _
    (λ e. effect-few (stepped (at_clock s.lamp s.clock) s.lamp.running) (stepped-few (at_clock s.lamp s.clock) s.lamp.running))
    (λ e. refusal-few s.lamp (step_cause s.lamp s.clock)))
next-short Fade.Over = omega arith

-- ---- nothing to write

pub wrote-over : (old : List ℕ) (at : ℕ) → Wrote old at (fitting old at []) old at
unfolding fitting
wrote-over old at = cond_both (λ (t : List ℕ). Wrote old at t old at) (room_for at (length old)) [] [] (λ e. wrote_none old at) (λ e. wrote_none old at)

-- ---- one line more of a run, written behind what stands before `at`

pub record OneMore (then : Fade) (old new : List ℕ) (at next : ℕ) (whole : List ℕ) : Type 0 where
  pub length-kept : length new ≡ length old
  pub inside : next ≤ length old
  pub further-on : at < next
  pub written : take next new ++ text then ≡ whole

pub one_more : (f then : Fade) (old new : List ℕ) (at next : ℕ) (whole : List ℕ) → is_over f ≡ false → at + 512 ≤ length old → then ≡ rest f → Wrote old at (fitting old at (next_text f)) new next → take at old ++ text f ≡ whole → OneMore then old new at next whole
one_more f then old new at next whole going room is-rest wrote before =
    let fits : fitting old at (next_text f) ≡ next_text f = fitting-all old at (next_text f) room in
    let end : next ≡ at + length (next_text f) = wrote.place ∙ ap (λ (t : List ℕ). at + length t) fits in
    let made : new ≡ pasted old at (next_text f) = wrote.bytes ∙ ap (pasted old at) fits in
    let inside : at + length (next_text f) ≤ length old = omega (arith, next-short f) in
    record {
      length-kept = ap length made ∙ length-pasted old at (next_text f) inside;
      inside = omega (arith, end, inside);
      further-on = omega (arith, end, next-some f going);
      written =
          ap (λ (g : Fade). take next new ++ text g) is-rest
          ∙ ap (λ (t : List ℕ). t ++ text (rest f)) (ap (λ (n : ℕ). take n new) end ∙ ap (take (at + length (next_text f))) made ∙ take-pasted old at (next_text f) (omega arith))
          ∙ append_assoc (take at old) (next_text f) (text (rest f))
          ∙ ap (λ (t : List ℕ). take at old ++ t) (sym (text-next f))
          ∙ before;
    }

-- ---- something was written, unless the run was over or there was no room

some_written : (f : Fade) (room n : ℕ) → moved f room (suc n) ≡ true
some_written f room n = simp (lt-ltb 0 (suc n) (omega arith), or-true (is_over f || ltb room 512))

-- where the run came to its end
pub moved-over : (f now : Fade) (room len : ℕ) → is_over now ≡ true → (len ≡ 0 → now ≡ f) → moved f room len ≡ true
moved-over f now room zero e same = simp (ap is_over (sym (same refl)) ∙ e)
moved-over f now room (suc n) e same = some_written f room n

-- where there was no more room
pub moved-full : (f : Fade) (room len : ℕ) → room < len + 512 → moved f room len ≡ true
moved-full f room zero h = simp (lt-ltb room 512 (omega (arith, h)), or-true (is_over f))
moved-full f room (suc n) h = some_written f room n

-- so what is left to write is less, and a run that is written block by block ends

pub shrinks : (f then : Fade) (new : List ℕ) (room len : ℕ) → is_over f ≡ false → 512 ≤ room → moved f room len ≡ true → len ≤ length new → take len new ++ text then ≡ text f → length (text then) < length (text f)
shrinks f then new room len going large some inside whole =
    let not_none : 0 < len = ltb-true 0 len (third (is_over f) (ltb room 512) (ltb 0 len) going (le-ltb room 512 large) some) in
    let sizes : length (take len new) + length (text then) ≡ length (text f) = sym (length-append (take len new) (text then)) ∙ ap length whole in
    omega (arith, sizes, length-take len new)
  where
    third : (a b c : Bool) → a ≡ false → b ≡ false → (a || b || c) ≡ true → c ≡ true
    third false false c e f h = h
    third true b c e f h = absurd (true≢false e)
    third false true c e f h = absurd (true≢false f)
