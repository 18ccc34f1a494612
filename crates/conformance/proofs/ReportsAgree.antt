-- The remaining time is reported exactly where the text has it reportable, for all numbers; a colour attribute is reported of a change
-- exactly where the text allows it, by its setter and in every accepted step. Where the port reports more, or less.
use Rattle.matter.specs.Causes.{accepted}
use Rattle.notices.specs.declared.Notice.{Notice}
use Rattle.std.specs.Prelude.{Option, Some, None}
use Prim.Native.Nat.{ℕ, zero, suc, ◌+◌, ◌-◌, ◌<◌}
use mathlib.Core.Bool.{Bool, true, false, not, cond, ◌&&◌, ◌||◌, or-true, or-false, or_assoc, and-true, and-false}
use mathlib.Core.List.{List, [], ◌∷◌, ◌++◌}
use mathlib.Core.Path.{◌≡◌, refl, sym, ap, subst, ◌∙◌}
use native.Mathlib.Omega.{arith}
use mathlib.Core.Logic.{⊎_elim}
use Rattle.std.proofs.lemmas.Bool.{cases_lt, cases_eq}
use Rattle.std.proofs.lemmas.Bool.Decides.{nat_tests}
use lib.Dec.{eqb}
use lib.IntN.{ℤ}
use lib.ListN.{length, replicate}
use borrow.Author.Tests.{leb-true, le-leb, lt-leb, ne_eqb, not-true}
use Rattle.matter.specs.declared.enums.ColorModeEnum.{ColorModeEnum}
use Rattle.matter.specs.Limits.{saturation_limit}
use Rattle.matter.proofs.Laws.{and_left, and_right, or_left, or_right, cond_both}
use Rattle.notices.specs.Notices.{only, filled}
use Rattle.notices.specs.Names.{CurrentHue, EnhancedCurrentHue, CurrentSaturation, ColorTemperatureMireds, ColorMode, EnhancedColorMode, RemainingTime, marked_dirty, scenes_notified, device_hue_saturation, device_mireds, notice_number}
use Rattle.color.specs.declared.Color.{Color}
use Rattle.color.specs.Setters.{due, same, change_reported, change_of, hue_set, hue_reported, saturation_set, saturation_reported, mireds_set, mireds_reported}
use Rattle.progress.specs.Progress.{permille_of, tenths_of, delta_at_rate, clamped_sum, loop_delta}
use Rattle.hue.specs.Hue.{moved_hue}
use Rattle.remaining_time.specs.RemainingTime.{apart, reported}
use Rattle.tasks.specs.declared.ColorLoopRun.{ColorLoopRun}
use Rattle.tasks.specs.declared.ColorTemperatureRun.{ColorTemperatureRun}
use Rattle.tasks.specs.declared.ColorTemperatureToRun.{ColorTemperatureToRun}
use Rattle.tasks.specs.declared.HueRun.{HueRun}
use Rattle.tasks.specs.declared.HueSaturationRun.{HueSaturationRun}
use Rattle.tasks.specs.declared.Running.{Running}
use Rattle.tasks.specs.declared.SaturationRun.{SaturationRun}
use Rattle.tasks.specs.Runs.{runs, loop_running}
use Rattle.lamp.specs.declared.Answer.{Answer}
use Rattle.lamp.specs.declared.Lamp.{Lamp}
use Rattle.lamp.specs.Answers.{at_clock}
use Rattle.lamp.specs.Calls.{done, stepped}
use Rattle.matter.specs.Rules.{signed}
use Rattle.lamp.specs.declared.passes.Passed.{Passed}
use Rattle.lamp.specs.Passes.{Effect, found_in, reported_behind, unless, at_end, hue_now, hue_moved, saturation_now, saturation_moved, mireds_now, saturation_done, mireds_done, hue_saturation_passed, temperature_to_passed, hue_saturation_moved, temperature_to_moved, timed, hue_passed, saturation_passed, temperature_passed, loop_passed}
use Rattle.lamp.specs.declared.Call.{Call}
use Rattle.commands.specs.Answers.{cause, answer}
use Rattle.conformance.proofs.SettersSet.{hue-is-set, saturation-is-set, mireds-is-set}
use Rattle.conformance.proofs.Ran.{granted-is}
use Rattle.conformance.proofs.ShownAgrees.{step-shows}
use Rattle.conformance.specs.Reports.{RemainingTimeIs, Reportable, from_zero, risen, fallen, to_zero, hushed, MayReport, once_a_second, at_the_end, reports}

-- ---- RemainingTime

pub remaining-agrees : (ms : ℕ) → RemainingTimeIs ms (tenths_of ms)
remaining-agrees ms = record { enough = omega arith; fewest = λ n h. omega arith }

-- what is reportable is reported
pub reportable-is-reported : {old new : ℕ} {start : Bool} → Reportable old new start → reported old new start ≡ true
unfolding reported
reportable-is-reported (from_zero new start h) = grind (arith, nat_tests)
reportable-is-reported (risen old new h) = grind (arith, nat_tests)
reportable-is-reported (fallen old new h) = grind (arith, nat_tests)
reportable-is-reported (to_zero old start h) = grind (arith, nat_tests)

-- what is reported is reportable
module _ (old new : ℕ) where
  from-0 : (start : Bool) → reported 0 new start ≡ true → (new ≡ 0 → ⊥) → 10 < new
  unfolding reported
  from-0 start e z = grind (arith, nat_tests)

  to-0 : (start : Bool) → reported old 0 start ≡ true → 0 < old
  unfolding reported
  to-0 start e = grind (arith, nat_tests)

  -- from a number to another, neither of them 0
  by : (start : Bool) → reported old new start ≡ true → (old ≡ 0 → ⊥) → (new ≡ 0 → ⊥) → (start ≡ true) × (10 < apart new old)
  unfolding reported
  by true e y z = (refl, grind (arith, nat_tests))
  by false e y z = absurd (grind (arith, nat_tests))

  changed : (start : Bool) → start ≡ true → 10 < apart new old → Reportable old new start
  changed start s h =
      rw s (⊎_elim (λ l. risen old new (omega arith)) (λ l. fallen old new (omega arith)) (cases_lt old new))

  pub reported-is-reportable : (start : Bool) → reported old new start ≡ true → Reportable old new start
  reported-is-reportable start e =
      ⊎_elim (λ z. rw z (to_zero old start (to-0 start (rw z at e))))
      (λ z. ⊎_elim (λ y. rw y (from_zero new start (from-0 start (rw y at e) z)))
      (λ y. let c = by start e y z in changed start c.0 c.1) (cases_eq old 0))
      (cases_eq new 0)

-- the sentence on times below a second: the start of such a fade from rest is silent, as it asks
pub short-start : (time : ℕ) → hushed time → reported 0 time true ≡ false
unfolding reported
short-start time h = grind (arith, nat_tests)

-- and its end is reported, where it asks for silence: the smallest is a fade of a tenth
pub short-end-differs : hushed 1 × (reported 1 0 false ≡ true)
unfolding reported
short-end-differs = (omega arith, refl)

-- ---- the colour attributes

-- what is due may be reported, and what may be is due
due-by : (end : Bool) (stamp clock : ℕ) → due end stamp clock ≡ true → MayReport stamp clock end
due-by true stamp clock e = at_the_end stamp clock
due-by false stamp clock e = once_a_second stamp clock false (leb-true (stamp + 1000) clock e)

by-due : {stamp clock : ℕ} {end : Bool} → MayReport stamp clock end → due end stamp clock ≡ true
by-due (once_a_second stamp clock end h) = rw (le-leb (stamp + 1000) clock h) (or-true end)
by-due (at_the_end stamp clock) = refl

-- whether a list has a notice, of two lists
reports-both : (n : ℕ) (xs ys : List ℕ) → reports n (xs ++ ys) ≡ (reports n xs || reports n ys)
reports-both n [] ys = refl
reports-both n (x ∷ xs) ys =
    ap (λ (b : Bool). eqb n x || b) (reports-both n xs ys) ∙ sym (or_assoc (eqb n x) (reports n xs) (reports n ys))

-- of which the second has none
but-for : (n : ℕ) (reported rest : List ℕ) → reports n rest ≡ false → reports n (reported ++ rest) ≡ reports n reported
but-for n reported rest none = reports-both n reported rest ∙ rw none (or-false (reports n reported))

-- of a change, its attributes and the modes are reported exactly where the change is due
module _ (n : ℕ) (attribute : Notice) (enhanced : Bool) (other : reports n (marked_dirty ∷ scenes_notified ∷ []) ≡ false) where
  abbrev noticed : List ℕ
  noticed = (notice_number attribute ∷ only enhanced EnhancedCurrentHue) ++ (ColorMode ∷ EnhancedColorMode ∷ [])

  last-by : (d : Bool) → reports n (cond d noticed [] ++ (scenes_notified ∷ [])) ≡ d && reports n noticed
  last-by true = but-for n noticed (scenes_notified ∷ []) (or_right (eqb n marked_dirty) (reports n (scenes_notified ∷ [])) other)
  last-by false = or_right (eqb n marked_dirty) (reports n (scenes_notified ∷ [])) other

  notices-by : (s a d : Bool) → reports n (change_reported (change_of s d attribute enhanced) a) ≡ not s && (d && reports n noticed)
  notices-by true a d = refl
  notices-by false true d = last-by d
  notices-by false false d = rw (or_left (eqb n marked_dirty) (reports n (scenes_notified ∷ [])) other) (last-by d)

  change-by : reports n noticed ≡ true → (s a d : Bool) → reports n (change_reported (change_of s d attribute enhanced) a) ≡ not s && d
  change-by has s a d = notices-by s a d ∙ rw (has, and-true d)

  -- and no other
  no-change-by : reports n noticed ≡ false → (s a d : Bool) → reports n (change_reported (change_of s d attribute enhanced) a) ≡ false
  no-change-by none s a d = notices-by s a d ∙ rw (none, and-false d, and-false (not s))

-- of a hue, CurrentHue is reported, and with it EnhancedCurrentHue where the move is an enhanced one
pub data HueNotice : ℕ → Bool → Type 0 where
  of_current_hue : (enhanced : Bool) → HueNotice CurrentHue enhanced
  of_enhanced_current_hue : HueNotice EnhancedCurrentHue true

hue-by : {n : ℕ} {enhanced : Bool} → HueNotice n enhanced → (s a d : Bool) →
    reports n (change_reported (change_of s d Notice.CurrentHue enhanced) a) ≡ not s && d
hue-by (of_current_hue enhanced) = change-by CurrentHue Notice.CurrentHue enhanced refl refl
hue-by of_enhanced_current_hue = change-by EnhancedCurrentHue Notice.CurrentHue true refl refl

-- a notice of a number that becomes another is one that may be reported, and of a change each that may be is reported
pub record ReportedAs (notice : ℕ) (reported : List ℕ) (old new stamp clock : ℕ) (end : Bool) : Type 0 where
  pub where_it_may : reports notice reported ≡ true → MayReport stamp clock end
  pub of_each_change : (old ≡ new → ⊥) → MayReport stamp clock end → reports notice reported ≡ true

-- it is reported so
abbrev ReportedWhere : ℕ → List ℕ → ℕ → ℕ → ℕ → ℕ → Bool → Type 0
ReportedWhere n reported old new stamp clock end = reports n reported ≡ not (same old new end) && due end stamp clock

reported-as : (n : ℕ) (reported : List ℕ) (old new stamp clock : ℕ) (end : Bool) → ReportedWhere n reported old new stamp clock end →
    ReportedAs n reported old new stamp clock end
reported-as n reported old new stamp clock end e =
    record {
      where_it_may = λ h. due-by end stamp clock (and_right (not (same old new end)) (due end stamp clock) (sym e ∙ h));
      of_each_change = λ h m. e ∙ rw (ne_eqb old new h, by-due m);
    }

module _ (c : Color) (new : ℕ) (end : Bool) (clock : ℕ) (active : Bool) where
  hue-change-reported : {n : ℕ} {enhanced : Bool} → HueNotice n enhanced →
      ReportedWhere n (hue_reported c new end enhanced clock active) c.hue new c.stamps.hue clock end
  hue-change-reported h = hue-by h (same c.hue new end) active (due end c.stamps.hue clock)

  saturation-change-reported : ReportedWhere CurrentSaturation (saturation_reported c new end clock active) c.saturation new
      c.stamps.saturation clock end
  saturation-change-reported = change-by CurrentSaturation Notice.CurrentSaturation false refl refl (same c.saturation new end) active (due end c.stamps.saturation clock)

  mireds-change-reported : ReportedWhere ColorTemperatureMireds (mireds_reported c new end clock active) c.mireds new
      c.stamps.mireds clock end
  mireds-change-reported = change-by ColorTemperatureMireds Notice.ColorTemperatureMireds false refl refl (same c.mireds new end) active (due end c.stamps.mireds clock)

  pub hue-reported : {n : ℕ} {enhanced : Bool} → HueNotice n enhanced →
      ReportedAs n (hue_reported c new end enhanced clock active) c.hue new c.stamps.hue clock end
  hue-reported h = reported-as _ _ _ _ _ _ _ (hue-change-reported h)

  pub saturation-reported : ReportedAs CurrentSaturation (saturation_reported c new end clock active) c.saturation new
      c.stamps.saturation clock end
  saturation-reported = reported-as _ _ _ _ _ _ _ saturation-change-reported

  pub mireds-reported : ReportedAs ColorTemperatureMireds (mireds_reported c new end clock active) c.mireds new
      c.stamps.mireds clock end
  mireds-reported = reported-as _ _ _ _ _ _ _ mireds-change-reported

-- "at most once per second": what was reported at one clock is not reported again within the second, but at an end

-- a notice that was reported sets its stamp to the clock, and then is not due
once : (t u : Bool) (old new stamp old_next next stamp_next clock later : ℕ) (end : Bool) → later < clock + 1000 →
    t ≡ not (same old new end) && due end stamp clock → u ≡ not (same old_next next false) && due false stamp_next later →
    (same old new end ≡ false → due end stamp clock ≡ true → stamp_next ≡ clock) → t ≡ true → u ≡ false
once t u old new stamp old_next next stamp_next clock later end soon e f set h =
    let both : (not (same old new end) && due end stamp clock) ≡ true = sym e ∙ h in
    let a : stamp_next ≡ clock =
    set (not-true (same old new end) (and_left (not (same old new end)) _ both))
    (and_right (not (same old new end)) _ both)
    in
    f ∙ rw (lt-leb (stamp_next + 1000) later (omega arith)) (and-false (not (same old_next next false)))

module _ (c : Color) (clock later : ℕ) (soon : later < clock + 1000) (end : Bool) (new next : ℕ) (active : Bool) where
  pub hue-once : {n : ℕ} {enhanced enhanced_next : Bool} → HueNotice n enhanced → HueNotice n enhanced_next →
      reports n (hue_reported c new end enhanced clock active) ≡ true →
      reports n (hue_reported (hue_set c new end enhanced clock) next false enhanced_next later active) ≡ false
  unfolding hue_set
  hue-once {enhanced = enhanced} h k =
      let after : Color = hue_set c new end enhanced clock in
      once _ _ c.hue new c.stamps.hue after.hue next after.stamps.hue clock later end soon
      (hue-change-reported c new end clock active h) (hue-change-reported after next false later active k) (λ e d. rw (e, d))

  pub saturation-once : reports CurrentSaturation (saturation_reported c new end clock active) ≡ true →
      reports CurrentSaturation (saturation_reported (saturation_set c new end clock) next false later active) ≡ false
  unfolding saturation_set
  saturation-once =
      let after : Color = saturation_set c new end clock in
      once _ _ c.saturation new c.stamps.saturation after.saturation next after.stamps.saturation clock
      later end soon (saturation-change-reported c new end clock active)
      (saturation-change-reported after next false later active) (λ e d. rw (e, d))

  pub mireds-once : reports ColorTemperatureMireds (mireds_reported c new end clock active) ≡ true →
      reports ColorTemperatureMireds (mireds_reported (mireds_set c new end clock) next false later active) ≡ false
  unfolding mireds_set
  mireds-once =
      let after : Color = mireds_set c new end clock in
      once _ _ c.mireds new c.stamps.mireds after.mireds next after.stamps.mireds clock later end soon
      (mireds-change-reported c new end clock active) (mireds-change-reported after next false later active) (λ e d. rw (e, d))

-- ---- where the port reports more, or less

mode-by : (s a d e : Bool) → reports ColorMode (change_reported (change_of s d Notice.CurrentHue e) a) ≡ not s && d
mode-by s a d true = change-by ColorMode Notice.CurrentHue true refl refl s a d
mode-by s a d false = change-by ColorMode Notice.CurrentHue false refl refl s a d

module _ (c : Color) (clock : ℕ) (active : Bool) where
  -- more: at an end the number is reported though it is the old one, where the text speaks of changes. Smallest: hue 0 to 0
  pub unchanged-is-reported : (enhanced : Bool) → reports CurrentHue (hue_reported c c.hue true enhanced clock active) ≡ true
  unchanged-is-reported enhanced =
      hue-by (of_current_hue enhanced) (same c.hue c.hue true) active true ∙ rw (and-false (eqb c.hue c.hue))

  module _ (new : ℕ) (moved : c.hue ≡ new → ⊥) where
    -- less: the modes change with the number and are withheld with it, where the text limits no report of ColorMode or
    -- EnhancedColorMode. Smallest: in XY mode, from hue 0 to 1 at clock 999, the last notice being at 0
    pub mode-unreported : (enhanced : Bool) → clock < c.stamps.hue + 1000 → ((hue_set c new false enhanced clock).mode ≡ ColorModeEnum.CurrentHueAndCurrentSaturation) × (reports ColorMode (hue_reported c new false enhanced clock active) ≡ false)
    unfolding hue_set
    mode-unreported enhanced h =
        (rw (ne_eqb c.hue new moved), mode-by (same c.hue new false) active (due false c.stamps.hue clock) enhanced ∙ rw (ne_eqb c.hue new moved, lt-leb (c.stamps.hue + 1000) clock h))

  -- less: a plain move reports no EnhancedCurrentHue, which it changes
  pub enhanced-unreported : (new : ℕ) (end : Bool) → reports EnhancedCurrentHue (hue_reported c new end false clock active) ≡ false
  enhanced-unreported new end =
      no-change-by EnhancedCurrentHue Notice.CurrentHue false refl refl (same c.hue new end) active (due end c.stamps.hue clock)

-- ---- over calls: an accepted step reports an attribute exactly where it may be reported, whatever moves it

-- the last of a movement: nothing runs after it
abbrev pub ended : Answer → Bool
ended a = not (runs a.lamp.running)

abbrev pub Reported : ℕ → (Color → ℕ) → (Color → ℕ) → Lamp → ℕ → Answer → Type 0
Reported notice number stamp before clock a =
    ReportedAs notice a.notices.places (number before.color) (number a.lamp.color)
    (stamp before.color) clock (ended a)

-- the zeros behind what a pass reports
no-zeros : (n : ℕ) → eqb n 0 ≡ false → (k : ℕ) → reports n (replicate k 0) ≡ false
no-zeros n z zero = refl
no-zeros n z (suc k) = rw z (no-zeros n z k)

in-places : (n : ℕ) → eqb n 0 ≡ false → (xs : List ℕ) → reports n (filled xs) ≡ reports n xs
unfolding filled
in-places n z xs = but-for n xs (replicate (16 - length xs) 0) (no-zeros n z (16 - length xs))

no-time : (n : ℕ) → eqb n RemainingTime ≡ false → (t : Bool) → reports n (only t RemainingTime) ≡ false
no-time n z true = rw z
no-time n z false = refl

ended_by : (end : Bool) (r : Running) → runs r ≡ true → not (runs (unless end r)) ≡ end
ended_by true r e = refl
ended_by false r e = rw e

-- they are not reported of the rest of a pass
apart_from : {n : ℕ} {enhanced : Bool} → HueNotice n enhanced →
    (eqb n 0 ≡ false) × (reports n (device_hue_saturation ∷ []) ≡ false) × (eqb n RemainingTime ≡ false)
    × (reports n (CurrentSaturation ∷ ColorMode ∷ EnhancedColorMode ∷ []) ≡ false)
    × (reports n (marked_dirty ∷ scenes_notified ∷ []) ≡ false)
apart_from (of_current_hue enhanced) = (refl, refl, refl, refl, refl)
apart_from of_enhanced_current_hue = (refl, refl, refl, refl, refl)

no-saturation : (n : ℕ) → reports n (CurrentSaturation ∷ ColorMode ∷ EnhancedColorMode ∷ []) ≡ false →
    reports n (marked_dirty ∷ scenes_notified ∷ []) ≡ false →
    (c : Color) (t : Option ℕ) (first p clock : ℕ) (active : Bool) →
    reports n (change_reported (saturation_moved c t first p clock).change active) ≡ false
no-saturation n none other c None first p clock active = refl
no-saturation n none other c (Some target) first p clock active =
    no-change-by n Notice.CurrentSaturation false other none
    (same c.saturation (saturation_now first target p) (at_end p)) active (due (at_end p) c.stamps.saturation clock)

-- nor is CurrentSaturation of a hue, which leaves its number and stamp
no-hue-by : (enhanced : Bool) →
    reports CurrentSaturation ((CurrentHue ∷ only enhanced EnhancedCurrentHue) ++ (ColorMode ∷ EnhancedColorMode ∷ []))
    ≡ false
no-hue-by true = refl
no-hue-by false = refl

no-hue : (c : Color) (d : Option ℤ) (first p : ℕ) (enhanced : Bool) (clock : ℕ) (active : Bool) →
    reports CurrentSaturation (change_reported (hue_moved c d first p enhanced clock).change active) ≡ false
no-hue c None first p enhanced clock active = refl
no-hue c (Some way) first p enhanced clock active =
    no-change-by CurrentSaturation Notice.CurrentHue enhanced refl (no-hue-by enhanced)
    (same c.hue (hue_now first way p) (at_end p)) active (due (at_end p) c.stamps.hue clock)

hue-leaves-stamp : (c : Color) (d : Option ℤ) (first p : ℕ) (enhanced : Bool) (clock : ℕ) →
    ((hue_moved c d first p enhanced clock).color.saturation ≡ c.saturation)
    × ((hue_moved c d first p enhanced clock).color.stamps.saturation ≡ c.stamps.saturation)
unfolding hue_set
hue-leaves-stamp c None first p enhanced clock = (refl, refl)
hue-leaves-stamp c (Some way) first p enhanced clock =
    let t : Bool = same c.hue (hue_now first way p) (at_end p) in (
      cond_both (λ (x : Color). x.saturation ≡ c.saturation) t c _ (λ e. refl) (λ e. refl),
      cond_both
          (λ (x : Color). x.stamps.saturation ≡ c.stamps.saturation) t c _ (λ e. refl) (λ e. refl),
    )

module _ (l : Lamp) (clock : ℕ) (taken : cause l (Call.Step clock) ≡ accepted) where
  abbrev on : Lamp
  on = at_clock l clock

  answer-is : (r : Running) → l.running ≡ r → answer l (Call.Step clock) ≡ done (stepped on r)
  answer-is r e = granted-is l (Call.Step clock) taken ∙ ap (λ (x : Running). done (stepped on x)) e

  -- a pass whose notices report the number so
  reported-by : (n : ℕ) (number stamp : Color → ℕ) (new : ℕ) (end : Bool) (e : Effect) →
      answer l (Call.Step clock) ≡ done e → number e.lamp.color ≡ new → not (runs e.lamp.running) ≡ end →
      eqb n 0 ≡ false → ReportedWhere n e.reported (number l.color) new (stamp l.color) clock end →
      Reported n number stamp l clock (answer l (Call.Step clock))
  reported-by n number stamp new end e is set over z reported =
      subst (Reported n number stamp l clock) (sym is)
      (rw (set, over) (reported-as n (filled e.reported) _ new _ clock end (in-places n z e.reported ∙ reported)))

  -- a pass of the hue alone, which does not end
  hue-alone : (enhanced : Bool) (new : ℕ) (e : Effect) → answer l (Call.Step clock) ≡ done e → e.lamp.color.hue ≡ new →
      not (runs e.lamp.running) ≡ false →
      e.reported ≡ hue_reported l.color new false enhanced clock l.looping.active ++ (device_hue_saturation ∷ []) →
      (n : ℕ) → HueNotice n enhanced → Reported n (λ c. c.hue) (λ c. c.stamps.hue) l clock (answer l (Call.Step clock))
  hue-alone enhanced new e is set over list n h =
      let (z, device, time, others, dirty) = apart_from h in
      reported-by n (λ c. c.hue) (λ c. c.stamps.hue) new false e is set over z
      (ap (reports n) list
      ∙ but-for n (hue_reported l.color new false enhanced clock l.looping.active) (device_hue_saturation ∷ []) device
      ∙ hue-change-reported l.color new false clock l.looping.active h)

  -- CurrentHue, and in an enhanced move EnhancedCurrentHue: of a move to a hue, of a move at a rate and of the loop
  pub hue-to-reported : (run : HueSaturationRun) (way : ℤ) → l.running ≡ Running.HueSaturationMoveTo run →
      run.task.delta ≡ Some way →
      (n : ℕ) → HueNotice n run.task.enhanced →
      Reported n (λ c. c.hue) (λ c. c.stamps.hue) l clock (answer l (Call.Step clock))
  unfolding stepped hue_saturation_moved timed
  hue-to-reported run way e d n h =
      let p : ℕ = permille_of (clock - run.start) run.task.ms in
      let is = answer-is (Running.HueSaturationMoveTo run) e in
      let active : Bool = l.looping.active in
      let hued : Color = (hue_moved l.color run.task.delta run.hue p run.task.enhanced clock).color in
      let passed : Passed = hue_saturation_passed (found_in on) run p in
      let saturations : List ℕ = change_reported passed.second active in
      let (z, device, time, others, dirty) = apart_from h in
      reported-by n (λ c. c.hue) (λ c. c.stamps.hue) (hue_now run.hue way p) (at_end p)
      (stepped on (Running.HueSaturationMoveTo run)) is
      (sym (ap (λ (a : Answer). a.lamp.color.hue) is) ∙ (rw d at (step-shows l clock taken run e).hue))
      (ended_by (at_end p) (Running.HueSaturationMoveTo run) refl) z
      (but-for n (change_reported passed.first active) (reported_behind passed active)
      (but-for n (saturations ++ (device_hue_saturation ∷ [])) (only passed.time RemainingTime) (no-time n time passed.time)
      ∙ but-for n saturations (device_hue_saturation ∷ []) device
      ∙ no-saturation n others dirty hued run.task.saturation run.saturation p clock active)
      ∙ ap (λ (x : Option ℤ). reports n (change_reported (hue_moved l.color x run.hue p run.task.enhanced clock).change active)) d
      ∙ hue-change-reported l.color (hue_now run.hue way p) (at_end p) clock active h)

  pub hue-move-reported : (run : HueRun) → l.running ≡ Running.HueMove run →
      (n : ℕ) → HueNotice n run.task.enhanced →
      Reported n (λ c. c.hue) (λ c. c.stamps.hue) l clock (answer l (Call.Step clock))
  unfolding stepped hue_passed
  hue-move-reported run e n h =
      let now : ℕ = moved_hue run.hue (delta_at_rate (signed run.task.direction run.task.rate) (clock - run.start)) in
      hue-alone run.task.enhanced now (stepped on (Running.HueMove run)) (answer-is (Running.HueMove run) e)
      (hue-is-set l.color now false run.task.enhanced clock) refl refl n h

  pub loop-reported : (run : ColorLoopRun) → l.running ≡ loop_running run →
      (n : ℕ) → HueNotice n true → Reported n (λ c. c.hue) (λ c. c.stamps.hue) l clock (answer l (Call.Step clock))
  unfolding stepped loop_passed
  loop-reported run e n h =
      let now : ℕ = moved_hue run.hue (loop_delta run.task.direction (clock - run.start) run.task.seconds) in
      hue-alone true now (stepped on (loop_running run)) (answer-is (loop_running run) e)
      (hue-is-set l.color now false true clock) refl refl n h

  -- CurrentSaturation: of a move to a saturation, and of a move at a rate
  pub saturation-to-reported : (run : HueSaturationRun) (target : ℕ) → l.running ≡ Running.HueSaturationMoveTo run →
      run.task.saturation ≡ Some target →
      Reported CurrentSaturation (λ c. c.saturation) (λ c. c.stamps.saturation) l clock (answer l (Call.Step clock))
  unfolding stepped hue_saturation_moved timed
  saturation-to-reported run target e t =
      let p : ℕ = permille_of (clock - run.start) run.task.ms in
      let n : ℕ = CurrentSaturation in
      let active : Bool = l.looping.active in
      let now : ℕ = saturation_now run.saturation target p in
      let hued : Color = (hue_moved l.color run.task.delta run.hue p run.task.enhanced clock).color in
      let passed : Passed = hue_saturation_passed (found_in on) run p in
      let saturations : List ℕ = change_reported passed.second active in
      let (kept, stamp) = hue-leaves-stamp l.color run.task.delta run.hue p run.task.enhanced clock in
      reported-by n (λ c. c.saturation) (λ c. c.stamps.saturation) now (at_end p)
      (stepped on (Running.HueSaturationMoveTo run)) (answer-is (Running.HueSaturationMoveTo run) e)
      (ap (λ (x : Option ℕ). (saturation_moved hued x run.saturation p clock).color.saturation) t
      ∙ saturation-is-set hued now (at_end p) clock)
      (ended_by (at_end p) (Running.HueSaturationMoveTo run) refl) refl
      (reports-both n (change_reported passed.first active) (reported_behind passed active)
      ∙ ap (λ (b : Bool). b || reports n (reported_behind passed active))
      (no-hue l.color run.task.delta run.hue p run.task.enhanced clock active)
      ∙ but-for n (saturations ++ (device_hue_saturation ∷ [])) (only passed.time RemainingTime) (no-time n refl passed.time)
      ∙ but-for n saturations (device_hue_saturation ∷ []) refl
      ∙ ap (λ (x : Option ℕ). reports n (change_reported (saturation_moved hued x run.saturation p clock).change active)) t
      ∙ saturation-change-reported hued now (at_end p) clock active
      ∙ ap (λ (x : ℕ). not (same x now (at_end p)) && due (at_end p) hued.stamps.saturation clock) kept
      ∙ ap (λ (x : ℕ). not (same l.color.saturation now (at_end p)) && due (at_end p) x clock) stamp)

  pub saturation-move-reported : (run : SaturationRun) → l.running ≡ Running.SaturationMove run →
      Reported CurrentSaturation (λ c. c.saturation) (λ c. c.stamps.saturation) l clock (answer l (Call.Step clock))
  unfolding stepped saturation_passed
  saturation-move-reported run e =
      let now : ℕ = clamped_sum 0 saturation_limit run.saturation (delta_at_rate (signed run.task.direction run.task.rate) (clock - run.start)) in
      let end : Bool = saturation_done run.task.direction now in
      let active : Bool = l.looping.active in
      reported-by CurrentSaturation (λ c. c.saturation) (λ c. c.stamps.saturation) now end
      (stepped on (Running.SaturationMove run)) (answer-is (Running.SaturationMove run) e)
      (saturation-is-set l.color now end clock) (ended_by end (Running.SaturationMove run) refl) refl
      (but-for CurrentSaturation (saturation_reported l.color now end clock active) (device_hue_saturation ∷ []) refl
      ∙ saturation-change-reported l.color now end clock active)

  -- ColorTemperatureMireds: of a move to mireds, and of a move at a rate
  pub mireds-to-reported : (run : ColorTemperatureToRun) → l.running ≡ Running.ColorTemperatureMoveTo run →
      Reported ColorTemperatureMireds (λ c. c.mireds) (λ c. c.stamps.mireds) l clock (answer l (Call.Step clock))
  unfolding stepped temperature_to_moved timed
  mireds-to-reported run e =
      let p : ℕ = permille_of (clock - run.start) run.task.ms in
      let now : ℕ = mireds_now l.bounds run.mireds run.task.target p in
      let active : Bool = l.looping.active in
      let left : Bool = (temperature_to_passed (found_in on) run p).time in
      reported-by ColorTemperatureMireds (λ c. c.mireds) (λ c. c.stamps.mireds) now (at_end p)
      (stepped on (Running.ColorTemperatureMoveTo run)) (answer-is (Running.ColorTemperatureMoveTo run) e)
      (mireds-is-set l.color now (at_end p) clock) (ended_by (at_end p) (Running.ColorTemperatureMoveTo run) refl) refl
      (but-for ColorTemperatureMireds (mireds_reported l.color now (at_end p) clock active)
      ((device_mireds ∷ []) ++ only left RemainingTime) (no-time ColorTemperatureMireds refl left)
      ∙ mireds-change-reported l.color now (at_end p) clock active)

  pub mireds-move-reported : (run : ColorTemperatureRun) → l.running ≡ Running.ColorTemperatureMove run →
      Reported ColorTemperatureMireds (λ c. c.mireds) (λ c. c.stamps.mireds) l clock (answer l (Call.Step clock))
  unfolding stepped temperature_passed
  mireds-move-reported run e =
      let now : ℕ = clamped_sum run.lo run.hi run.mireds (delta_at_rate run.rate (clock - run.start)) in
      let end : Bool = mireds_done run.rate run.lo run.hi now in
      let active : Bool = l.looping.active in
      reported-by ColorTemperatureMireds (λ c. c.mireds) (λ c. c.stamps.mireds) now end
      (stepped on (Running.ColorTemperatureMove run)) (answer-is (Running.ColorTemperatureMove run) e)
      (mireds-is-set l.color now end clock) (ended_by end (Running.ColorTemperatureMove run) refl) refl
      (but-for ColorTemperatureMireds (mireds_reported l.color now end clock active) (device_mireds ∷ []) refl
      ∙ mireds-change-reported l.color now end clock active)
