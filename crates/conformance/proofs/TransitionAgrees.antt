-- The port's transition is the text's at its start, at its end and wherever the elapsed time is a whole number of thousandths
-- of the time; between, it is behind the text's by less than a thousandth of the way and one unit, and never ahead.
use Prim.Native.Nat.{ℕ, zero, suc, ◌+◌, ◌-◌, ◌*◌, ◌/◌, ◌≤◌, ◌<◌, min}
use mathlib.Core.Bool.{Bool, true, false, cond}
use mathlib.Core.Path.{◌≡◌, refl, sym, ap, ◌∙◌}
use native.Mathlib.Nat.{le-div_iff_mul-le, div-lt_iff_lt-mul, mul-le-mul_left, mul-le-mul_right, mul_comm, mul_assoc, mul_right_comm, one-mul, zero-mul, div-eq_of_eq-mul_left, mul-add, add-mul, zero-div, mul-zero, div-mul-le_self, lt-div-mul-add, mul-div-mul_right, div-eq_of_lt}
use native.Mathlib.Omega.{arith}
use Rattle.std.proofs.lemmas.Bool.Decides.{nat_tests}
use Rattle.std.proofs.lemmas.Int.{ints}
use lib.Dec.{leb}
use lib.IntN.{ℤ, pos, neg_ℤ, nat_abs, ◌-ℤ◌}
use borrow.Author.Tests.{leb-true, leb-false, le-leb, lt-leb}
use Rattle.matter.specs.declared.enums.StepModeEnum.{StepModeEnum}
use Rattle.matter.proofs.Laws.{cond_both}
use Rattle.hue.specs.Hue.{moved_hue}
use Rattle.integers.proofs.Sizes.{abs_neg}
use Rattle.progress.specs.Progress.{permille_of, part_of, clamped_sum}
use Rattle.progress.proofs.Laws.{permille-is, permille-full, permille-short, part-down, part-size, part-within, part-whole}
use Rattle.commands.specs.Commands.{step_delta}
use Rattle.conformance.specs.Limits.{away}
use Rattle.conformance.specs.Steps.{enhanced_hue_maximum, hue_step_to}
use Rattle.conformance.proofs.StepsAgree.{within-up, within-down, hue-step-agrees}
use Rattle.conformance.specs.Transition.{travelled, on_line, line_at}

-- the size of the port's part, so long after the start
abbrev pub gone : ℤ → ℕ → ℕ → ℕ
gone way elapsed time = nat_abs (part_of way (permille_of elapsed time))

-- ---- the arithmetic: s the way, e the time elapsed, t the time, p the thousandths, g the part

module _ (s e t p g : ℕ) where
  -- products written another way round
  part-time : g * 1000 * t ≡ g * t * 1000
  part-time = mul_right_comm g 1000 t

  way-elapsed : s * (e * 1000) ≡ s * e * 1000
  way-elapsed = sym (mul_assoc s e 1000)

  way-permille : s * p * t ≡ s * (p * t)
  way-permille = mul_assoc s p t

  never-ahead : g * 1000 ≤ s * p → p * t ≤ e * 1000 → g * t ≤ s * e
  never-ahead h k =
      omega (arith, part-time, way-elapsed, way-permille, mul-le-mul_right t h, mul-le-mul_left s k)

  little-behind : 0 < t → s * p < g * 1000 + 1000 → e * 1000 < p * t + t → s * e * 1000 < (g + 1) * t * 1000 + s * t
  little-behind z h k =
      let a : (s * p + 1) * t ≤ (g * 1000 + 1000) * t = mul-le-mul_right t (omega arith) in
      let b : s * (e * 1000) ≤ s * (p * t + t) = mul-le-mul_left s (omega arith) in
      omega (arith, part-time, way-elapsed, way-permille, add-mul (s * p) 1 t, add-mul (g * 1000) 1000 t, mul-add s (p * t) t, add-mul g 1 t)

whole-thousandths : (s e t k : ℕ) → 0 < t → e * 1000 ≡ k * t → s * k / 1000 ≡ s * e / t
whole-thousandths s e t k h f =
    let a : s * e * 1000 ≡ s * k * t = mul_assoc s e 1000 ∙ ap (λ (x : ℕ). s * x) f ∙ sym (mul_assoc s k t) in
    sym (mul-div-mul_right (s * k) 1000 h) ∙ ap (λ (x : ℕ). x / (1000 * t)) (sym a) ∙ ap (λ (x : ℕ). s * e * 1000 / x) (mul_comm 1000 t) ∙ mul-div-mul_right (s * e) t (omega arith)

-- of two units, one is behind from the middle on
two-by : (e t : ℕ) (b : Bool) → leb t (2 * e) ≡ b → e < t → 2 * (e * 1000 / t) / 1000 ≡ 2 * e / t
two-by e t true f h =
    let l : t ≤ 2 * e = leb-true t (2 * e) f in
    let a : 500 ≤ e * 1000 / t = (le-div_iff_mul-le {k = t} {x = 500} {y = e * 1000} (omega arith)).1 (omega arith) in
    let b : e * 1000 / t < 1000 = (div-lt_iff_lt-mul {k = t} {x = e * 1000} {y = 1000} (omega arith)).1 (omega arith) in
    let c : 1 ≤ 2 * e / t = (le-div_iff_mul-le {k = t} {x = 1} {y = 2 * e} (omega arith)).1 (omega arith) in
    let d : 2 * e / t < 2 = (div-lt_iff_lt-mul {k = t} {x = 2 * e} {y = 2} (omega arith)).1 (omega arith) in
    omega arith
two-by e t false f h =
    let l : 2 * e < t = leb-false t (2 * e) f in
    let b : e * 1000 / t < 500 = (div-lt_iff_lt-mul {k = t} {x = e * 1000} {y = 500} (omega arith)).1 (omega arith) in
    let d : 2 * e / t ≡ 0 = div-eq_of_lt l in
    omega arith

two-or-less : (s e t : ℕ) → e < t → s ≤ 2 → s * (e * 1000 / t) / 1000 ≡ s * e / t
two-or-less zero e t h k = rw (zero-mul (e * 1000 / t), zero-mul e, zero-div t)
two-or-less (suc zero) e t h k =
    let b : e * 1000 / t < 1000 = (div-lt_iff_lt-mul {k = t} {x = e * 1000} {y = 1000} (omega arith)).1 (omega arith) in
    let d : e / t ≡ 0 = div-eq_of_lt h in
    rw (one-mul (e * 1000 / t), one-mul e) (omega arith)
two-or-less (suc (suc zero)) e t h k = two-by e t (leb t (2 * e)) refl h
two-or-less (suc (suc (suc n))) e t h k = absurd (omega arith)

module _ (way : ℤ) (time : ℕ) where
  -- at the time and after it: the whole way, in both
  pub transition-end : (elapsed : ℕ) → time ≤ elapsed → gone way elapsed time ≡ travelled (nat_abs way) elapsed time
  unfolding travelled
  transition-end elapsed h =
      rw (le-leb time elapsed h) (ap (λ (p : ℕ). nat_abs (part_of way p)) (permille-full elapsed time h) ∙ ap nat_abs (part-whole way))

  -- at the start of a time: nothing, in both
  pub gone-first : 0 < time → gone way 0 time ≡ 0
  gone-first h =
      ap (λ (p : ℕ). nat_abs (part_of way p)) (permille-is 0 time h ∙ ap (min 1000) (zero-div time)) ∙ part-size way 0
      ∙ rw (mul-zero (nat_abs way))

  pub transition-start : 0 < time → gone way 0 time ≡ travelled (nat_abs way) 0 time
  unfolding travelled
  transition-start h = rw (lt-leb time 0 h, mul-zero (nat_abs way), zero-div time) (gone-first h)

  module _ (elapsed : ℕ) (before : elapsed < time) where
    -- before the time, the quotients
    permille-before : permille_of elapsed time ≡ elapsed * 1000 / time
    permille-before = omega (arith, permille-is elapsed time (omega arith), permille-short elapsed time before)

    travelled-before : travelled (nat_abs way) elapsed time ≡ nat_abs way * elapsed / time
    unfolding travelled
    travelled-before = rw (lt-leb time elapsed before)

    gone-before : gone way elapsed time ≡ nat_abs way * (elapsed * 1000 / time) / 1000
    gone-before = part-size way (permille_of elapsed time) ∙ ap (λ (p : ℕ). nat_abs way * p / 1000) permille-before

    -- never ahead
    pub transition-not-ahead : gone way elapsed time ≤ travelled (nat_abs way) elapsed time
    transition-not-ahead =
        rw (travelled-before, gone-before)
        ((le-div_iff_mul-le {k = time} {x = nat_abs way * (elapsed * 1000 / time) / 1000} {y = nat_abs way * elapsed} (omega arith)).1
        (never-ahead (nat_abs way) elapsed time (elapsed * 1000 / time) (nat_abs way * (elapsed * 1000 / time) / 1000) (omega arith) (div-mul-le_self (elapsed * 1000) time)))

    -- behind by less than one unit and a thousandth of the way: way × elapsed / time < gone + 1 + way / 1000, multiplied out
    pub transition-near : nat_abs way * elapsed * 1000 < (gone way elapsed time + 1) * time * 1000 + nat_abs way * time
    transition-near =
        rw gone-before
        (little-behind (nat_abs way) elapsed time (elapsed * 1000 / time) (nat_abs way * (elapsed * 1000 / time) / 1000) (omega arith) (omega arith) (lt-div-mul-add (omega arith)))

    -- equal where the elapsed time is a whole number of thousandths of the time
    pub transition-exact : (k : ℕ) → elapsed * 1000 ≡ k * time → gone way elapsed time ≡ travelled (nat_abs way) elapsed time
    transition-exact k h =
        gone-before ∙ ap (λ (q : ℕ). nat_abs way * q / 1000) (div-eq_of_eq-mul_left {k = k} (omega arith) h) ∙ whole-thousandths (nat_abs way) elapsed time k (omega arith) h ∙ sym travelled-before

    -- equal on ways of two units or less
    pub transition-small : nat_abs way ≤ 2 → gone way elapsed time ≡ travelled (nat_abs way) elapsed time
    transition-small h = gone-before ∙ two-or-less (nat_abs way) elapsed time before h ∙ sym travelled-before

-- the text's whole units before the time: that share of the way is behind and one unit more is not
pub travelled-exact : (size elapsed time : ℕ) → elapsed < time → (travelled size elapsed time * time ≤ size * elapsed) × (size * elapsed < travelled size elapsed time * time + time)
unfolding travelled
travelled-exact size elapsed time h =
    rw (lt-leb time elapsed h) (div-mul-le_self (size * elapsed) time, lt-div-mul-add (omega arith))

-- the smallest way that differs: 3 units in 300 ms, after 100 ms
pub transition-differs : (gone (pos 3) 100 300 ≡ 0) × (travelled 3 100 300 ≡ 1)
unfolding permille_of travelled
transition-differs = (refl, refl)

-- ---- the hue: so many places up or down on the circle, one by one

pub circle-agrees : (mode : StepModeEnum) (size elapsed time hue : ℕ) → hue < 65536 →
    moved_hue hue (part_of (step_delta mode size) (permille_of elapsed time))
    ≡ hue_step_to mode enhanced_hue_maximum (gone (step_delta mode size) elapsed time) hue
circle-agrees StepModeEnum.Up size elapsed time hue h =
    hue-step-agrees StepModeEnum.Up hue (gone (pos size) elapsed time) h
circle-agrees StepModeEnum.Down size elapsed time hue h =
    let part : ℕ = size * permille_of elapsed time / 1000 in
    let down : part_of (neg_ℤ (pos size)) (permille_of elapsed time) ≡ neg_ℤ (pos part) = part-down size (permille_of elapsed time) in
    ap (moved_hue hue) down ∙ hue-step-agrees StepModeEnum.Down hue part h
    ∙ sym (ap (λ (z : ℤ). hue_step_to StepModeEnum.Down enhanced_hue_maximum (nat_abs z) hue) down
    ∙ ap (λ (n : ℕ). hue_step_to StepModeEnum.Down enhanced_hue_maximum n hue) (abs_neg (pos part)))

-- at the time and after it, the whole way
pub way-ends : (way : ℤ) (elapsed time : ℕ) → time ≤ elapsed → part_of way (permille_of elapsed time) ≡ way
way-ends way elapsed time h = ap (part_of way) (permille-full elapsed time h) ∙ part-whole way

-- ---- saturation and mireds: numbers on a line, clamped to their bounds

-- the way from a start to a target above it, and below it
way_up : (s t : ℕ) → s ≤ t → pos t -ℤ pos s ≡ pos (t - s)
way_up s t h = omega (arith, ints)

way_down : (s t : ℕ) → t < s → pos t -ℤ pos s ≡ neg_ℤ (pos (s - t))
way_down s t h = omega (arith, ints)

module _ (lo hi start target p : ℕ) (few : p ≤ 1000) where
  -- a number on its way to a target above it: the start and the part
  line-up : lo ≤ start → start ≤ target → target ≤ hi →
      clamped_sum lo hi start (part_of (pos target -ℤ pos start) p)
      ≡ start + nat_abs (part_of (pos target -ℤ pos start) p)
  line-up low h high =
      let w : pos target -ℤ pos start ≡ pos (target - start) = way_up start target h in
      let k : (target - start) * p / 1000 ≤ target - start = part-within (pos (target - start)) p few in
      ap (λ (z : ℤ). clamped_sum lo hi start (part_of z p)) w
      ∙ within-up lo hi start ((target - start) * p / 1000) low ∙ omega arith
      ∙ sym (ap (λ (z : ℤ). start + nat_abs (part_of z p)) w)

  -- and to one below it: the start less the part
  line-down : lo ≤ target → target < start → start ≤ hi →
      clamped_sum lo hi start (part_of (pos target -ℤ pos start) p)
      ≡ start - nat_abs (part_of (pos target -ℤ pos start) p)
  line-down low h high =
      let w : part_of (pos target -ℤ pos start) p ≡ neg_ℤ (pos ((start - target) * p / 1000)) = ap (λ (z : ℤ). part_of z p) (way_down start target h) ∙ part-down (start - target) p in
      let k : (start - target) * p / 1000 ≤ start - target = part-within (pos (start - target)) p few in
      ap (clamped_sum lo hi start) w ∙ within-down lo hi start ((start - target) * p / 1000) (omega arith) high
      ∙ omega arith
      ∙ sym (ap (λ (z : ℤ). start - nat_abs z) w
      ∙ ap (λ (n : ℕ). start - n) (abs_neg (pos ((start - target) * p / 1000))))

-- at permille 1000 the target, which is the start and the whole way
module _ (start target p : ℕ) (few : p ≤ 1000) where
  whole-up : start ≤ target → leb 1000 p ≡ true → target ≡ start + nat_abs (part_of (pos target -ℤ pos start) p)
  whole-up h e =
      let q : p ≡ 1000 = omega (arith, leb-true 1000 p e) in
      sym (ap (λ (n : ℕ). start + nat_abs (part_of (pos target -ℤ pos start) n)) q
      ∙ ap (λ (z : ℤ). start + nat_abs z) (part-whole (pos target -ℤ pos start) ∙ way_up start target h) ∙ omega arith)

  whole-down : target < start → leb 1000 p ≡ true → target ≡ start - nat_abs (part_of (pos target -ℤ pos start) p)
  whole-down h e =
      let q : p ≡ 1000 = omega (arith, leb-true 1000 p e) in
      sym (ap (λ (n : ℕ). start - nat_abs (part_of (pos target -ℤ pos start) n)) q
      ∙ ap (λ (z : ℤ). start - nat_abs z) (part-whole (pos target -ℤ pos start) ∙ way_down start target h)
      ∙ ap (λ (n : ℕ). start - n) (abs_neg (pos (start - target))) ∙ omega arith)

-- what a pass sets at so many thousandths: the number on its line, as many units on as the part is large
module _ (lo hi start target p : ℕ) (few : p ≤ 1000)
    (low : lo ≤ start) (high : start ≤ hi) (above : lo ≤ target) (below : target ≤ hi) where
  line-by : (b : Bool) → leb start target ≡ b →
      cond (leb 1000 p) target (clamped_sum lo hi start (part_of (pos target -ℤ pos start) p))
      ≡ cond b (start + nat_abs (part_of (pos target -ℤ pos start) p))
      (start - nat_abs (part_of (pos target -ℤ pos start) p))
  line-by true e =
      let h : start ≤ target = leb-true start target e in
      cond_both (λ (n : ℕ). n ≡ start + nat_abs (part_of (pos target -ℤ pos start) p)) (leb 1000 p) target _
      (whole-up start target p few h)
      (λ e. line-up lo hi start target p few low h below)
  line-by false e =
      let h : target < start = leb-false start target e in
      cond_both (λ (n : ℕ). n ≡ start - nat_abs (part_of (pos target -ℤ pos start) p)) (leb 1000 p) target _
      (whole-down start target p few h)
      (λ e. line-down lo hi start target p few above h high)

  pub line-is : cond (leb 1000 p) target (clamped_sum lo hi start (part_of (pos target -ℤ pos start) p))
      ≡ on_line start target (nat_abs (part_of (pos target -ℤ pos start) p))
  line-is = line-by (leb start target) refl

-- the size of the way on a line
module _ (from to : ℕ) where
  way-size : nat_abs (pos to -ℤ pos from) ≡ away from to
  way-size = omega (arith, ints)

  -- no way from a number to itself
  pub no-delta : from ≡ to → pos to -ℤ pos from ≡ pos 0
  no-delta e = way_up from to (omega arith) ∙ ap pos (omega arith)

  module _ (elapsed time : ℕ) where
    -- wherever the port's part is the text's (above), the number is
    pub line-agrees : gone (pos to -ℤ pos from) elapsed time ≡ travelled (nat_abs (pos to -ℤ pos from)) elapsed time →
        on_line from to (gone (pos to -ℤ pos from) elapsed time) ≡ line_at from to elapsed time
    line-agrees e = ap (on_line from to) (e ∙ ap (λ (n : ℕ). travelled n elapsed time) way-size)

    -- and at the time and after it the text's is the number moved to
    pub line-arrives : time ≤ elapsed → line_at from to elapsed time ≡ to
    unfolding travelled
    line-arrives h = grind (arith, nat_tests)
