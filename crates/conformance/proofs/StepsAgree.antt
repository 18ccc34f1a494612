-- The port's steps and moves at a rate are the text's, unit by unit: of saturation and mireds within their bounds, of the hue
-- on the circle of 65,536. Of a plain hue, below 65,280, they are up to 254 and down to one below 0.
use Prim.Native.Nat.{ℕ, zero, suc, ◌+◌, ◌-◌, ◌*◌, ◌/◌, ◌%◌, ◌≤◌, ◌<◌, min, max}
use mathlib.Core.Bool.{Bool, true, false, cond, true≢false}
use mathlib.Core.Path.{◌≡◌, refl, sym, ap, ◌∙◌}
use native.Mathlib.Nat.{mul_assoc, mul_right_comm}
use native.Mathlib.Omega.{arith}
use Rattle.std.proofs.lemmas.Int.{ints}
use Rattle.std.proofs.lemmas.Bool.Decides.{nat_tests}
use lib.Dec.{leb, eqb}
use lib.IntN.{pos, negsuc, neg_ℤ, ◌+ℤ◌}
use borrow.Author.Tests.{leb-true, leb-false, eqb-true, ne_eqb}
use Rattle.integers.proofs.Signs.{neg-mul, neg-quot}
use Rattle.matter.specs.declared.enums.MoveModeEnum.{MoveModeEnum}
use Rattle.matter.specs.declared.enums.StepModeEnum.{StepModeEnum}
use Rattle.matter.specs.Limits.{clock_limit}
use Rattle.hue.specs.Hue.{moved_hue, current_hue}
use Rattle.hue.proofs.Laws.{moved_up, moved_down}
use Rattle.progress.specs.Progress.{delta_at_rate, clamp, clamped_sum}
use Rattle.matter.specs.Rules.{signed}
use Rattle.lamp.specs.Passes.{saturation_done, mireds_done}
use Rattle.commands.specs.Commands.{step_delta, saturation_step, stored}
use Rattle.conformance.specs.Steps.{enhanced_hue_maximum, hue_maximum, saturation_maximum, times, unit_up, unit_down, hue_up, hue_down, steps_made, step_to, move_to, hue_step_to, hue_move_to}

-- ---- what so many units come to

up_by : (top n : ℕ) → n ≤ top → cond (leb top n) n (n + 1) ≡ min top (n + 1)
up_by top n h = grind (arith, nat_tests)

pub units-up : (top k n : ℕ) → n ≤ top → times k (unit_up top) n ≡ min top (n + k)
unfolding unit_up
units-up top zero n h = omega arith
units-up top (suc k) n h =
    let r : times k (unit_up top) n ≡ min top (n + k) = units-up top k n h in
    up_by top (times k (unit_up top) n) (omega arith) ∙ omega arith

down_by : (low n : ℕ) → low ≤ n → cond (leb n low) n (n - 1) ≡ max low (n - 1)
down_by low n h = grind (arith, nat_tests)

pub units-down : (low k n : ℕ) → low ≤ n → times k (unit_down low) n ≡ max low (n - k)
unfolding unit_down
units-down low zero n h = omega arith
units-down low (suc k) n h =
    let r : times k (unit_down low) n ≡ max low (n - k) = units-down low k n h in
    down_by low (times k (unit_down low) n) (omega arith) ∙ omega arith

-- a hue of the circle of 65,536
hue-up-by : (n : ℕ) → n < 65536 → cond (eqb n 65535) 0 (n + 1) ≡ (n + 1) % 65536
hue-up-by n h = grind (arith, nat_tests)

pub hue-units-up : (k n : ℕ) → n < 65536 → times k (hue_up 65535) n ≡ (n + k) % 65536
unfolding hue_up
hue-units-up zero n h = omega arith
hue-units-up (suc k) n h =
    let r : times k (hue_up 65535) n ≡ (n + k) % 65536 = hue-units-up k n h in
    hue-up-by (times k (hue_up 65535) n) (omega arith) ∙ omega arith

hue-down-by : (n : ℕ) → n < 65536 → cond (eqb n 0) 65535 (n - 1) ≡ (n + 65535) % 65536
hue-down-by n h = grind (arith, nat_tests)

-- a remainder in a sum, and one place further down
in_sum : (x y : ℕ) → (x % 65536 + y) % 65536 ≡ (x + y) % 65536
in_sum x y = omega arith

one_further : (n k : ℕ) → (n + (65536 - k % 65536) + 65535) % 65536 ≡ (n + (65536 - suc k % 65536)) % 65536
one_further n k = omega arith

pub hue-units-down : (k n : ℕ) → n < 65536 → times k (hue_down 65535) n ≡ (n + (65536 - k % 65536)) % 65536
unfolding hue_down
hue-units-down zero n h = omega arith
hue-units-down (suc k) n h =
    let r : times k (hue_down 65535) n ≡ (n + (65536 - k % 65536)) % 65536 = hue-units-down k n h in
    hue-down-by (times k (hue_down 65535) n) (omega arith)
    ∙ ap (λ (x : ℕ). (x + 65535) % 65536) r ∙ in_sum (n + (65536 - k % 65536)) 65535 ∙ one_further n k

-- ---- the port's sums, clamped to their bounds

pub within-up : (lo hi n k : ℕ) → lo ≤ n → clamped_sum lo hi n (pos k) ≡ min hi (n + k)
unfolding clamp
within-up lo hi n k h = grind (arith, nat_tests)

pub within-down : (lo hi n k : ℕ) → lo ≤ n → n ≤ hi → clamped_sum lo hi n (neg_ℤ (pos k)) ≡ max lo (n - k)
unfolding clamp
within-down lo hi n k h g = grind (arith, nat_tests, ints)

-- ---- steps

module _ (lo hi n size : ℕ) (low : lo ≤ n) (high : n ≤ hi) where
  -- a step of mireds from within its bounds
  pub mireds-step-agrees : (mode : StepModeEnum) → clamp lo hi (pos n +ℤ step_delta mode size) ≡ step_to mode lo hi size n
  mireds-step-agrees StepModeEnum.Up = within-up lo hi n size low ∙ sym (units-up hi size n high)
  mireds-step-agrees StepModeEnum.Down = within-down lo hi n size low high ∙ sym (units-down lo size n low)

-- a step of saturation
pub saturation-step-agrees : (mode : StepModeEnum) (n size : ℕ) → n ≤ 254 → saturation_step mode n size ≡ step_to mode 0 saturation_maximum size n
saturation-step-agrees StepModeEnum.Up n size h = sym (units-up 254 size n h)
saturation-step-agrees StepModeEnum.Down n size h = omega (arith, units-down 0 size n (omega arith))

-- a step of the enhanced hue
pub hue-step-agrees : (mode : StepModeEnum) (n size : ℕ) → n < 65536 → moved_hue n (step_delta mode size) ≡ hue_step_to mode enhanced_hue_maximum size n
hue-step-agrees StepModeEnum.Up n size h = moved_up n size ∙ sym (hue-units-up size n h)
hue-step-agrees StepModeEnum.Down n size h = moved_down n size ∙ sym (hue-units-down size n h)

-- ---- moves at a rate

rate-up : (rate elapsed : ℕ) → elapsed ≤ clock_limit → delta_at_rate (pos rate) elapsed ≡ pos (steps_made rate elapsed)
rate-up rate elapsed h = let e : min elapsed clock_limit ≡ elapsed = omega arith in rw e

rate-down : (rate elapsed : ℕ) → elapsed ≤ clock_limit → delta_at_rate (neg_ℤ (pos rate)) elapsed ≡ neg_ℤ (pos (steps_made rate elapsed))
rate-down rate elapsed h = let e : min elapsed clock_limit ≡ elapsed = omega arith in rw (e, neg-mul, neg-quot)

module _ (rate elapsed : ℕ) (timely : elapsed ≤ clock_limit) where
  nothing : 0 * min elapsed clock_limit / 1000 ≡ 0
  nothing = omega arith

  -- of saturation and of mireds, from within their bounds
  pub move-agrees : (mode : MoveModeEnum) (lo hi n : ℕ) → lo ≤ n → n ≤ hi → clamped_sum lo hi n (delta_at_rate (signed mode rate) elapsed) ≡ move_to mode lo hi (steps_made rate elapsed) n
  move-agrees MoveModeEnum.Stop lo hi n low high = ap (λ (k : ℕ). clamped_sum lo hi n (pos k)) nothing ∙ within-up lo hi n 0 low ∙ omega arith
  move-agrees MoveModeEnum.Up lo hi n low high =
      ap (clamped_sum lo hi n) (rate-up rate elapsed timely) ∙ within-up lo hi n (steps_made rate elapsed) low ∙ sym (units-up hi (steps_made rate elapsed) n high)
  move-agrees MoveModeEnum.Down lo hi n low high =
      ap (clamped_sum lo hi n) (rate-down rate elapsed timely) ∙ within-down lo hi n (steps_made rate elapsed) low high ∙ sym (units-down lo (steps_made rate elapsed) n low)

  -- of the enhanced hue
  pub hue-move-agrees : (mode : MoveModeEnum) (n : ℕ) → n < 65536 → moved_hue n (delta_at_rate (signed mode rate) elapsed) ≡ hue_move_to mode enhanced_hue_maximum (steps_made rate elapsed) n
  hue-move-agrees MoveModeEnum.Stop n h = ap (λ (k : ℕ). moved_hue n (pos k)) nothing ∙ moved_up n 0 ∙ omega arith
  hue-move-agrees MoveModeEnum.Up n h =
      ap (moved_hue n) (rate-up rate elapsed timely) ∙ moved_up n (steps_made rate elapsed) ∙ sym (hue-units-up (steps_made rate elapsed) n h)
  hue-move-agrees MoveModeEnum.Down n h =
      ap (moved_hue n) (rate-down rate elapsed timely) ∙ moved_down n (steps_made rate elapsed) ∙ sym (hue-units-down (steps_made rate elapsed) n h)

-- from outside its bounds the port's mireds jump to the nearer bound at once, against the direction too; the text does not say
-- what happens there, and unit by unit it would not: the smallest is from 0 up to 1, going down
pub mireds-jump : (clamped_sum 1 2 0 (delta_at_rate (signed MoveModeEnum.Down 1) 0) ≡ 1) × (move_to MoveModeEnum.Down 1 2 (steps_made 1 0) 0 ≡ 0)
unfolding clamp
mireds-jump = (refl, refl)

-- a move ends where the text's stops: a saturation at the end it heads for
pub saturation-stops : (mode : MoveModeEnum) (n : ℕ) → saturation_done mode n ≡ true → (units : ℕ) → move_to mode 0 saturation_maximum units n ≡ n
saturation-stops MoveModeEnum.Stop n e units = refl
saturation-stops MoveModeEnum.Up n e units = let z : n ≡ 254 = eqb-true n 254 e in omega (arith, units-up 254 units n (omega arith))
saturation-stops MoveModeEnum.Down n e units = let z : n ≡ 0 = eqb-true n 0 e in omega (arith, units-down 0 units n (omega arith))

-- and a mired at the bound it heads for
pub mireds-up-done : (lo hi n rate : ℕ) → mireds_done (pos rate) lo hi n ≡ true → n ≡ hi
mireds-up-done lo hi n rate e = grind (arith, nat_tests)

pub mireds-down-done : (lo hi n rate : ℕ) → mireds_done (neg_ℤ (pos rate)) lo hi n ≡ true → n ≡ lo
mireds-down-done lo hi n zero e = absurd (true≢false (sym e))
mireds-down-done lo hi n (suc rate) e = eqb-true n lo e

pub mireds-stop-up : (lo hi n rate : ℕ) → mireds_done (pos rate) lo hi n ≡ true → (units : ℕ) → times units (unit_up hi) n ≡ n
mireds-stop-up lo hi n rate e units =
    let z : n ≡ hi = mireds-up-done lo hi n rate e in
    omega (arith, units-up hi units n (omega arith))

pub mireds-stop-down : (lo hi n rate : ℕ) → mireds_done (negsuc rate) lo hi n ≡ true → (units : ℕ) → times units (unit_down lo) n ≡ n
mireds-stop-down lo hi n rate e units =
    let z : n ≡ lo = eqb-true n lo e in
    omega (arith, units-down lo units n (omega arith))

-- ---- plain hues: 0 to 254 in the text; in the port 256 stored places each, of which the last 512 show 254

-- CurrentHue after a plain step
abbrev stepped : StepModeEnum → ℕ → ℕ → ℕ
stepped mode size hue = current_hue (moved_hue hue (step_delta mode (stored size)))

-- without a wrap a plain move or step shows what the text's does
plain_by : (top k n : ℕ) → n + k ≤ top → times k (hue_up top) n ≡ n + k
unfolding hue_up
plain_by top zero n h = omega arith
plain_by top (suc k) n h =
    let r : times k (hue_up top) n ≡ n + k = plain_by top k n (omega arith) in
    rw (ne_eqb (times k (hue_up top) n) top (λ e. omega arith)) (omega arith)

pub plain-step-agrees : (hue size : ℕ) → hue < 65280 → current_hue hue + size ≤ 254 →
    stepped StepModeEnum.Up size hue ≡ hue_step_to StepModeEnum.Up hue_maximum size (current_hue hue)
plain-step-agrees hue size h k =
    rw (moved_up hue (stored size), plain_by 254 size (current_hue hue) k) (omega arith)

-- and so does any step up from the last 256, which the text sees at 254
past_top : (k : ℕ) → k ≤ 254 → times (suc k) (hue_up 254) 254 ≡ k
unfolding hue_up
past_top zero h = refl
past_top (suc k) h =
    let r : times (suc k) (hue_up 254) 254 ≡ k = past_top k (omega arith) in
    rw (r, ne_eqb k 254 (λ e. omega arith)) (omega arith)

pub plain-step-last-agrees : (hue size : ℕ) → 65280 ≤ hue → hue < 65536 → size ≤ 255 →
    stepped StepModeEnum.Up size hue ≡ hue_step_to StepModeEnum.Up hue_maximum size (current_hue hue)
plain-step-last-agrees hue zero l h k = rw (moved_up hue (stored zero)) (omega arith)
plain-step-last-agrees hue (suc size) l h k =
    let last : current_hue hue ≡ 254 = omega arith in
    rw (moved_up hue (stored (suc size)), last, past_top size (omega arith)) (omega arith)

-- down, as far as one below 0, which the text makes 254, and the port shows so
plain-down-by : (top k n : ℕ) → k ≤ n → times k (hue_down top) n ≡ n - k
unfolding hue_down
plain-down-by top zero n h = omega arith
plain-down-by top (suc k) n h =
    let r : times k (hue_down top) n ≡ n - k = plain-down-by top k n (omega arith) in
    rw (ne_eqb (times k (hue_down top) n) 0 (λ e. omega arith)) (omega arith)

module _ (n hue : ℕ) (small : n ≤ 254) (low : n * 256 ≤ hue) (high : hue < suc n * 256) where
  within : (size : ℕ) → size ≤ n → current_hue ((hue + (65536 - stored size % 65536)) % 65536) ≡ n - size
  within size h =
      let whole : stored size % 65536 ≡ size * 256 = omega arith in
      let moved : (hue + (65536 - size * 256)) % 65536 ≡ hue - size * 256 = omega arith in
      rw (whole, moved) (omega arith)

  one_below : current_hue ((hue + (65536 - stored (suc n) % 65536)) % 65536) ≡ 254
  one_below =
      let whole : stored (suc n) % 65536 ≡ suc n * 256 = omega arith in
      let moved : (hue + (65536 - suc n * 256)) % 65536 ≡ hue + (65536 - suc n * 256) = omega arith in
      rw (whole, moved) (omega arith)

down-by-order : (n hue size : ℕ) (b : Bool) → leb size n ≡ b → n ≤ 254 → n * 256 ≤ hue → hue < suc n * 256 → size ≤ suc n →
    stepped StepModeEnum.Down size hue ≡ hue_step_to StepModeEnum.Down hue_maximum size n
unfolding hue_down
down-by-order n hue size true e small low high k =
    let l : size ≤ n = leb-true size n e in
    rw (moved_down hue (stored size), plain-down-by 254 size n l) (within n hue small low high size l)
down-by-order n hue size false e small low high k =
    let past : size ≡ suc n = omega (arith, leb-false size n e) in
    let at-0 : times n (hue_down hue_maximum) n ≡ 0 = omega (arith, plain-down-by 254 n n (omega arith)) in
    rw (past, moved_down hue (stored (suc n)), at-0) (one_below n hue small low high)

pub plain-step-down-agrees : (hue size : ℕ) → hue < 65280 → size ≤ suc (current_hue hue) →
    stepped StepModeEnum.Down size hue ≡ hue_step_to StepModeEnum.Down hue_maximum size (current_hue hue)
plain-step-down-agrees hue size h k =
    down-by-order (current_hue hue) hue size (leb size (current_hue hue)) refl (omega arith) (omega arith) (omega arith) k

-- past 254 the text goes on from 0, and the port shows 254 again: the smallest step is of 1 from 65,024
pub plain-step-differs : (stepped StepModeEnum.Up 1 65024 ≡ 254) × (hue_step_to StepModeEnum.Up hue_maximum 1 (current_hue 65024) ≡ 0)
unfolding moved_hue hue_up
plain-step-differs = (refl, refl)

-- and down of 1 from 65,280, from 254 to 254
pub plain-step-down-differs : (stepped StepModeEnum.Down 1 65280 ≡ 254) × (hue_step_to StepModeEnum.Down hue_maximum 1 (current_hue 65280) ≡ 253)
unfolding moved_hue hue_down
plain-step-down-differs = (refl, refl)

-- a plain rate is 256 enhanced units a second: the same numbers of plain units
pub plain-rate : (rate seconds : ℕ) → steps_made (stored rate) (seconds * 1000) ≡ stored (steps_made rate (seconds * 1000))
plain-rate rate seconds =
    let a : rate * 256 * (seconds * 1000) ≡ rate * seconds * 256 * 1000 = sym (mul_assoc (rate * 256) seconds 1000) ∙ ap (λ (x : ℕ). x * 1000) (mul_right_comm rate 256 seconds) in
    let b : rate * (seconds * 1000) ≡ rate * seconds * 1000 = sym (mul_assoc rate seconds 1000) in
    omega arith
