-- What follows from the definitions of a step's arithmetic: bounds, and what grows with what. The sums of document 01 come first.
use mathlib.Core.Path.{◌≡◌, refl, ap, ◌∙◌}
use mathlib.Core.Logic.{◌⊎◌, inl, inr, ⊎_elim}
use mathlib.Core.Bool.{Bool, true, false, cond, ◌&&◌}
use mathlib.Core.List.{[], ◌∷◌, map}
use Prim.Native.Nat.{ℕ, zero, suc, ◌+◌, ◌*◌, ◌/◌, ◌%◌, ◌^◌, ◌<◌, ◌≤◌, min}
use native.Mathlib.Nat.{le-div_iff_mul-le, div-lt_iff_lt-mul, mul-le-mul, mul-le-mul_left, mul-le-mul_right, div-le_self}
use native.Mathlib.Omega.{arith}
use lib.Dec.{leb, ltb, eqb}
use lib.IntN.{ℤ, pos, negsuc, neg_ℤ, nat_abs, ◌*ℤ◌}
use lib.Signed.{lt_z}
use lib.Ieee.Nearest.{div_mono}
use borrow.Author.Tests.{leb-true, leb-false, ltb-false, ne_eqb, le-leb, lt-leb, le-ltb}
use mir.Syntax.{w64}
use mir.Val.{SFits}
use Rattle.integers.proofs.Sizes.{small, abs-mul, abs-quot}
use Rattle.integers.proofs.Signs.{neg-mul, neg-quot}
use Rattle.matter.specs.declared.enums.ColorLoopDirectionEnum.{ColorLoopDirectionEnum}
use Rattle.matter.specs.Limits.{clock_limit}
use Rattle.progress.specs.Progress.{permille_of, limited, part_of, delta_at_rate, loop_ms, snapped, loop_turn, loop_delta, tenths_of, clamp}

-- ---- sums of the document

-- K5: way 65,280, time 7000, elapsed 3000
k5 : part_of (pos 65280) (permille_of 3000 7000) ≡ pos 27939
unfolding permille_of
k5 = refl

-- K6: way -97, time 1000, elapsed 500: toward zero
k6 : part_of (neg_ℤ (pos 97)) (permille_of 500 1000) ≡ neg_ℤ (pos 48)
unfolding permille_of
k6 = refl

-- K9: a loop of a second, up
k9 : map (λ e. loop_delta ColorLoopDirectionEnum.Increment e 1) (994 ∷ 995 ∷ 1005 ∷ 1006 ∷ 5 ∷ []) ≡ pos 65142 ∷ pos 65536 ∷ pos 65536 ∷ pos 65929 ∷ pos 327 ∷ []
unfolding loop_turn snapped
k9 = refl

-- K10: and down
k10 : loop_delta ColorLoopDirectionEnum.Decrement 1 1 ≡ neg_ℤ (pos 65)
unfolding loop_turn snapped
k10 = refl

-- K12: 100 a second, after 100 and 2500 milliseconds
k12 : map (delta_at_rate (pos 100)) (100 ∷ 2500 ∷ []) ≡ pos 10 ∷ pos 250 ∷ []
k12 = refl

-- 1 a second at the limit of clocks, and past it
rate-at-limit : map (delta_at_rate (pos 1)) (clock_limit ∷ (clock_limit + 1000) ∷ []) ≡ pos 1099511627 ∷ pos 1099511627 ∷ []
rate-at-limit = refl

-- ---- permille

-- where there is time, the quotient, at most 1000
pub permille-is : (e t : ℕ) → 0 < t → permille_of e t ≡ min 1000 (e * 1000 / t)
unfolding permille_of
permille-is e t h = rw (ne_eqb t 0 (λ z. omega arith))

most : (b : Bool) (q : ℕ) → cond b 1000 (min 1000 q) ≤ 1000
most true q = omega arith
most false q = omega arith

-- never above 1000
pub permille-most : (e t : ℕ) → permille_of e t ≤ 1000
unfolding permille_of
permille-most e t = most (eqb t 0) (e * 1000 / t)

-- 1000 at the time and past it
pub permille-full : (e t : ℕ) → t ≤ e → permille_of e t ≡ 1000
unfolding permille_of
permille-full e zero h = refl
permille-full e (suc t) h =
    permille-is e (suc t) (omega arith) ∙ omega (arith, (le-div_iff_mul-le {k = suc t} {x = 1000} {y = e * 1000} (omega arith)).1 (omega arith))

-- and below 1000 before it
pub permille-short : (e t : ℕ) → e < t → permille_of e t < 1000
permille-short e t h =
    omega (arith, permille-is e t (omega arith), (div-lt_iff_lt-mul {k = t} {x = e * 1000} {y = 1000} (omega arith)).1 (omega arith))

-- it grows with the elapsed time
pub permille-grows : (e f t : ℕ) → e ≤ f → permille_of e t ≤ permille_of f t
permille-grows e f zero h = omega (arith, permille-full e 0 (omega arith), permille-full f 0 (omega arith))
permille-grows e f (suc t) h =
    omega
    (arith, permille-is e (suc t) (omega arith), permille-is f (suc t) (omega arith), div_mono (e * 1000) (suc t) (f * 1000) (suc t) (omega arith) (omega arith) (mul-le-mul_right (suc t) (omega arith)))

-- ---- part

-- a part of a way up
pub part_up : (n p : ℕ) → part_of (pos n) p ≡ pos (n * p / 1000)
part_up n p = refl

-- a part of a way down: rounded toward zero
pub part-down : (n p : ℕ) → part_of (neg_ℤ (pos n)) p ≡ neg_ℤ (pos (n * p / 1000))
part-down n p = rw (neg-mul, neg-quot)

whole : (n : ℕ) → n * 1000 / 1000 ≡ n
whole n = omega arith

-- the whole way
pub part-whole : (way : ℤ) → part_of way 1000 ≡ way
part-whole (pos n) = ap pos (whole n)
part-whole (negsuc n) = neg-quot (suc n * 1000) 1000 ∙ ap (λ (m : ℕ). neg_ℤ (pos m)) (whole (suc n))

-- its size
pub part-size : (way : ℤ) (p : ℕ) → nat_abs (part_of way p) ≡ nat_abs way * p / 1000
part-size way p = rw (abs-quot, abs-mul)

-- no larger than the way
pub part-within : (way : ℤ) (p : ℕ) → p ≤ 1000 → nat_abs (part_of way p) ≤ nat_abs way
part-within way p h = omega (arith, part-size way p, mul-le-mul_left (nat_abs way) h)

-- and growing with permille
pub part-grows : (way : ℤ) (p q : ℕ) → p ≤ q → nat_abs (part_of way p) ≤ nat_abs (part_of way q)
part-grows way p q h = omega (arith, part-size way p, part-size way q, mul-le-mul_left (nat_abs way) h)

-- ---- ways and rates within ±65,535

limited-by : (z : ℤ) (above below : Bool) → lt_z (pos 65535) z ≡ above → lt_z z (neg_ℤ (pos 65535)) ≡ below →
    nat_abs (cond above (pos 65535) (cond below (neg_ℤ (pos 65535)) z)) ≤ 65535
limited-by z true below e f = omega arith
limited-by z false true e f = omega arith
limited-by (pos n) false false e f = ltb-false 65535 n e
limited-by (negsuc n) false false e f = omega (arith, ltb-false 65534 n f)

pub limited-size : (z : ℤ) → nat_abs (limited z) ≤ 65535
unfolding limited
limited-size z = limited-by z (lt_z (pos 65535) z) (lt_z z (neg_ℤ (pos 65535))) refl refl

-- one within them is itself
pub limited-same : (z : ℤ) → nat_abs z ≤ 65535 → limited z ≡ z
unfolding limited
limited-same (pos n) h = rw (le-ltb 65535 n h)
limited-same (negsuc n) h = rw (le-ltb 65534 n (omega arith))

-- such a way, times what is at most the limit of clocks, fits 64 bits
pub limited-fits : (z : ℤ) (n : ℕ) → n ≤ clock_limit → SFits w64 (limited z *ℤ pos n)
limited-fits z n h = small w64 _ (rw abs-mul (omega (arith, mul-le-mul {m₁ = n} {m₂ = clock_limit} (limited-size z) h)))

-- ---- tenths

-- no shorter than the milliseconds
pub tenths-enough : (ms : ℕ) → ms ≤ 100 * tenths_of ms
tenths-enough ms = omega arith

-- and with one tenth less, shorter
pub tenths-fewest : (ms : ℕ) → 100 * tenths_of ms < ms + 100
tenths-fewest ms = omega arith

-- a whole number of tenths is itself
pub tenths-exact : (d : ℕ) → tenths_of (100 * d) ≡ d
tenths-exact d = omega arith

-- ---- clamp

module _ (lo hi : ℕ) (z : ℤ) where
  -- below lo it is lo
  pub clamp-low : lt_z z (pos lo) ≡ true → clamp lo hi z ≡ lo
  unfolding clamp
  clamp-low e = rw e

  -- above hi it is hi
  pub clamp-high : lt_z z (pos lo) ≡ false → lt_z (pos hi) z ≡ true → clamp lo hi z ≡ hi
  unfolding clamp
  clamp-high e f = rw (e, f)

  -- between, it is itself
  pub clamp-between : lt_z z (pos lo) ≡ false → lt_z (pos hi) z ≡ false → clamp lo hi z ≡ nat_abs z
  unfolding clamp
  clamp-between e f = rw (e, f)

within_by : (lo hi n : ℕ) (b c : Bool) → ltb n lo ≡ b → ltb hi n ≡ c → lo ≤ hi → (lo ≤ cond b lo (cond c hi n)) × (cond b lo (cond c hi n) ≤ hi)
within_by lo hi n true c e f h = (omega arith, omega arith)
within_by lo hi n false true e f h = (omega arith, omega arith)
within_by lo hi n false false e f h = (omega (arith, ltb-false n lo e), omega (arith, ltb-false hi n f))

-- within its bounds
pub clamp-within : (lo hi : ℕ) (z : ℤ) → lo ≤ hi → (lo ≤ clamp lo hi z) × (clamp lo hi z ≤ hi)
unfolding clamp
clamp-within lo hi (pos n) h = within_by lo hi n (ltb n lo) (ltb hi n) refl refl h
clamp-within lo hi (negsuc n) h = (omega arith, omega arith)

-- a number within them is kept
pub clamp-keeps : (lo hi n : ℕ) → lo ≤ n → n ≤ hi → clamp lo hi (pos n) ≡ n
clamp-keeps lo hi n h k = clamp-between lo hi (pos n) (le-ltb n lo h) (le-ltb hi n k)

-- ---- the colour loop

-- a turn of the loop takes time
pub loop-takes-time : (seconds : ℕ) → 0 < loop_ms seconds
loop-takes-time zero = omega arith
loop-takes-time (suc n) = rw (ne_eqb (suc n) 0 (λ e. omega arith)) (omega arith)

module _ (P : ℕ → Type 0) (raw : ℕ)
    (above : 65152 ≤ raw % 65536 → P ((raw / 65536 + 1) * 65536))
    (below : raw % 65536 ≤ 384 → 65536 ≤ raw → P (raw / 65536 * 65536))
    (kept : raw % 65536 < 65152 → (384 < raw % 65536) ⊎ (raw < 65536) → P raw) where
  snapped-on : (a b c : Bool) → leb 65152 (raw % 65536) ≡ a → leb (raw % 65536) 384 ≡ b → leb 65536 raw ≡ c → P (cond a ((raw / 65536 + 1) * 65536) (cond (b && c) (raw / 65536 * 65536) raw))
  snapped-on true b c e f g = above (leb-true _ _ e)
  snapped-on false true true e f g = below (leb-true _ _ f) (leb-true _ _ g)
  snapped-on false true false e f g = kept (leb-false _ _ e) (inr (leb-false _ _ g))
  snapped-on false false c e f g = kept (leb-false _ _ e) (inl (leb-false _ _ f))

  -- whatever holds in each of the three cases holds of the turn that is shown
  pub snapped-by : P (snapped raw)
  unfolding snapped
  snapped-by = snapped-on (leb 65152 (raw % 65536)) (leb (raw % 65536) 384) (leb 65536 raw) refl refl refl

-- near the whole turn above: that one
pub snapped-above : (raw : ℕ) → 65152 ≤ raw % 65536 → snapped raw ≡ (raw / 65536 + 1) * 65536
unfolding snapped
snapped-above raw h = rw (le-leb 65152 (raw % 65536) h)

-- near the whole turn below: that one
pub snapped-below : (raw : ℕ) → raw % 65536 ≤ 384 → 65536 ≤ raw → snapped raw ≡ raw / 65536 * 65536
unfolding snapped
snapped-below raw h k = rw (lt-leb 65152 (raw % 65536) (omega arith), le-leb (raw % 65536) 384 h, le-leb 65536 raw k)

-- near neither, or in the first turn: as it is
pub snapped-kept : (raw : ℕ) → raw % 65536 < 65152 → (384 < raw % 65536) ⊎ (raw < 65536) → snapped raw ≡ raw
snapped-kept raw h k =
    snapped-by (λ s. s ≡ raw) raw (λ u. omega arith) (λ u v. ⊎_elim (λ x. omega arith) (λ x. omega arith) k) (λ u v. refl)

-- what is shown is less than 385 away
pub snapped-near : (raw : ℕ) → (raw < snapped raw + 385) × (snapped raw < raw + 385)
snapped-near raw =
    snapped-by (λ s. (raw < s + 385) × (s < raw + 385)) raw
    (λ u. (omega arith, omega arith))
    (λ u v. (omega arith, omega arith))
    (λ u v. (omega arith, omega arith))

-- and never falls while the turn grows
pub snapped-grows : (a b : ℕ) → a ≤ b → snapped a ≤ snapped b
snapped-grows a b h =
    snapped-by (λ s. s ≤ snapped b) a
    (λ u. snapped-by (λ t. (a / 65536 + 1) * 65536 ≤ t) b (λ v. omega arith) (λ v w. omega arith) (λ v w. omega arith))
    (λ u k. snapped-by (λ t. a / 65536 * 65536 ≤ t) b (λ v. omega arith) (λ v w. omega arith) (λ v w. omega arith))
    (λ u k. snapped-by (λ t. a ≤ t) b (λ v. omega arith) (λ v w. ⊎_elim (λ x. omega arith) (λ x. omega arith) k) (λ v w. omega arith))

-- the turn fits a signed number by far
pub loop-turn-small : (elapsed seconds : ℕ) → loop_turn elapsed seconds < 2 ^ 57
unfolding loop_turn
loop-turn-small elapsed seconds =
    let raw = 65536 * min elapsed clock_limit / loop_ms seconds in
    omega (arith, (snapped-near raw).1, div-le_self (65536 * min elapsed clock_limit) (loop_ms seconds))
