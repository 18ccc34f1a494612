-- What follows from the definitions of hues: a hue moved up and down, the distance as one remainder, that a way is small,
-- arrives, and is zero between equal hues alone, where it is a tie, and CurrentHue. The documents' sums come first.
use Rattle.std.proofs.Common.{◌≡◌, ℕ, zero, suc, ◌+◌, ◌-◌, ◌/◌, ◌%◌, ◌<◌, ◌≤◌, Bool, true, false, cond, ltb, leb, ℤ, pos, negsuc, ◌+ℤ◌, ◌-ℤ◌, neg_ℤ, nat_abs, refl, ap, arith, ltb-false, ltb-true, ne_eqb}
use Rattle.integers.proofs.Sizes.{abs_neg}
use Rattle.matter.specs.declared.enums.DirectionEnum.{DirectionEnum}
use Rattle.hue.specs.Hue.{modulo, distance, chosen, path_delta, both_half, is_tie, hue_path, moved_hue, current_hue}

-- ---- sums of the document

-- K1, K2: half way round, up is Shortest and down is Longest, and each is a tie
k1 : hue_path 0 32768 DirectionEnum.Shortest ≡ record { delta = pos 32768; is_tie = true }
unfolding path_delta is_tie distance
k1 = refl

k2 : hue_path 0 32768 DirectionEnum.Longest ≡ record { delta = neg_ℤ (pos 32768); is_tie = true }
unfolding path_delta is_tie distance
k2 = refl

-- past 65,535 to 0, and back
past_the_top : moved_hue 65535 (pos 1) ≡ 0
unfolding moved_hue
past_the_top = refl

past-the-bottom : moved_hue 0 (neg_ℤ (pos 1)) ≡ 65535
unfolding moved_hue
past-the-bottom = refl

-- A.4: the last hue whose CurrentHue is 253, and both sides of the first whose upper byte is 255
current-ends : (current_hue 65023 ≡ 253) × (current_hue 65279 ≡ 254) × (current_hue 65280 ≡ 254) × (current_hue 65535 ≡ 254)
current-ends = (refl, refl, refl, refl)

-- ---- a hue that is moved

pub modulo-small : (z : ℤ) → modulo z < 65536
modulo-small (pos n) = omega arith
modulo-small (negsuc n) = omega arith

-- a moved hue is a hue
pub moved-small : (s : ℕ) (z : ℤ) → moved_hue s z < 65536
unfolding moved_hue
moved-small s z = modulo-small (pos s +ℤ z)

-- moved up by k
pub moved_up : (s k : ℕ) → moved_hue s (pos k) ≡ (s + k) % 65536
unfolding moved_hue
moved_up s k = refl

down_by : (s k : ℕ) (b : Bool) → ltb s (suc k) ≡ b → modulo (cond b (negsuc (suc k - suc s)) (pos (s - suc k))) ≡ (s + (65536 - suc k % 65536)) % 65536
down_by s k true t = omega (arith, ltb-true s (suc k) t)
down_by s k false t = omega (arith, ltb-false s (suc k) t)

-- moved down by k
pub moved_down : (s k : ℕ) → moved_hue s (neg_ℤ (pos k)) ≡ (s + (65536 - k % 65536)) % 65536
unfolding moved_hue
moved_down s zero = omega arith
moved_down s (suc k) = down_by s k (ltb s (suc k)) refl

-- ---- the distance

-- the distance is one remainder of naturals
pub distance_is : (from to : ℕ) → from < 65536 → distance from to ≡ (to + (65536 - from)) % 65536
unfolding distance moved_hue
distance_is from to h = omega (arith, moved_down to from)

-- and below a turn
pub distance-small : (from to : ℕ) → distance from to < 65536
unfolding distance
distance-small from to = modulo-small (pos to -ℤ pos from)

-- ---- the way

-- whatever holds of the way up and of the way down holds of the way chosen
cond-by : (P : ℤ → Type 0) {y z : ℤ} → P y → P z → (b : Bool) → P (cond b y z)
cond-by P hy hz true = hy
cond-by P hy hz false = hz

chosen_by : (P : ℤ → Type 0) (up down : ℕ) → P (pos up) → P (neg_ℤ (pos down)) → (d : DirectionEnum) → P (chosen d up down)
chosen_by P up down hu hd DirectionEnum.Up = hu
chosen_by P up down hu hd DirectionEnum.Down = hd
chosen_by P up down hu hd DirectionEnum.Shortest = cond-by P hu hd (leb up down)
chosen_by P up down hu hd DirectionEnum.Longest = cond-by P hu hd (ltb down up)

way_by : (P : ℤ → Type 0) (c t : ℕ) (d : DirectionEnum) → P (pos (distance c t)) → P (neg_ℤ (pos (distance t c))) → P (path_delta c t d)
unfolding path_delta
way_by P c t d hu hd = chosen_by P (distance c t) (distance t c) hu hd d

-- a way is less than a turn
pub way-small : (c t : ℕ) (d : DirectionEnum) → nat_abs (path_delta c t d) ≤ 65535
way-small c t d = way_by (λ z. nat_abs z ≤ 65535) c t d (omega (arith, distance-small c t)) (rw abs_neg (omega (arith, distance-small t c)))

module _ (c t : ℕ) (d : DirectionEnum) (hc : c < 65536) (ht : t < 65536) where
  -- a way ends at its target
  pub arrives : moved_hue c (path_delta c t d) ≡ t
  arrives = way_by (λ z. moved_hue c z ≡ t) c t d (rw (moved_up, distance_is) (omega arith)) (rw (moved_down, distance_is) (omega arith))

  -- a way that is zero joins equal hues
  pub no-way-equal : path_delta c t d ≡ pos 0 → c ≡ t
  no-way-equal = way_by (λ z. z ≡ pos 0 → c ≡ t) c t d (λ e. omega (arith, distance_is c t hc, ap nat_abs e)) (λ e. omega (arith, distance_is t c ht, rw abs_neg at (ap nat_abs e)))

-- and between equal hues the way is zero, whatever the direction
pub equal-no-way : (c : ℕ) (d : DirectionEnum) → c < 65536 → path_delta c c d ≡ pos 0
equal-no-way c d h = way_by (λ z. z ≡ pos 0) c c d (ap pos stays) (ap (λ (n : ℕ). neg_ℤ (pos n)) stays)
  where
    stays : distance c c ≡ 0
    stays = omega (arith, distance_is c c h)

-- ---- the tie

-- one distance is half the circle exactly where the other is
pub half-both : (c t : ℕ) → c < 65536 → t < 65536 → distance c t ≡ 32768 → distance t c ≡ 32768
half-both c t hc ht e = omega (arith, distance_is c t hc, distance_is t c ht)

-- so Shortest and Longest tie there
pub half-tied : (c t : ℕ) → c < 65536 → t < 65536 → distance c t ≡ 32768 →
    (is_tie c t DirectionEnum.Shortest ≡ true) × (is_tie c t DirectionEnum.Longest ≡ true)
unfolding is_tie
half-tied c t hc ht e = (both, both)
  where
    both : both_half (distance c t) (distance t c) ≡ true
    both = rw (e, half-both c t hc ht e)

-- and no direction elsewhere
pub no-half-no-tie : (c t : ℕ) (d : DirectionEnum) → (distance c t ≡ 32768 → ⊥) → is_tie c t d ≡ false
unfolding is_tie
no-half-no-tie c t DirectionEnum.Up n = refl
no-half-no-tie c t DirectionEnum.Down n = refl
no-half-no-tie c t DirectionEnum.Shortest n = rw (ne_eqb _ _ n)
no-half-no-tie c t DirectionEnum.Longest n = rw (ne_eqb _ _ n)

-- Up and Down never tie
pub up-no-tie : (c t : ℕ) → is_tie c t DirectionEnum.Up ≡ false
unfolding is_tie
up-no-tie c t = refl

pub down-no-tie : (c t : ℕ) → is_tie c t DirectionEnum.Down ≡ false
unfolding is_tie
down-no-tie c t = refl

-- K3: equal hues are no tie
pub equal-no-tie : (c : ℕ) (d : DirectionEnum) → c < 65536 → is_tie c c d ≡ false
equal-no-tie c d h = no-half-no-tie c c d (λ e. omega (arith, distance_is c c h))

-- ---- CurrentHue

-- at most 254
pub current-most : (hue : ℕ) → current_hue hue ≤ 254
current-most hue = omega arith

-- the stored hue divided by 256 below 65,280, and 254 from there on
pub current-below : (hue : ℕ) → hue < 65280 → current_hue hue ≡ hue / 256
current-below hue h = omega arith

pub current-last : (hue : ℕ) → 65280 ≤ hue → current_hue hue ≡ 254
current-last hue h = omega arith

-- it grows with the stored hue
pub current-grows : (a b : ℕ) → a ≤ b → current_hue a ≤ current_hue b
current-grows a b h = omega arith
