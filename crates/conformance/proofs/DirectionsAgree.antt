-- The port's way is the text's: in every direction, between all hues, but for the tie of Longest.
use Prim.Native.Nat.{ℕ, zero, suc, ◌+◌, ◌*◌, ◌-◌, ◌%◌, ◌≤◌, ◌<◌}
use mathlib.Core.Bool.{Bool, true, false, cond}
use mathlib.Core.Logic.{◌⊎◌, inl, inr, ⊎_elim}
use mathlib.Core.Path.{◌≡◌, refl, sym, ap, ◌∙◌}
use native.Mathlib.Omega.{arith}
use Rattle.std.proofs.lemmas.Bool.{cases_lt}
use lib.Dec.{leb, ltb}
use lib.IntN.{ℤ, pos, negsuc, neg_ℤ, nat_abs}
use borrow.Author.Tests.{leb-true, leb-false, ltb-true, ltb-false, le-leb, lt-leb, le-ltb}
use Rattle.integers.proofs.Sizes.{abs_neg}
use Rattle.matter.specs.declared.enums.DirectionEnum.{DirectionEnum}
use Rattle.hue.specs.Hue.{distance, path_delta}
use Rattle.hue.proofs.Laws.{distance_is, distance-small, way-small}
use Rattle.conformance.specs.Directions.{enhanced_circle, plain_circle, Leads, GoesUp, GoesDown, Either, GoesShortest, GoesLongest, Goes, TieGoesUp}

-- a sum on the circle is the sum, or a circle less
wrapped : (a n b : ℕ) → a < 65536 → n < 65536 → (a + n) % 65536 ≡ b → (a + n ≡ b) ⊎ (a + n ≡ b + 65536)
wrapped a n b h k e = ⊎_elim (λ l. inl (omega arith)) (λ l. inr (omega arith)) (cases_lt (a + n) 65536)

module _ (from to : ℕ) (hf : from < 65536) (ht : to < 65536) where
  abbrev up-goes : GoesUp enhanced_circle from to (pos (distance from to))
  up-goes =
      record {
        size = distance from to;
        up = refl;
        there = omega (arith, distance_is from to hf);
        first = λ n e. omega (arith, distance_is from to hf);
      }

  abbrev down-goes : GoesDown enhanced_circle from to (neg_ℤ (pos (distance to from)))
  down-goes =
      record {
        size = distance to from;
        down = refl;
        there = omega (arith, distance_is to from ht);
        first = λ n e. omega (arith, distance_is to from ht);
      }

  -- no way that leads there is shorter than the way up and the way down both
  no-shorter : (other : ℤ) → Leads enhanced_circle from to other → (distance from to ≤ nat_abs other) ⊎ (distance to from ≤ nat_abs other)
  no-shorter (pos n) e = inl (up-goes.first n e)
  no-shorter (negsuc n) e = inr (down-goes.first (suc n) e)

  leads-down : (k : ℕ) → (to + k) % 65536 ≡ from → Leads enhanced_circle from to (neg_ℤ (pos k))
  leads-down zero e = omega arith
  leads-down (suc k) e = e

  shortest-by : (t : Bool) → leb (distance from to) (distance to from) ≡ t → GoesShortest enhanced_circle from to (cond t (pos (distance from to)) (neg_ℤ (pos (distance to from))))
  shortest-by true e =
      record {
        leads = up-goes.there;
        least = λ v l. ⊎_elim (λ h. h) (λ h. omega (arith, leb-true (distance from to) (distance to from) e)) (no-shorter v l);
      }
  shortest-by false e =
      record {
        leads = leads-down (distance to from) down-goes.there;
        least = λ v l. rw abs_neg (⊎_elim (λ h. omega (arith, leb-false (distance from to) (distance to from) e)) (λ h. h) (no-shorter v l));
      }

  -- of the two, none is longer than the longer of the two distances
  no_longer : (other : ℤ) → Either enhanced_circle from to other → (nat_abs other ≤ distance from to) ⊎ (nat_abs other ≤ distance to from)
  no_longer other (inl g) = inl (rw g.up (g.first (distance from to) up-goes.there))
  no_longer other (inr g) = inr (rw (g.down, abs_neg) (g.first (distance to from) down-goes.there))

  longest-by : (t : Bool) → ltb (distance to from) (distance from to) ≡ t → GoesLongest enhanced_circle from to (cond t (pos (distance from to)) (neg_ℤ (pos (distance to from))))
  longest-by true e =
      record {
        direct = inl up-goes;
        most = λ v g. ⊎_elim (λ h. h) (λ h. omega (arith, ltb-true (distance to from) (distance from to) e)) (no_longer v g);
      }
  longest-by false e =
      record {
        direct = inr down-goes;
        most = λ v g. rw abs_neg (⊎_elim (λ h. omega (arith, ltb-false (distance to from) (distance from to) e)) (λ h. h) (no_longer v g));
      }

  -- the port's way is the one that the Direction field asks for
  pub directions-agree : (d : DirectionEnum) → Goes enhanced_circle d from to (path_delta from to d)
  unfolding path_delta
  directions-agree DirectionEnum.Shortest = shortest-by (leb (distance from to) (distance to from)) refl
  directions-agree DirectionEnum.Longest = longest-by (ltb (distance to from) (distance from to)) refl
  directions-agree DirectionEnum.Up = up-goes
  directions-agree DirectionEnum.Down = down-goes

  -- ---- and it is the only one, but for the tie

  -- a way up and a way down of one size that lead there are half a circle
  half : (n : ℕ) → n < 65536 → 0 < n → (from + n) % 65536 ≡ to → (to + n) % 65536 ≡ from → n ≡ 32768
  half n s z e f =
      ⊎_elim
      (λ a. ⊎_elim (λ b. omega arith) (λ b. omega arith) (wrapped to n from ht s f))
      (λ a. ⊎_elim (λ b. omega arith) (λ b. omega arith) (wrapped to n from ht s f))
      (wrapped from n to hf s e)

  -- two ways of one size that lead there are one, or half a circle
  one-or-half : (w v : ℤ) → Leads enhanced_circle from to w → Leads enhanced_circle from to v → nat_abs w ≡ nat_abs v → nat_abs w < 65536 → (w ≡ v) ⊎ (nat_abs w ≡ 32768)
  one-or-half (pos n) (pos m) e f h s = inl (ap pos h)
  one-or-half (pos n) (negsuc m) e f h s = inr (half n s (omega arith) e (rw (← h) at f))
  one-or-half (negsuc n) (pos m) e f h s = inr (half (suc n) s (omega arith) (rw (← h) at f) e)
  one-or-half (negsuc n) (negsuc m) e f h s = inl (ap negsuc (omega arith))

  either-leads : (w : ℤ) → Either enhanced_circle from to w → Leads enhanced_circle from to w
  either-leads w (inl g) = rw g.up g.there
  either-leads w (inr g) = rw g.down (leads-down g.size g.there)

  -- a way that the Direction field asks for is the port's, or half a circle
  pub directions-only : (d : DirectionEnum) (w : ℤ) → Goes enhanced_circle d from to w → (w ≡ path_delta from to d) ⊎ (nat_abs w ≡ 32768)
  directions-only DirectionEnum.Shortest w g =
      let p : GoesShortest enhanced_circle from to (path_delta from to DirectionEnum.Shortest) = directions-agree DirectionEnum.Shortest in
      let s : nat_abs w ≤ nat_abs (path_delta from to DirectionEnum.Shortest) = g.least (path_delta from to DirectionEnum.Shortest) p.leads in
      one-or-half w (path_delta from to DirectionEnum.Shortest) g.leads p.leads
      (omega (arith, p.least w g.leads))
      (omega (arith, way-small from to DirectionEnum.Shortest))
  directions-only DirectionEnum.Longest w g =
      let p : GoesLongest enhanced_circle from to (path_delta from to DirectionEnum.Longest) = directions-agree DirectionEnum.Longest in
      let s : nat_abs w ≤ nat_abs (path_delta from to DirectionEnum.Longest) = p.most w g.direct in
      one-or-half w (path_delta from to DirectionEnum.Longest) (either-leads w g.direct) (either-leads (path_delta from to DirectionEnum.Longest) p.direct)
      (omega (arith, g.most (path_delta from to DirectionEnum.Longest) p.direct))
      (omega (arith, way-small from to DirectionEnum.Longest))
  directions-only DirectionEnum.Up w g =
      let p : GoesUp enhanced_circle from to (path_delta from to DirectionEnum.Up) = directions-agree DirectionEnum.Up in
      let e : g.size ≡ p.size = omega (arith, g.first p.size p.there, p.first g.size g.there) in
      inl (g.up ∙ ap pos e ∙ sym p.up)
  directions-only DirectionEnum.Down w g =
      let p : GoesDown enhanced_circle from to (path_delta from to DirectionEnum.Down) = directions-agree DirectionEnum.Down in
      let e : g.size ≡ p.size = omega (arith, g.first p.size p.there, p.first g.size g.there) in
      inl (g.down ∙ ap (λ (n : ℕ). neg_ℤ (pos n)) e ∙ sym p.down)

  -- ---- the tie

  -- a size that is both the way up's and the way down's
  tied : (n : ℕ) → GoesUp enhanced_circle from to (pos n) → GoesDown enhanced_circle from to (neg_ℤ (pos n)) → (distance from to ≡ n) × (distance to from ≡ n)
  tied n u d =
      let a : n ≡ u.size = ap nat_abs u.up in
      let b : n ≡ d.size = sym (abs_neg (pos n)) ∙ ap nat_abs d.down ∙ abs_neg (pos d.size) in
      (omega (arith, u.first (distance from to) up-goes.there, up-goes.first u.size u.there), omega (arith, d.first (distance to from) down-goes.there, down-goes.first d.size d.there))

  -- Shortest takes the tie upward, as the text does
  pub shortest-tie : TieGoesUp enhanced_circle from to (path_delta from to DirectionEnum.Shortest)
  unfolding path_delta
  shortest-tie n u d =
      let e : (distance from to ≡ n) × (distance to from ≡ n) = tied n u d in
      rw (le-leb (distance from to) (distance to from) (omega arith)) (ap pos e.0)

  -- Longest takes it downward: the text's sentence holds of it exactly where the way is not half a circle
  pub longest-tie : distance from to ≡ 32768 → path_delta from to DirectionEnum.Longest ≡ neg_ℤ (pos 32768)
  unfolding path_delta
  longest-tie e =
      let back : distance to from ≡ 32768 = omega (arith, distance_is from to hf, distance_is to from ht) in
      rw (le-ltb (distance to from) (distance from to) (omega arith), back)

  nothing-or-half : (n : ℕ) → distance from to ≡ n → distance to from ≡ n → (n ≡ 0) ⊎ (n ≡ 32768)
  nothing-or-half zero e f = inl refl
  nothing-or-half (suc n) e f =
      inr (half (suc n) (omega (arith, distance-small from to)) (omega arith) (rw e at up-goes.there) (rw f at down-goes.there))

  pub longest-elsewhere : (distance from to ≡ 32768 → ⊥) → TieGoesUp enhanced_circle from to (path_delta from to DirectionEnum.Longest)
  unfolding path_delta
  longest-elsewhere h n u d =
      let e : (distance from to ≡ n) × (distance to from ≡ n) = tied n u d in
      ⊎_elim
      (λ z. rw (le-ltb (distance to from) (distance from to) (omega arith), e.1, z))
      (λ z. absurd (h (e.0 ∙ z)))
      (nothing-or-half n e.0 e.1)

  pub longest-off : distance from to ≡ 32768 → TieGoesUp enhanced_circle from to (path_delta from to DirectionEnum.Longest) → ⊥
  longest-off e h =
      let back : distance to from ≡ 32768 = omega (arith, distance_is from to hf, distance_is to from ht) in
      let up : GoesUp enhanced_circle from to (pos 32768) = rw e at up-goes in
      let down : GoesDown enhanced_circle from to (neg_ℤ (pos 32768)) = rw back at down-goes in
      let f : neg_ℤ (pos 32768) ≡ pos 32768 = sym (longest-tie e) ∙ h 32768 up down in
      let z : ◌≡◌ {A = ℕ} 0 1 = cc in
      omega arith

-- the smallest tie, which is from red to cyan: Shortest goes up, and Longest down, where the text goes up with both
pub smallest-tie : (path_delta 0 32768 DirectionEnum.Shortest ≡ pos 32768) × (path_delta 0 32768 DirectionEnum.Longest ≡ neg_ℤ (pos 32768))
unfolding path_delta distance
smallest-tie = (refl, refl)

-- ---- the plain circle: 254 places in the text, 256 in the port

-- the place of a CurrentHue: 254 is 360 degrees, which is 0
abbrev place : ℕ → ℕ
place hue = hue % plain_circle

-- a sum of a place is the place of the sum
place-sum : (a n : ℕ) → (place a + n) % 254 ≡ (a + n) % 254
place-sum a n = omega arith

-- from a up to b, where b is above: no way up is shorter than the difference
above : (a b n : ℕ) → (a + n) % 254 ≡ b % 254 → b ≤ 254 → b < a + 254 → b ≤ a + n
above a b n e h k = omega arith

-- where b is below: it is no shorter than what is left of the circle
below : (a b n : ℕ) → (a + n) % 254 ≡ b % 254 → a ≤ 254 → b < a → b + 254 ≤ a + n
below a b n e h k = omega arith

-- what is left of the circle leads back
leads-back : (a b : ℕ) → a ≤ b → b < a + 254 → (b + suc (253 - (b - a))) % 254 ≡ a % 254
leads-back a b h k = omega arith

module _ (a b : ℕ) (ha : a ≤ 254) (hb : b ≤ 254) where
  -- the port's distances, on 256 places of 256
  up_is : distance (a * 256) (b * 256) ≡ (b * 256 + (65536 - a * 256)) % 65536
  up_is = distance_is (a * 256) (b * 256) (omega arith)

  down_is : distance (b * 256) (a * 256) ≡ (a * 256 + (65536 - b * 256)) % 65536
  down_is = distance_is (b * 256) (a * 256) (omega arith)

  few-up : a ≤ b → b ≤ a + 127 → distance (a * 256) (b * 256) ≤ distance (b * 256) (a * 256)
  few-up h k = omega (arith, up_is, down_is)

  many-up : b + 128 ≤ a → distance (a * 256) (b * 256) ≤ distance (b * 256) (a * 256)
  many-up h = omega (arith, up_is, down_is)

  few-down : b < a → a ≤ b + 127 → distance (b * 256) (a * 256) < distance (a * 256) (b * 256)
  few-down h k =
      let d : distance (b * 256) (a * 256) + b * 256 ≡ a * 256 = omega (arith, down_is) in
      let u : distance (a * 256) (b * 256) + a * 256 ≡ b * 256 + 65536 = omega (arith, up_is) in
      omega arith

  many-down : a + 129 ≤ b → distance (b * 256) (a * 256) < distance (a * 256) (b * 256)
  many-down h =
      let d : distance (b * 256) (a * 256) + b * 256 ≡ a * 256 + 65536 = omega (arith, down_is) in
      let u : distance (a * 256) (b * 256) + a * 256 ≡ b * 256 = omega (arith, up_is) in
      omega arith

  back : b < a → b + suc (a - b - 1) ≡ a
  back h = omega arith

  -- where the text's shortest way is up, the port's is, unless the hues are 127 apart downward, which is a tie of the text's,
  -- or are 0 and 254, which are one in the text
  pub plain-up : (n : ℕ) → GoesShortest plain_circle (place a) (place b) (pos n) → (a ≡ b + 127 → ⊥) → b < a + 254 → path_delta (a * 256) (b * 256) DirectionEnum.Shortest ≡ pos (distance (a * 256) (b * 256))
  unfolding path_delta
  plain-up n g h k =
      let s : distance (a * 256) (b * 256) ≤ distance (b * 256) (a * 256) = by (leb a b) refl in
      rw (le-leb (distance (a * 256) (b * 256)) (distance (b * 256) (a * 256)) s)
    where
      by : (t : Bool) → leb a b ≡ t → distance (a * 256) (b * 256) ≤ distance (b * 256) (a * 256)
      by true t =
          let l : a ≤ b = leb-true a b t in
          let m : n ≤ suc (253 - (b - a)) = g.least (negsuc (253 - (b - a))) (place-sum b (suc (253 - (b - a))) ∙ leads-back a b l k) in
          let q : b ≤ a + n = above a b n (sym (place-sum a n) ∙ g.leads) hb k in
          let u : b ≤ a + 127 = omega arith in
          few-up l u
      by false t =
          let l : b < a = leb-false a b t in
          let m : n ≤ suc (a - b - 1) = g.least (negsuc (a - b - 1)) (place-sum b (suc (a - b - 1)) ∙ ap (λ (x : ℕ). x % 254) (back l)) in
          let q : b + 254 ≤ a + n = below a b n (sym (place-sum a n) ∙ g.leads) ha l in
          many-up (omega arith)

  -- where it is down, the port's is, unless the hues are 127 apart upward, which is a tie of the text's, or 128
  pub plain_down : (n : ℕ) → GoesShortest plain_circle (place a) (place b) (negsuc n) → (b ≡ a + 127 → ⊥) → (b ≡ a + 128 → ⊥) → path_delta (a * 256) (b * 256) DirectionEnum.Shortest ≡ neg_ℤ (pos (distance (b * 256) (a * 256)))
  unfolding path_delta
  plain_down n g h k =
      let s : distance (b * 256) (a * 256) < distance (a * 256) (b * 256) = by (leb a b) refl in
      rw (lt-leb (distance (a * 256) (b * 256)) (distance (b * 256) (a * 256)) s)
    where
      by : (t : Bool) → leb a b ≡ t → distance (b * 256) (a * 256) < distance (a * 256) (b * 256)
      by true t =
          let l : a ≤ b = leb-true a b t in
          let f : a + (b - a) ≡ b = omega arith in
          let m : suc n ≤ b - a = g.least (pos (b - a)) (place-sum a (b - a) ∙ ap (λ (x : ℕ). x % 254) f) in
          let q : a + 254 ≤ b + suc n = below b a (suc n) (sym (place-sum b (suc n)) ∙ g.leads) hb (omega arith) in
          many-down (omega arith)
      by false t =
          let l : b < a = leb-false a b t in
          let f : (a + (254 - (a - b))) % 254 ≡ b % 254 = omega arith in
          let m : suc n ≤ 254 - (a - b) = g.least (pos (254 - (a - b))) (place-sum a (254 - (a - b)) ∙ f) in
          let q : a ≤ b + suc n = above b a (suc n) (sym (place-sum b (suc n)) ∙ g.leads) ha (omega arith) in
          few-down l (omega arith)

-- the smallest plain hues that differ, red to cyan: from 0 to 128 the text's shortest way is 126 places down, and the port has a tie
-- and goes up
least-from-0 : (other : ℤ) → Leads plain_circle 0 128 other → 126 ≤ nat_abs other
least-from-0 (pos n) e = omega arith
least-from-0 (negsuc n) e = omega arith

pub plain-differs : GoesShortest plain_circle 0 128 (neg_ℤ (pos 126)) × (path_delta (0 * 256) (128 * 256) DirectionEnum.Shortest ≡ pos 32768)
unfolding path_delta distance
plain-differs = (record { leads = refl; least = least-from-0 }, refl)

-- and so it is for every pair that is 128 apart upward: the text's way is not up, and the port's is
pub plain-128-differs : (a n : ℕ) → a ≤ 126 → (GoesShortest plain_circle (place a) (place (a + 128)) (pos n) → ⊥) × (path_delta (a * 256) ((a + 128) * 256) DirectionEnum.Shortest ≡ pos 32768)
unfolding path_delta
plain-128-differs a n h = (not-up, up)
  where
    not-up : GoesShortest plain_circle (place a) (place (a + 128)) (pos n) → ⊥
    not-up g =
        let e : (place (a + 128) + suc 125) % 254 ≡ place a = omega arith in
        omega (arith, g.least (negsuc 125) e, above a (a + 128) n (sym (place-sum a n) ∙ g.leads) (omega arith) (omega arith))

    up : path_delta (a * 256) ((a + 128) * 256) DirectionEnum.Shortest ≡ pos 32768
    up =
        let u : distance (a * 256) ((a + 128) * 256) ≡ 32768 = omega (arith, up_is a (a + 128) (omega arith) (omega arith)) in
        let d : distance ((a + 128) * 256) (a * 256) ≡ 32768 = omega (arith, down_is a (a + 128) (omega arith) (omega arith)) in
        rw (u, d)

-- below 128 no hue differs from 0
pub plain-least : (b n : ℕ) → b < 127 → GoesShortest plain_circle 0 b (negsuc n) → ⊥
plain-least b n h g = omega (arith, g.leads, g.least (pos b) (omega arith))

-- with the tie taken upward there is a smaller one: from 127 to 0 the text's two ways are 127 places each, and the port goes down
pub plain-tie-differs : GoesUp plain_circle 127 0 (pos 127) × GoesDown plain_circle 127 0 (neg_ℤ (pos 127)) × (path_delta (127 * 256) (0 * 256) DirectionEnum.Shortest ≡ neg_ℤ (pos (127 * 256)))
unfolding path_delta distance
plain-tie-differs = (
  record { size = 127; up = refl; there = refl; first = λ n e. omega arith },
  record { size = 127; down = refl; there = refl; first = λ n e. omega arith },
  refl,
)
