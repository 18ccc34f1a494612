-- The test says exactly that: it answers true where some hue of the band is on the arc, and in no other case.
use Prim.Native.Nat.{ℕ, suc, ◌+◌, ◌-◌, ◌*◌, ◌%◌, ◌≤◌, ◌<◌, min}
use mathlib.Core.Bool.{Bool, true, false, cond, ◌&&◌, ◌||◌, true≢false}
use mathlib.Core.Logic.{◌⊎◌, inl, inr, ◌↔◌}
use mathlib.Core.Path.{◌≡◌, refl, sym, ◌∙◌, ap}
use native.Mathlib.Nat.{add-mod}
use native.Mathlib.Omega.{arith}
use lib.Dec.{leb, leb-zero, ltb}
use lib.IntN.{ℤ, pos, negsuc, nat_abs}
use lib.Signed.{le_z}
use borrow.Author.Tests.{leb-true, leb-false, le-leb, lt-leb, ltb-true, ltb-false}
use Rattle.matter.specs.declared.enums.DirectionEnum.{DirectionEnum}
use Rattle.matter.specs.Limits.{hue_limit}
use Rattle.matter.proofs.Laws.{and_left, and_right}
use Rattle.hue.specs.Hue.{distance, path_delta, moved_hue, current_hue}
use Rattle.hue.proofs.Laws.{moved-small, moved_up, moved_down, distance_is, way-small, arrives}
use Rattle.arc.specs.declared.Band.{Band}
use Rattle.arc.specs.Arc.{toward, OnArc, in_band, InRangeBand, Passed, meet, passes_through, first_stored, last_stored, current_hue_band}

-- ---- a band, by distances

module _ (low high hue : ℕ) (hl : low < 65536) (hh : high < 65536) (hx : hue < 65536) where
  inside : distance low hue ≤ distance low high → leb (distance low hue) (distance low high) ≡ true
  inside = le-leb (distance low hue) (distance low high)

  outside : distance low high < distance low hue → leb (distance low hue) (distance low high) ≡ false
  outside = lt-leb (distance low hue) (distance low high)

  module _ (x : distance low hue ≡ (hue + (65536 - low)) % 65536) (y : distance low high ≡ (high + (65536 - low)) % 65536) where
    by_order : (p q r : Bool) → leb low high ≡ p → leb low hue ≡ q → leb hue high ≡ r → cond p (q && r) (q || r) ≡ leb (distance low hue) (distance low high)
    by_order true true true e k j = sym (inside (omega (arith, leb-true)))
    by_order true true false e k j = sym (outside (omega (arith, leb-true, leb-false)))
    by_order true false r e k j = sym (outside (omega (arith, leb-true, leb-false)))
    by_order false true r e k j = sym (inside (omega (arith, leb-true, leb-false)))
    by_order false false true e k j = sym (inside (omega (arith, leb-true, leb-false)))
    by_order false false false e k j = sym (outside (omega (arith, leb-false)))

-- a hue of a band is no further up from its low end than its high end is
pub band-is : (b : Band) (hue : ℕ) → InRangeBand b → hue < 65536 → in_band b hue ≡ leb (distance b.low hue) (distance b.low b.high)
unfolding in_band
band-is b hue t h =
    by_order b.low b.high hue t.low t.high h (distance_is b.low hue t.low) (distance_is b.low b.high t.low)
    (leb b.low b.high)
    (leb b.low hue)
    (leb hue b.high)
    refl
    refl
    refl

-- ---- an arc, by distances

-- a hue on an arc is a hue
pub arc-small : {found : ℕ} {way : ℤ} {hue : ℕ} → OnArc found way hue → hue < 65536
arc-small {found} {way} a = rw a.reached at (moved-small found (toward way a.size))

-- on a way up, the hues no further up from the hue found than the way is long
pub up-arc : (found n hue : ℕ) → found < 65536 → n ≤ 65535 → OnArc found (pos n) hue → distance found hue ≤ n
up-arc found n hue hf s a = omega (arith, distance_is found hue hf, a.reached, a.within, moved_up found a.size)

pub arc-up : (found n hue : ℕ) → found < 65536 → hue < 65536 → distance found hue ≤ n → OnArc found (pos n) hue
arc-up found n hue hf h k =
    record { size = distance found hue; within = k; reached = omega (arith, moved_up found (distance found hue), distance_is found hue hf) }

-- on a way down, those from which the hue found is no further up than the way is long
pub down-arc : (found n hue : ℕ) → found < 65536 → n < 65535 → OnArc found (negsuc n) hue → distance hue found ≤ suc n
down-arc found n hue hf s a =
    omega (arith, distance_is hue found (arc-small a), a.reached, a.within, moved_down found a.size, arc-small a)

pub arc-down : (found n hue : ℕ) → found < 65536 → hue < 65536 → distance hue found ≤ suc n → OnArc found (negsuc n) hue
arc-down found n hue hf h k =
    record { size = distance hue found; within = k; reached = omega (arith, moved_down found (distance hue found), distance_is hue found h) }

-- ---- two runs

-- from a hue up to another, and on to a third
further : (x y z : ℕ) → x < 65536 → y < 65536 → z < 65536 → (distance x y + distance y z) % 65536 ≡ distance x z
further x y z hx hy hz =
    rw (distance_is x y hx, distance_is y z hy, distance_is x z hx, ← add-mod (y + (65536 - x)) (z + (65536 - y)) 65536) (omega arith)

-- up to another hue and on, once round
round : (x y : ℕ) → x < 65536 → y < 65536 → 0 < distance x y → distance x y + distance y x ≡ 65536
round x y hx hy k = omega (arith, distance_is x y hx, distance_is y x hy)

-- from a hue that lies further up than another, the first of the run comes before the other
around : (from hue low : ℕ) → from < 65536 → hue < 65536 → low < 65536 → distance from hue < distance from low → distance low from ≤ distance low hue
around from hue low hf h hl k =
    let r = round from low hf hl (omega arith) in
    omega (arith, further low from hue hl hf h)

or_else : (p q : Bool) → (p || q) ≡ true → (p ≡ true) ⊎ (q ≡ true)
or_else true q e = inl refl
or_else false q e = inr e

module _ (from to : ℕ) (b : Band) (hf : from < 65536) (ht : to < 65536) (t : InRangeBand b) where
  -- where the test holds, the band's low end is in the run, or the run's first hue in the band
  common : meet from to b.low b.high ≡ true → (hue : ℕ) × (hue < 65536) × (distance from hue ≤ distance from to) × (in_band b hue ≡ true)
  unfolding meet
  common e =
      elim (or_else (leb (distance from b.low) (distance from to)) (leb (distance b.low from) (distance b.low b.high)) e) [
        | inl k ↦
            let z : distance b.low b.low ≤ distance b.low b.high = omega (arith, distance_is b.low b.low t.low) in
            (b.low, t.low, leb-true (distance from b.low) (distance from to) k, band-is b b.low t t.low ∙ le-leb _ _ z)
        | inr k ↦ (from, hf, omega (arith, distance_is from from hf), band-is b from t hf ∙ k)
      ]

  -- and where the two have a hue in common, the test holds
  finds : (hue : ℕ) → hue < 65536 → distance from hue ≤ distance from to → in_band b hue ≡ true → meet from to b.low b.high ≡ true
  unfolding meet
  finds hue h k i =
      go (leb (distance from b.low) (distance from to)) (leb (distance b.low from) (distance b.low b.high)) refl refl
    where
      go : (p q : Bool) → leb (distance from b.low) (distance from to) ≡ p → leb (distance b.low from) (distance b.low b.high) ≡ q → (p || q) ≡ true
      go true q e f = refl
      go false true e f = refl
      go false false e f =
          let l = leb-false (distance from b.low) (distance from to) e in
          let m = leb-false (distance b.low from) (distance b.low b.high) f in
          let n = leb-true (distance b.low hue) (distance b.low b.high) (sym (band-is b hue t h) ∙ i) in
          absurd (omega (arith, around from hue b.low hf h t.low (omega arith)))

-- ---- the test

module _ (found target : ℕ) (b : Band) (hf : found < 65536) (ht : target < 65536) (t : InRangeBand b) where
  by_way : (way : ℤ) → nat_abs way ≤ 65535 → moved_hue found way ≡ target → (cond (le_z (pos 0) way) (meet found target b.low b.high) (meet target found b.low b.high) ≡ true) ↔ Passed found way b
  by_way (pos n) s a =
      let whole : distance found target ≡ n = omega (arith, distance_is found target hf, moved_up found n) in
      rw (leb-zero n) (
        λ e. let c = common found target b hf ht t e in record { hue = c.0; on_arc = arc-up found n c.0 hf c.1 (omega (arith, c.2)); inside = c.3 },
        λ p. finds found target b hf ht t p.hue (arc-small p.on_arc) (omega (arith, up-arc found n p.hue hf s p.on_arc)) p.inside,
      )
  by_way (negsuc n) s a =
      let whole : distance target found ≡ suc n = omega (arith, distance_is target found ht, moved_down found (suc n)) in (
        λ e.
            let c = common target found b ht hf t e in
            record {
              hue = c.0;
              on_arc = arc-down found n c.0 hf c.1 (omega (arith, c.1, c.2, distance_is c.0 found c.1, distance_is target c.0 ht, distance_is target found ht));
              inside = c.3;
            },
        λ p.
            let h = arc-small p.on_arc in
            finds target found b ht hf t p.hue h
            (omega (arith, h, down-arc found n p.hue hf s p.on_arc, distance_is p.hue found h, distance_is target p.hue ht, distance_is target found ht))
            p.inside,
      )

  -- the test answers true exactly where some hue of the band is on the arc
  pub exactly : (d : DirectionEnum) → (passes_through found target d b ≡ true) ↔ Passed found (path_delta found target d) b
  unfolding passes_through
  exactly d = by_way (path_delta found target d) (way-small found target d) (arrives found target d hf ht)

  -- so where it answers false, no hue on the arc is in the band
  pub none_inside : (d : DirectionEnum) → passes_through found target d b ≡ false → (hue : ℕ) → OnArc found (path_delta found target d) hue → in_band b hue ≡ false
  none_inside d e hue a = go (in_band b hue) refl
    where
      go : (i : Bool) → in_band b hue ≡ i → i ≡ false
      go true i = absurd (true≢false (sym ((exactly d).1 (record { hue = hue; on_arc = a; inside = i })) ∙ e))
      go false i = refl

-- ---- a band by CurrentHue

-- two orders that hold together have one test
same_test : (a b c d : ℕ) → (c ≤ d → a ≤ b) → (d < c → b < a) → leb a b ≡ leb c d
same_test a b c d f g = go (leb c d) refl
  where
    go : (p : Bool) → leb c d ≡ p → leb a b ≡ p
    go true e = le-leb a b (f (leb-true c d e))
    go false e = lt-leb a b (g (leb-false c d e))

-- the tests on stored hues are those on CurrentHue
from_first : (low hue : ℕ) → leb (first_stored low) hue ≡ leb (min hue_limit low) (current_hue hue)
from_first low hue = same_test (first_stored low) hue (min hue_limit low) (current_hue hue) (λ h. omega arith) (λ h. omega arith)

to_last : (high hue : ℕ) → hue < 65536 → leb hue (last_stored high) ≡ leb (current_hue hue) (min hue_limit high)
to_last high hue h = go (ltb high hue_limit) refl
  where
    go : (p : Bool) → ltb high hue_limit ≡ p → leb hue (cond p (high * 256 + 255) 65535) ≡ leb (current_hue hue) (min hue_limit high)
    go true e =
        let l = ltb-true high hue_limit e in
        same_test hue (high * 256 + 255) (current_hue hue) (min hue_limit high) (λ k. omega arith) (λ k. omega arith)
    go false e =
        let l = ltb-false high hue_limit e in
        same_test hue 65535 (current_hue hue) (min hue_limit high) (λ k. omega arith) (λ k. omega arith)

first-to-last : (low high : ℕ) → leb (first_stored low) (last_stored high) ≡ leb (min hue_limit low) (min hue_limit high)
first-to-last low high =
    let shown : current_hue (first_stored low) ≡ min hue_limit low = omega arith in
    to_last high (first_stored low) (omega arith) ∙ ap (λ (n : ℕ). leb n (min hue_limit high)) shown

-- a stored hue is in the band exactly where its CurrentHue is one of those named, an end above 254 taken as 254
pub current-is : (low high hue : ℕ) → hue < 65536 →
    in_band (current_hue_band low high) hue ≡ in_band (record { low = min hue_limit low; high = min hue_limit high }) (current_hue hue)
unfolding in_band
current-is low high hue h = rw (first-to-last low high, from_first low hue, to_last high hue h)

-- a band of one number
one-alone : (n x : ℕ) → (in_band (record { low = n; high = n }) x ≡ true) ↔ (x ≡ n)
unfolding in_band
one-alone n x =
    rw (le-leb n n (omega arith)) (
      λ e. omega (arith, leb-true n x (and_left (leb n x) (leb x n) e), leb-true x n (and_right (leb n x) (leb x n) e)),
      λ e. rw (le-leb n x (omega arith), le-leb x n (omega arith)),
    )

-- so the band of one CurrentHue has every stored hue that shows it, and no other
pub current-alone : (n hue : ℕ) → n ≤ 254 → hue < 65536 → (in_band (current_hue_band n n) hue ≡ true) ↔ (current_hue hue ≡ n)
current-alone n hue s h =
    let same : min hue_limit n ≡ n = omega arith in
    rw (current-is n n hue h, same) (one-alone n (current_hue hue))

pub in-range-current : (low high : ℕ) → InRangeBand (current_hue_band low high)
in-range-current low high = record { low = omega arith; high = go (ltb high hue_limit) refl }
  where
    go : (p : Bool) → ltb high hue_limit ≡ p → cond p (high * 256 + 255) 65535 < 65536
    go true e = omega (arith, ltb-true high hue_limit e)
    go false e = omega arith
