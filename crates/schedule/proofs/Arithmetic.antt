-- The arithmetic of a fade: the way travelled, read off a hue, is the size of the part; the end is permille 1000; the remaining
-- time fits its sixteen bits.
use Rattle.std.proofs.lemmas.Bool.Decides.{nat_tests}
use Prim.Native.Nat.{ℕ, suc, ◌*◌, ◌-◌, ◌/◌, ◌≤◌, ◌<◌}
use mathlib.Core.Bool.{cond}
use mathlib.Core.Path.{◌≡◌, sym, ◌∙◌, ap}
use native.Mathlib.Nat.{le_refl}
use native.Mathlib.Omega.{arith}
use lib.Dec.{leb, leb-zero}
use lib.IntN.{ℤ, pos, negsuc, neg_ℤ, nat_abs}
use lib.Signed.{le_z}
use Rattle.integers.proofs.Sizes.{abs_neg}
use Rattle.matter.specs.declared.enums.DirectionEnum.{DirectionEnum}
use Rattle.hue.specs.Hue.{distance, path_delta, moved_hue}
use Rattle.hue.proofs.Laws.{moved-small, moved_up, moved_down, distance_is, way-small, arrives}
use Rattle.progress.specs.Progress.{permille_of, part_of, tenths_of}
use Rattle.progress.proofs.Laws.{permille-full, permille-short, part-down, part-whole, part-size, part-within}
use Rattle.remaining_time.specs.RemainingTime.{new_tenths}

-- ---- the way travelled, read off a hue

-- how far a hue is from the one found, on the side of the way's sign
abbrev pub gone : ℤ → ℕ → ℕ → ℕ
gone way found hue = cond (le_z (pos 0) way) (distance found hue) (distance hue found)

gone-up : (found k : ℕ) → found < 65536 → k ≤ 65535 → distance found (moved_hue found (pos k)) ≡ k
gone-up found k h s = rw (distance_is found (moved_hue found (pos k)) h, moved_up found k) (omega arith)

gone-down : (found k : ℕ) → found < 65536 → k ≤ 65535 → distance (moved_hue found (neg_ℤ (pos k))) found ≡ k
gone-down found k h s =
    rw (distance_is (moved_hue found (neg_ℤ (pos k))) found (moved-small found (neg_ℤ (pos k))), moved_down found k) (omega arith)

-- of a part of the way it is the part's size
pub gone-part : (way : ℤ) (found p : ℕ) → found < 65536 → nat_abs way ≤ 65535 → p ≤ 1000 → gone way found (moved_hue found (part_of way p)) ≡ nat_abs (part_of way p)
gone-part (pos n) found p h s k =
    let m = part-within (pos n) p k in
    rw (leb-zero n) (gone-up found (n * p / 1000) h (omega arith))
gone-part (negsuc n) found p h s k =
    let m = part-within (negsuc n) p k in
    let e : part_of (negsuc n) p ≡ neg_ℤ (pos (suc n * p / 1000)) = part-down (suc n) p in
    let z : nat_abs (part_of (negsuc n) p) ≡ suc n * p / 1000 = part-size (negsuc n) p in
    rw e (gone-down found (suc n * p / 1000) h (omega arith) ∙ sym (abs_neg (pos (suc n * p / 1000))))

module _ (found target : ℕ) (d : DirectionEnum) (hf : found < 65536) (ht : target < 65536) where
  -- the whole way ends at the target
  pub whole-arrives : moved_hue found (part_of (path_delta found target d) 1000) ≡ target
  whole-arrives = ap (moved_hue found) (part-whole (path_delta found target d)) ∙ arrives found target d hf ht

  -- where the whole way is travelled
  pub gone_whole : gone (path_delta found target d) found target ≡ nat_abs (path_delta found target d)
  gone_whole =
      ap (gone (path_delta found target d) found) (sym whole-arrives)
      ∙ gone-part (path_delta found target d) found 1000 hf (way-small found target d) (le_refl 1000)
      ∙ ap nat_abs (part-whole (path_delta found target d))

-- ---- the end

-- permille is 1000 exactly from the time on
pub at-end : (e t : ℕ) → leb 1000 (permille_of e t) ≡ leb t e
at-end e t = grind (arith, nat_tests, permille-full e t, permille-short e t)

-- ---- the remaining time

-- a time valid, or less of it, fits in sixteen bits
pub tenths-fit : (ms e : ℕ) → ms ≤ 6553500 → new_tenths (ms - e) ≡ tenths_of (ms - e)
tenths-fit ms e h = omega arith
