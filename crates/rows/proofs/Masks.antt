-- The running mask: its bits, its readings, and one bit set or cleared in it.
use Rattle.std.specs.Prelude.{Option, Some, None}
use Rattle.std.proofs.Common.{◌≡◌, ℕ, zero, suc, ◌+◌, ◌*◌, ◌^◌, ◌%◌, ◌<◌, ◌≤◌, Bool, true, false, cond, not, List, [], ◌∷◌, map, length, set, take, get_or, eqb, refl, ap, sym, ◌∙◌, arith, w32, count_ones, length-take-le, eqb-true, ne_eqb}
use Rattle.std.proofs.lemmas.Bool.{eqb-false}
use Rattle.std.specs.Int.{bit_at, bit_not}
use Rattle.std.specs.List.{prefix_len}
use Rattle.std.proofs.Math.ListN.{get_or-map}
use Rattle.std.proofs.Math.Nat.{one-mul, mod-eq_of_lt, zero-add, add-zero}
use Rattle.std.proofs.Math.Seq.{take-set-lt, get_or-set_same, get_or-set_other}
use Rattle.std.proofs.Math.Pow.{pow_mono}
use Rattle.std.proofs.lemmas.List.{length-map, length-set, get_or-take, get_or_past}
use Rattle.std.proofs.lemmas.Nat.Bits.{bit_at_set_same, bit_at_set_other, bit_at_clear_same, bit_at_clear_other, same_from_bits_below}
use Rattle.std.proofs.lemmas.Simd.{mask_l-lt, bit_mask_l, ones-mask_l, trailing_mask_l}
use Rattle.tasks.specs.Runs.{runs}
use Rattle.lamp.specs.declared.Lamp.{Lamp}
use Rattle.rows.specs.declared.Row.{Row}
use Rattle.std.proofs.lemmas.Nat.{or_of_32, and_le_l}
use Rattle.rows.proofs.Laws.{either}
use Rattle.rows.specs.Rows.{mask_of, mask_true, placed, with_lamps, with_bit, stored, no_lamp, lowest_of, first_running, Readings}

abbrev running : Lamp → Bool
running l = runs l.running

-- ---- how large it is

pub mask-lt : (ls : List Lamp) (n : ℕ) → length ls ≤ n → mask_of ls < 2 ^ n
mask-lt ls n h =
    let many : length (map running ls) ≤ n = omega (arith, length-map ls running) in
    omega (arith, mask_l-lt (map running ls), pow_mono many)

-- ---- its bits

pub mask-bit : (ls : List Lamp) (k : ℕ) → bit_at (mask_of ls) k ≡ cond (runs (get_or ls k no_lamp).running) 1 0
mask-bit ls k = bit_mask_l (map running ls) k ∙ ap (λ b. cond b 1 0) (get_or-map running ls k no_lamp)

-- ---- one bit

-- a shift that loses no bit
shifted : (k : ℕ) → k < 32 → 1 * 2 ^ k % 2 ^ 32 ≡ 2 ^ k
shifted k h =
    let low : k ≤ 31 = omega arith in
    rw (one-mul (2 ^ k)) (mod-eq_of_lt (omega (arith, pow_mono low)))

pub bit_here : (mask k : ℕ) (b : Bool) → k < 32 → bit_at (with_bit mask k b) k ≡ cond b 1 0
bit_here mask k true h = rw (shifted k h) at (bit_at_set_same w32 mask k h)
bit_here mask k false h = rw (shifted k h) at (bit_at_clear_same w32 mask k h)

pub bit_elsewhere : (mask k i : ℕ) (b : Bool) → k < 32 → i < 32 → (i ≡ k → ⊥) → bit_at (with_bit mask k b) i ≡ bit_at mask i
bit_elsewhere mask k i true h m n = rw (shifted k h) at (bit_at_set_other w32 mask k h i n)
bit_elsewhere mask k i false h m n = rw (shifted k h) at (bit_at_clear_other w32 mask k h i m n)

with_bit-lt : (mask k : ℕ) (b : Bool) → mask < 2 ^ 32 → k < 32 → with_bit mask k b < 2 ^ 32
with_bit-lt mask k true h m =
    let low : k ≤ 31 = omega arith in
    or_of_32 mask (2 ^ k) h (omega (arith, pow_mono low))
with_bit-lt mask k false h m = omega (arith, and_le_l mask (bit_not w32 (2 ^ k)))

-- another lamp at a place, and its bit: the mask of the lamps then
pub mask-set : (ls : List Lamp) (k : ℕ) (l : Lamp) → k < length ls → length ls ≤ 32 →
    with_bit (mask_of ls) k (runs l.running) ≡ mask_of (set ls k l)
mask-set ls k l h few =
    let bit_of : Lamp → ℕ = λ x. cond (running x) 1 0 in
    let place : k < 32 = omega arith in
    same_from_bits_below 32 _ _ (with_bit-lt (mask_of ls) k (running l) (mask-lt ls 32 few) place) (mask-lt (set ls k l) 32 (omega (arith, length-set ls k l)))
    (λ i low. either (eqb i k)
    (λ e. rw (eqb-true i k e) (bit_here (mask_of ls) k (running l) place ∙ sym (mask-bit (set ls k l) k ∙ ap bit_of (get_or-set_same ls k l no_lamp h))))
    (λ e. bit_elsewhere (mask_of ls) k i (running l) place low (eqb-false i k e) ∙ mask-bit ls i
    ∙ sym (mask-bit (set ls k l) i ∙ ap bit_of (get_or-set_other ls k i l no_lamp (eqb-false i k e)))))

-- the row with a lamp stored in it is the row made of its lamps
pub stored-true : (r : Row) (k : ℕ) (l : Lamp) → mask_true r ≡ true → k < r.count → r.count ≤ 32 → length r.lamps ≡ 32 →
    stored r k l ≡ with_lamps r (set r.lamps k l)
stored-true r k l m there few len =
    let many : length (placed r) ≡ r.count = length-take-le r.count r.lamps (omega arith) in
    let mask : with_bit r.running_mask k (runs l.running) ≡ mask_of (take r.count (set r.lamps k l)) =
    ap (λ n. with_bit n k (runs l.running)) (eqb-true _ _ m) ∙ mask-set (placed r) k l (omega arith) (omega arith)
    ∙ ap mask_of (sym (take-set-lt r.count r.lamps k l there)) in
    ap (λ n. record { count = r.count; running_mask = n; lamps = set r.lamps k l }) mask

-- ---- readings

first-step : (b : Bool) (mask before k : ℕ) (rest : Option ℕ) →
    cond (eqb mask 0) None (Some (suc k + before)) ≡ rest →
    cond (eqb (cond b 1 0 + 2 * mask) 0) None (Some (k + cond (not b) (1 + before) 0)) ≡ cond b (Some k) rest
first-step true mask before k rest e = rw (ne_eqb (1 + 2 * mask) 0 (λ z. omega (arith, z))) (ap Some (add-zero k))
first-step false zero before k rest e = e
first-step false (suc mask) before k rest e =
    let later : k + (1 + before) ≡ suc k + before = omega arith in
    rw (ne_eqb (0 + 2 * suc mask) 0 (λ z. omega (arith, z))) (ap Some later ∙ (rw (ne_eqb (suc mask) 0 (λ z. omega (arith, z))) at e))

first-at : (k : ℕ) (ls : List Lamp) →
    cond (eqb (mask_of ls) 0) None (Some (k + prefix_len (λ l. not (running l)) ls)) ≡ first_running k ls
first-at k [] = refl
first-at k (l ∷ ls) = first-step (running l) (mask_of ls) (prefix_len (λ x. not (running x)) ls) k (first_running (suc k) ls) (first-at (suc k) ls)

lowest-is : (ls : List Lamp) → length ls ≤ 32 → lowest_of (mask_of ls) ≡ first_running 0 ls
lowest-is ls few =
    either (eqb (mask_of ls) 0)
    (λ e. rw e (rw e at (first-at 0 ls)))
    (λ e. rw e (ap Some (trailing_mask_l running 32 ls few (omega (arith, eqb-false _ _ e)) ∙ sym (zero-add _)) ∙ (rw e at (first-at 0 ls))))

pub readings : (r : Row) → mask_true r ≡ true → r.count ≤ 32 → length r.lamps ≡ 32 → Readings r
readings r m few len =
    let same : r.running_mask ≡ mask_of (placed r) = eqb-true _ _ m in
    let many : length (placed r) ≡ r.count = length-take-le r.count r.lamps (omega arith) in
    let bit_of : Lamp → ℕ = λ x. cond (running x) 1 0 in record {
      bits = λ k h. ap (λ n. bit_at n k) same ∙ mask-bit (placed r) k ∙ ap bit_of (get_or-take r.count r.lamps k no_lamp h);
      past = λ k h. ap (λ n. bit_at n k) same ∙ mask-bit (placed r) k ∙ ap bit_of (get_or_past (placed r) k no_lamp (omega arith));
      count = ap count_ones same ∙ ones-mask_l running (placed r);
      lowest = ap lowest_of same ∙ lowest-is (placed r) (omega arith);
    }
