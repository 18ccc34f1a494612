-- Decimal numbers: the value of digits, how many digits a number takes, and that they read back.
use Prim.Native.Nat.{ℕ, zero, suc, ◌+◌, ◌-◌, ◌*◌, ◌/◌, ◌%◌, ◌^◌, ◌≤◌, ◌<◌}
use native.Mathlib.Nat.{pow-suc}
use native.Mathlib.Omega.{arith}
use mathlib.Core.Path.{◌≡◌, refl, sym, ap, ◌∙◌}
use mathlib.Core.Logic.{⊎_elim}
use mathlib.Core.Bool.{Bool, true, false, cond, ◌&&◌, false≢true, and-false}
use mathlib.Core.List.{List, [], ◌∷◌, ◌++◌, append_assoc, append-nil}
use borrow.Author.Tests.{lt-ltb, le-ltb, lt-leb, leb-true, leb-false}
use lib.Dec.{ltb, leb}
use lib.IntN.{ℤ, pos, negsuc, nat_abs}
use lib.ListN.{length, take, drop, set, get_or, length-append, length-drop, length-set, drop_of_length-le}
use lib.Signed.{lt_z}
use Rattle.std.proofs.Common.{Some, None}
use Rattle.text.specs.Digits.{is_digit, digits_alone, value_from, value, grown, decimal_in, decimal, signed_decimal, spaced, spaced_all, hex_digit, hex_text}
use Rattle.std.proofs.lemmas.List.{take_more, take_all, drop-set}
use Rattle.std.proofs.lemmas.Grind.{drop-set_at}
use Rattle.text.proofs.WriteLaws.{side}

-- ---- values

pub value-next : (v : ℕ) (w : List ℕ) (b : ℕ) → value_from v (w ++ (b ∷ [])) ≡ value_from v w * 10 + (b - 48)
value-next v [] b = refl
value-next v (x ∷ w) b = value-next (v * 10 + (x - 48)) w b

pub value-join : (v : ℕ) (w u : List ℕ) → value_from v (w ++ u) ≡ value_from (value_from v w) u
value-join v [] u = refl
value-join v (x ∷ w) u = value-join (v * 10 + (x - 48)) w u

pub value_grows : (v : ℕ) (w : List ℕ) → v ≤ value_from v w
value_grows v [] = omega arith
value_grows v (x ∷ w) = omega (arith, value_grows (v * 10 + (x - 48)) w)

-- ---- a number with one digit more

-- what is refused is no digit, or spoils the number for whatever follows
pub grown-refused : (v b most : ℕ) (w : List ℕ) → grown v b most ≡ None → (digits_alone (b ∷ w) && leb (value_from v (b ∷ w)) most) ≡ false
unfolding grown
grown-refused v b most w e = by_tests (is_digit b) (leb (v * 10 + (b - 48)) most) refl refl e
  where
    by_tests : (t u : Bool) → is_digit b ≡ t → leb (v * 10 + (b - 48)) most ≡ u → cond (t && u) (Some (v * 10 + (b - 48))) None ≡ None
        → (digits_alone (b ∷ w) && leb (value_from v (b ∷ w)) most) ≡ false
    by_tests false u f g e = simp f
    by_tests true false f g e =
        ap (λ (t : Bool). digits_alone (b ∷ w) && t)
        (lt-leb (value_from v (b ∷ w)) most (omega (arith, leb-false (v * 10 + (b - 48)) most g, value_grows (v * 10 + (b - 48)) w)))
        ∙ and-false (digits_alone (b ∷ w))
    by_tests true true f g e = let z : ◌≡◌ {A = ℕ} 0 1 = cc in absurd (omega arith)

pub grown-to : (v b most n : ℕ) → grown v b most ≡ Some n → (is_digit b ≡ true) × (n ≡ v * 10 + (b - 48)) × (n ≤ most)
unfolding grown
grown-to v b most n e = by_tests (is_digit b) (leb (v * 10 + (b - 48)) most) refl refl e
  where
    by_tests : (t u : Bool) → is_digit b ≡ t → leb (v * 10 + (b - 48)) most ≡ u → cond (t && u) (Some (v * 10 + (b - 48))) None ≡ Some n
        → (is_digit b ≡ true) × (n ≡ v * 10 + (b - 48)) × (n ≤ most)
    by_tests false u f g e = let z : ◌≡◌ {A = ℕ} 0 1 = cc in absurd (omega arith)
    by_tests true false f g e = let z : ◌≡◌ {A = ℕ} 0 1 = cc in absurd (omega arith)
    by_tests true true f g e =
        let same : n ≡ v * 10 + (b - 48) = cc in
        (f, same, omega (arith, leb-true (v * 10 + (b - 48)) most g))

-- ---- digits

digits-short : (b : Bool) (ds : List ℕ) (d k : ℕ) → length ds ≤ k → length (cond b [] ds ++ (d ∷ [])) ≤ suc k
digits-short true ds d k h = omega arith
digits-short false ds d k h = simp length-append (omega arith)

decimal_in-short : (k n : ℕ) → length (decimal_in k n) ≤ k
unfolding decimal_in
decimal_in-short zero n = omega arith
decimal_in-short (suc k) n = digits-short (ltb n 10) (decimal_in k (n / 10)) _ k (decimal_in-short k (n / 10))

-- a number takes at most 20 places
pub decimal-short : (n : ℕ) → length (decimal n) ≤ 20
unfolding decimal
decimal-short n = decimal_in-short 20 n

-- below 10, a number is one digit
pub decimal-one : (n : ℕ) → n < 10 → decimal n ≡ (48 + n % 10) ∷ []
unfolding decimal decimal_in
decimal-one n h = simp (lt-ltb n 10 h)

-- a tenth takes a digit less
tenth-below : (k n : ℕ) → n < 10 ^ suc k → n / 10 < 10 ^ k
tenth-below k n h =
    let room : n < 10 ^ k * 10 = rw pow-suc at h in
    omega arith

-- where k digits hold a number, one more adds nothing
decimal_in-enough : (k n : ℕ) → n < 10 ^ suc k → decimal_in (suc k) n ≡ decimal_in (suc (suc k)) n
unfolding decimal_in
decimal_in-enough zero n h = simp (lt-ltb n 10 h)
decimal_in-enough (suc k) n h =
    ap (λ (ds : List ℕ). cond (ltb n 10) [] ds ++ ((48 + n % 10) ∷ [])) (decimal_in-enough k (n / 10) (tenth-below (suc k) n h))

-- from 10 on, it is its tenth and the last digit
pub decimal-more : (n : ℕ) → 10 ≤ n → n < 10 ^ 20 → decimal n ≡ decimal (n / 10) ++ ((48 + n % 10) ∷ [])
unfolding decimal decimal_in
decimal-more n from fits = simp (le-ltb n 10 from) (ap (λ (ds : List ℕ). ds ++ ((48 + n % 10) ∷ [])) (decimal_in-enough 18 (n / 10) (omega arith)))

-- ---- digits are put from the last: those behind a place are there, and a number is left

pub record Left (n left i : ℕ) (ds : List ℕ) : Type 0 where
  pub text : decimal left ++ drop (i + 1) ds ≡ decimal n
  pub below : left < 10 ^ (i + 1)

-- a number of two digits has room for both
pub digit-room : (n left i : ℕ) (ds : List ℕ) → Left n left i ds → 10 ≤ left → 0 < i
digit-room n left zero ds l from = absurd (omega (arith, l.below))
digit-room n left (suc i) ds l from = omega arith

pub digit-more : (n left i j : ℕ) (ds : List ℕ) → Left n left i ds → 10 ≤ left → left < 10 ^ 20 → i ≡ j + 1 → i < length ds →
    Left n (left / 10) j (set ds i (48 + left % 10))
digit-more n left i j ds l from fits e inside =
    let put : drop (j + 1) (set ds i (48 + left % 10)) ≡ (48 + left % 10) ∷ drop (i + 1) ds = drop-set_at ds i (j + 1) (48 + left % 10) (sym e) inside in
    let p : i + 1 ≡ suc (j + 1) = omega (arith, e) in
    let room : left < 10 ^ suc (j + 1) = rw p at l.below in
    record {
      text =
          ap (λ (s : List ℕ). decimal (left / 10) ++ s) put
          ∙ sym (append_assoc (decimal (left / 10)) ((48 + left % 10) ∷ []) (drop (i + 1) ds))
          ∙ ap (λ (s : List ℕ). s ++ drop (i + 1) ds) (sym (decimal-more left from fits))
          ∙ l.text;
      below = tenth-below (j + 1) left room;
    }

digit-put : (n left i : ℕ) (ds : List ℕ) → Left n left i ds → left < 10 → i < length ds → drop i (set ds i (48 + left)) ≡ decimal n
digit-put n left i ds l h inside =
    let one : 48 + left % 10 ≡ 48 + left = omega (arith, h) in
    drop-set ds i (48 + left) inside
    ∙ ap (λ (d : ℕ). d ∷ drop (i + 1) ds) (sym one)
    ∙ ap (λ (s : List ℕ). s ++ drop (i + 1) ds) (sym (decimal-one left h))
    ∙ l.text

pub digit-last : (n left i : ℕ) (ds : List ℕ) → Left n left i ds → left < 10 → i < length ds → length ds ≡ 20 →
    take (20 - i) (drop i (set ds i (48 + left))) ≡ decimal n
digit-last n left i ds l h inside e =
    let many : length (drop i (set ds i (48 + left))) ≡ 20 - i = rw (length-drop, length-set) (ap (λ (k : ℕ). k - i) e) in
    take_all (20 - i) (drop i (set ds i (48 + left))) (omega (arith, many)) ∙ digit-put n left i ds l h inside

pub digits-none : (n : ℕ) (ds : List ℕ) → n < 10 ^ 20 → length ds ≡ 20 → Left n n 19 ds
digits-none n ds h e =
    let over : drop (19 + 1) ds ≡ [] = drop_of_length-le ds {i = 19 + 1} (omega (arith, e)) in
    record { text = ap (λ (s : List ℕ). decimal n ++ s) over ∙ append-nil (decimal n); below = h }

value-decimal_in : (k n : ℕ) → n < 10 ^ k → value (decimal_in k n) ≡ n
unfolding decimal_in
value-decimal_in zero n h = omega arith
value-decimal_in (suc k) n h =
    let tenth : value (decimal_in k (n / 10)) ≡ n / 10 = value-decimal_in k (n / 10) (tenth-below k n h) in
    ⊎_elim (λ below. simp (lt-ltb n 10 below) (omega arith)) (λ from. simp (le-ltb n 10 from, value-next 0 (decimal_in k (n / 10)) (48 + n % 10), tenth) (omega arith)) (side n 10)

-- the digits of a number read back
pub value-decimal : (n : ℕ) → n < 10 ^ 20 → value (decimal n) ≡ n
unfolding decimal
value-decimal n h = value-decimal_in 20 n h

-- ---- signed numbers

pub signed_above : (z : ℤ) → lt_z z (pos 0) ≡ false → signed_decimal z ≡ decimal (nat_abs z)
signed_above (pos n) e = refl
signed_above (negsuc n) e = absurd (false≢true (sym e))

-- ---- numbers behind blanks

spaced-join : (ms ns : List ℕ) → spaced_all (ms ++ ns) ≡ spaced_all ms ++ spaced_all ns
unfolding spaced_all
spaced-join [] ns = refl
spaced-join (m ∷ ms) ns = rw (spaced-join ms ns, append_assoc)

-- one number more
pub spaced_more : (ns : List ℕ) (i : ℕ) → i < length ns → spaced_all (take (i + 1) ns) ≡ spaced_all (take i ns) ++ spaced (get_or ns i 0)
unfolding spaced_all
spaced_more ns i h = rw (take_more ns i 0 h, spaced-join, append-nil)

-- ---- hexadecimal

hex-join : (s t : List ℕ) → hex_text (s ++ t) ≡ hex_text s ++ hex_text t
unfolding hex_text
hex-join [] t = refl
hex-join (b ∷ s) t = ap (λ (ds : List ℕ). hex_digit (b / 16) ∷ hex_digit b ∷ ds) (hex-join s t)

-- one byte more
pub hex_more : (s : List ℕ) (i : ℕ) → i < length s → hex_text (take (i + 1) s) ≡ hex_text (take i s) ++ (hex_digit (get_or s i 0 / 16) ∷ hex_digit (get_or s i 0) ∷ [])
unfolding hex_text
hex_more s i h = rw (take_more s i 0 h) (hex-join (take i s) (get_or s i 0 ∷ []))
