-- A word of pairs of hexadecimal digits: its bytes, and that what is written reads back.
use Prim.Native.Nat.{ℕ, zero, suc, ◌+◌, ◌*◌, ◌/◌, ◌%◌, ◌<◌, ◌≤◌}
use native.Mathlib.Omega.{arith}
use mathlib.Core.Path.{◌≡◌, refl, ap, ◌∙◌}
use mathlib.Core.Logic.{⊎_elim}
use mathlib.Core.Bool.{Bool, true, false, ◌&&◌}
use mathlib.Core.List.{List, [], ◌∷◌, ◌++◌}
use borrow.Author.Tests.{lt-ltb, le-ltb, le-leb, lt-leb}
use lib.Dec.{eqb}
use lib.ListN.{length, get_or, take, drop, set, length-append, length-drop}
use lib.Seq.{length-take-le, take-length}
use Rattle.std.specs.List.{list_all}
use Rattle.text.specs.Digits.{is_hex_digit, hex_value, hex_digit, hex_text}
use Rattle.text.specs.Written.{pasted}
use Rattle.text.specs.Pairs.{is_pairs, bytes_of}
use Rattle.text.proofs.WriteLaws.{side}

pub bytes_half : (w : List ℕ) → length (bytes_of w) ≡ length w / 2
unfolding bytes_of
bytes_half [] = omega arith
bytes_half (a ∷ []) = omega arith
bytes_half (a ∷ b ∷ w) = omega (arith, bytes_half w)

pub pairs_all : (w : List ℕ) → (eqb (length w % 2) 0 && list_all is_hex_digit w) ≡ is_pairs w
unfolding is_pairs
pairs_all [] = refl
pairs_all (a ∷ []) = refl
pairs_all (a ∷ b ∷ w) =
    let even : suc (suc (length w)) % 2 ≡ length w % 2 = omega arith in
    ap (λ (n : ℕ). eqb n 0 && (is_hex_digit a && (is_hex_digit b && list_all is_hex_digit w))) even
    ∙ by_digits (eqb (length w % 2) 0) (is_hex_digit a) (is_hex_digit b) (list_all is_hex_digit w)
    ∙ ap (λ (t : Bool). (is_hex_digit a && is_hex_digit b) && t) (pairs_all w)
  where
    by_digits : (e s t u : Bool) → (e && (s && (t && u))) ≡ ((s && t) && (e && u))
    by_digits true true true u = refl
    by_digits true true false u = refl
    by_digits true false t u = refl
    by_digits false true true u = refl
    by_digits false true false u = refl
    by_digits false false t u = refl

-- the byte of a pair
pub byte_at : (w : List ℕ) (i : ℕ) → i < length w / 2 → get_or (bytes_of w) i 0 ≡ hex_value (get_or w (2 * i) 0) * 16 + hex_value (get_or w (2 * i + 1) 0)
unfolding bytes_of
byte_at [] i h = absurd (omega arith)
byte_at (a ∷ []) i h = absurd (omega arith)
byte_at (a ∷ b ∷ w) zero h = refl
byte_at (a ∷ b ∷ w) (suc i) h =
    let first : 2 * suc i ≡ suc (suc (2 * i)) = omega arith in
    let second : 2 * suc i + 1 ≡ suc (suc (2 * i + 1)) = omega arith in
    rw (second, first) (byte_at w i (omega arith))

-- one byte more
pub put_next : (old bs : List ℕ) (i : ℕ) → i < length bs → length bs ≤ length old → set (take i bs ++ drop i old) i (get_or bs i 0) ≡ take (i + 1) bs ++ drop (i + 1) old
put_next [] bs i h k = absurd (omega arith)
put_next (o ∷ old) [] i h k = absurd (omega arith)
put_next (o ∷ old) (b ∷ bs) zero h k = refl
put_next (o ∷ old) (b ∷ bs) (suc i) h k =
    let next : suc i + 1 ≡ suc (i + 1) = omega arith in
    rw next (ap (λ (l : List ℕ). b ∷ l) (put_next old bs i (omega arith) (omega arith)))

pub put_length : (old bs : List ℕ) (i : ℕ) → i ≤ length bs → length bs ≤ length old → length (take i bs ++ drop i old) ≡ length old
put_length old bs i h k = simp (length-append, length-take-le, length-drop) (omega arith)

pub put_all : (old bs : List ℕ) → take (length bs) bs ++ drop (length bs) old ≡ pasted old 0 bs
unfolding pasted
put_all old bs = let none : 0 + length bs ≡ length bs = omega arith in rw (take-length, none) refl

-- no bytes change nothing
pub put_none : (old : List ℕ) → pasted old 0 [] ≡ old
unfolding pasted
put_none old = refl

-- ---- what is written reads back

digit-back : (n : ℕ) → hex_value (hex_digit n) ≡ n % 16
unfolding hex_value hex_digit
digit-back n =
    ⊎_elim
    (λ h. simp (lt-ltb (n % 16) 10 h, le-leb 48 (n % 16 + 48) (omega arith), le-leb (n % 16 + 48) 57 (omega arith)) (omega arith))
    (λ h. simp (le-ltb (n % 16) 10 h, le-leb 48 (n % 16 + 87) (omega arith), lt-leb (n % 16 + 87) 57 (omega arith), le-leb 97 (n % 16 + 87) (omega arith), le-leb (n % 16 + 87) 102 (omega arith)) (omega arith))
    (side (n % 16) 10)

digit-is : (n : ℕ) → is_hex_digit (hex_digit n) ≡ true
unfolding hex_digit
digit-is n =
    ⊎_elim
    (λ h. simp (lt-ltb (n % 16) 10 h, le-leb 48 (n % 16 + 48) (omega arith), le-leb (n % 16 + 48) 57 (omega arith)))
    (λ h. simp (le-ltb (n % 16) 10 h, le-leb 48 (n % 16 + 87) (omega arith), lt-leb (n % 16 + 87) 57 (omega arith), le-leb 97 (n % 16 + 87) (omega arith), le-leb (n % 16 + 87) 102 (omega arith)))
    (side (n % 16) 10)

pub hex-is-pairs : (bs : List ℕ) → is_pairs (hex_text bs) ≡ true
unfolding is_pairs hex_text
hex-is-pairs [] = refl
hex-is-pairs (b ∷ bs) = rw (digit-is (b / 16), digit-is b, hex-is-pairs bs)

pub bytes_back : (bs : List ℕ) → ((k : ℕ) → k < length bs → get_or bs k 0 < 256) → bytes_of (hex_text bs) ≡ bs
unfolding bytes_of hex_text
bytes_back [] small = refl
bytes_back (b ∷ bs) small =
    let first : hex_value (hex_digit (b / 16)) * 16 + hex_value (hex_digit b) ≡ b = rw (digit-back (b / 16), digit-back b) (omega (arith, small 0 (omega arith))) in
    rw (first, bytes_back bs (λ k h. small (suc k) (omega arith)))
