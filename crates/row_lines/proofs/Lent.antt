-- The bytes of a slice that is lent: the turns of the loop that fills it, and the comparison.
use Prim.Native.Nat.{ℕ, zero, suc, ◌+◌, ◌-◌, ◌%◌, ◌≤◌, ◌<◌}
use native.Mathlib.Numerals.{add-one}
use native.Mathlib.Omega.{arith}
use mathlib.Core.Path.{◌≡◌, refl, sym, ap, ◌∙◌}
use mathlib.Core.List.{List, [], ◌∷◌, ◌++◌, append_assoc, append-nil}
use lib.Dec.{eqb}
use lib.ListN.{length, take, set}
use lib.Seq.{take_all, take-suc-set}
use Rattle.std.specs.Str.{bytes_eq}
use Rattle.std.specs.List.{list_all, enumerate_from}
use Rattle.row_lines.specs.RowAnswers.{lent_bytes}

-- what is lent_bytes from a place on
abbrev pub rest : ℕ → ℕ → ℕ → List ℕ
rest fill n i = lent_bytes (fill + i) (n - i)

pub rest-next : (fill n i : ℕ) → i < n → rest fill n i ≡ (fill + i) % 256 ∷ rest fill n (i + 1)
unfolding lent_bytes
rest-next fill n i h =
    let e : n - i ≡ suc (n - (i + 1)) = omega arith in
    let f : fill + i + 1 ≡ fill + (i + 1) = omega arith in
    rw (e, f)

pub rest-none : (fill n i : ℕ) → n ≤ i → rest fill n i ≡ []
unfolding lent_bytes
rest-none fill n i h = let e : n - i ≡ 0 = omega arith in rw e

pub lent_length : (fill n : ℕ) → length (lent_bytes fill n) ≡ n
unfolding lent_bytes
lent_length fill zero = refl
lent_length fill (suc n) = ap suc (lent_length (fill + 1) n)

-- ---- filling

pub lent-more : (bytes : List ℕ) (fill n i : ℕ) {whole : List ℕ} → i < n → length bytes ≡ n → take i bytes ++ rest fill n i ≡ whole
    → take (i + 1) (set bytes i ((fill + i) % 256)) ++ rest fill n (i + 1) ≡ whole
lent-more bytes fill n i h l e =
    let inside : i < length bytes = omega arith in
    rw (add-one i, take-suc-set bytes i ((fill + i) % 256) inside, append_assoc, ← (add-one i)) (rw (rest-next fill n i h) at e)

pub lent-all : (bytes : List ℕ) (fill n i : ℕ) {whole : List ℕ} → n ≤ i → length bytes ≡ n → take i bytes ++ rest fill n i ≡ whole → bytes ≡ whole
lent-all bytes fill n i h l e =
    sym (take_all i bytes (omega arith)) ∙ sym (append-nil (take i bytes)) ∙ (rw (rest-none fill n i h) at e)

-- ---- comparing

-- each byte tested at its place, from place n on
pub all-lent : (bytes : List ℕ) (fill n : ℕ) → list_all (λ p. eqb p.1 ((fill + p.0) % 256)) (enumerate_from n bytes) ≡ bytes_eq bytes (lent_bytes (fill + n) (length bytes))
unfolding lent_bytes
all-lent [] fill n = refl
all-lent (b ∷ bs) fill n =
    let e : fill + n + 1 ≡ fill + (n + 1) = omega arith in
    rw (e, all-lent bs fill (n + 1))
