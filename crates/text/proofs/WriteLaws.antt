-- Texts in a slice: one after the other, how much of one fits, and that two writes are the write of the texts joined.
use Prim.Native.Nat.{ℕ, zero, suc, ◌+◌, ◌-◌, ◌≤◌, ◌<◌, min}
use native.Mathlib.Nat.{add-zero, add_assoc}
use native.Mathlib.Numerals.{add-one}
use native.Mathlib.Omega.{arith}
use mathlib.Core.Path.{◌≡◌, refl, sym, ap, ◌∙◌}
use mathlib.Core.Logic.{◌⊎◌, inl, inr, ⊎_elim}
use mathlib.Core.Bool.{Bool, true, false}
use mathlib.Core.List.{List, [], ◌∷◌, ◌++◌, append_assoc, append-nil}
use borrow.Author.Tests.{ltb-true, ltb-false}
use lib.Dec.{ltb}
use lib.ListN.{length, take, drop, set, length-append, length-take, length-drop, take-append-drop}
use lib.Seq.{set_split, append_snoc, length-take-le, take_at, drop_at, drop-drop, take_all, take-nil}
use Rattle.text.specs.Written.{pasted, clipped, Wrote, Written}

side-by : (b : Bool) (n m : ℕ) → ltb n m ≡ b → (n < m) ⊎ (m ≤ n)
side-by true n m e = inl (ltb-true n m e)
side-by false n m e = inr (ltb-false n m e)

-- below a number, or from it on
pub side : (n m : ℕ) → (n < m) ⊎ (m ≤ n)
side n m = side-by (ltb n m) n m refl

-- ---- texts that fit

head-length : (old : List ℕ) (at : ℕ) (text : List ℕ) → at ≤ length old → length (take at old ++ text) ≡ at + length text
head-length old at text h = simp (length-append, length-take-le)

-- an empty text changes nothing
pub pasted-none : (old : List ℕ) (at : ℕ) → pasted old at [] ≡ old
unfolding pasted
pasted-none old at = simp (append-nil, add-zero, take-append-drop)

pub wrote_none : (old : List ℕ) (at : ℕ) → Wrote old at [] old at
wrote_none old at = record { place = sym (add-zero at); bytes = sym (pasted-none old at) }

-- up to its end, the slice is what was before the text, and the text
pub take-pasted : (old : List ℕ) (at : ℕ) (text : List ℕ) → at ≤ length old → take (at + length text) (pasted old at text) ≡ take at old ++ text
unfolding pasted
take-pasted old at text h = take_at (take at old ++ text) _ _ (head-length old at text h)

-- behind its end, the slice is what it was
pub drop-pasted : (old : List ℕ) (at : ℕ) (text : List ℕ) → at ≤ length old → drop (at + length text) (pasted old at text) ≡ drop (at + length text) old
unfolding pasted
drop-pasted old at text h = drop_at (take at old ++ text) _ _ (head-length old at text h)

-- the slice keeps its length
pub length-pasted : (old : List ℕ) (at : ℕ) (text : List ℕ) → at + length text ≤ length old → length (pasted old at text) ≡ length old
unfolding pasted
length-pasted old at text h =
    let before : at ≤ length old = omega arith in
    simp (length-append, length-take-le, length-drop) (omega arith)

-- a text right after a text is the two joined
pub pasted-pasted : (old : List ℕ) (at : ℕ) (s t : List ℕ) → at ≤ length old → pasted (pasted old at s) (at + length s) t ≡ pasted old at (s ++ t)
unfolding pasted
pasted-pasted old at s t h =
    let start : take (at + length s) (pasted old at s) ≡ take at old ++ s = take-pasted old at s h in
    let rest : drop (at + length s + length t) (pasted old at s) ≡ drop (at + length s + length t) old =
    sym (drop-drop (length t) (at + length s) (pasted old at s)) ∙ ap (drop (length t)) (drop-pasted old at s h) ∙ drop-drop (length t) (at + length s) old
    in
    rw (start, rest) (simp (length-append, append_assoc, add_assoc))

pub wrote-more : (old : List ℕ) (at : ℕ) (s t : List ℕ) {mid new : List ℕ} {next end : ℕ} → at ≤ length old
    → Wrote old at s mid next → Wrote mid next t new end → Wrote old at (s ++ t) new end
wrote-more old at s t h one two =
    record {
      place = rw (length-append, ← add_assoc, ← one.place) two.place;
      bytes = rw (← (pasted-pasted old at s t h), ← one.place, ← one.bytes) two.bytes;
    }

-- ---- how much of a text fits

-- with room, all
pub clipped-all : (old : List ℕ) (at : ℕ) (text : List ℕ) → at + length text ≤ length old → clipped old at text ≡ text
unfolding clipped
clipped-all old at text h = take_all (length old - at) text (omega arith)

-- behind the end, nothing
clipped-none : (old : List ℕ) (at : ℕ) (text : List ℕ) → length old ≤ at → clipped old at text ≡ []
unfolding clipped
clipped-none old at text h = let none : length old - at ≡ 0 = omega arith in rw none

clipped-length : (old : List ℕ) (at : ℕ) (text : List ℕ) → length (clipped old at text) ≡ min (length old - at) (length text)
unfolding clipped
clipped-length old at text = length-take (length old - at) text

-- the slice keeps its length, whatever is written
pub length-clipped : (old : List ℕ) (at : ℕ) (text : List ℕ) → length (pasted old at (clipped old at text)) ≡ length old
length-clipped old at text =
    ⊎_elim
    (λ inside. length-pasted old at (clipped old at text) (omega (arith, clipped-length old at text)))
    (λ outside. rw (clipped-none old at text outside) (ap length (pasted-none old at)))
    (side at (length old))

-- the beginning of two texts joined
take-joined : (k : ℕ) (s t : List ℕ) → take k (s ++ t) ≡ take k s ++ take (k - length s) t
take-joined zero s t = let none : 0 - length s ≡ 0 = omega arith in rw none
take-joined (suc k) [] t = let all : suc k - 0 ≡ suc k = omega arith in rw all
take-joined (suc k) (x ∷ s) t =
    let less : suc k - suc (length s) ≡ k - length s = omega arith in
    rw less (ap (λ (l : List ℕ). x ∷ l) (take-joined k s t))

-- what fits of the second behind what fits of the first is what fits of both
clipped-joined : (old : List ℕ) (at : ℕ) (s t mid : List ℕ) (next : ℕ) → length mid ≡ length old → next ≡ at + length (clipped old at s)
    → clipped old at s ++ clipped mid next t ≡ clipped old at (s ++ t)
unfolding clipped
clipped-joined old at s t mid next e f =
    let left : length mid - next ≡ length old - at - length s = omega (arith, length-take (length old - at) s) in
    rw left (sym (take-joined (length old - at) s t))

-- ---- writes

-- behind the end nothing is written
pub written_outside : (old : List ℕ) (at : ℕ) (s : List ℕ) → length old ≤ at → Written old at s old at
written_outside old at s h = rw (clipped-none old at s h) (wrote_none old at)

outside-same : (old : List ℕ) (at : ℕ) (s : List ℕ) {new : List ℕ} {next : ℕ} → length old ≤ at → Written old at s new next → (next ≡ at) × (new ≡ old)
outside-same old at s h w =
    let none : clipped old at s ≡ [] = clipped-none old at s h in
    (w.place ∙ rw none (add-zero at), w.bytes ∙ rw none (pasted-none old at))

pub written_none : (old : List ℕ) (at : ℕ) → Written old at [] old at
unfolding clipped
written_none old at = rw take-nil (wrote_none old at)

-- with room, all of a text
pub wrote-all : (old : List ℕ) (at : ℕ) (s : List ℕ) {new : List ℕ} {next : ℕ} → at + length s ≤ length old → Written old at s new next → Wrote old at s new next
wrote-all old at s h w = rw (clipped-all old at s h) at w

-- a byte in the slice
pub written_byte : (old : List ℕ) (at byte : ℕ) → at < length old → Written old at (byte ∷ []) (set old at byte) (at + 1)
unfolding pasted
written_byte old at byte h =
    rw (clipped-all old at (byte ∷ []) (omega arith)) (record { place = refl; bytes = simp (set_split, add-one, append_snoc) })

written_same : (old : List ℕ) (at : ℕ) (s : List ℕ) {new : List ℕ} {next : ℕ} → Written old at s new next → length new ≡ length old
written_same old at s w = rw w.bytes (length-clipped old at s)

-- two writes, one after the other, are the write of the texts joined
pub written_more : (old : List ℕ) (at : ℕ) (s t : List ℕ) {mid new : List ℕ} {next end : ℕ} → Written old at s mid next → Written mid next t new end → Written old at (s ++ t) new end
written_more old at s t {mid} {new} {next} {end} one two =
    ⊎_elim
    (λ inside.
    let within : at ≤ length old = omega arith in
    rw (← (clipped-joined old at s t mid next (written_same old at s one) one.place))
    (wrote-more old at (clipped old at s) (clipped mid next t) within one two))
    (λ outside.
    let first : (next ≡ at) × (mid ≡ old) = outside-same old at s outside one in
    let second : (end ≡ next) × (new ≡ mid) = outside-same mid next t (rw (first.0, first.1) outside) two in
    rw (second.0, second.1, first.0, first.1) (written_outside old at (s ++ t) outside))
    (side at (length old))
