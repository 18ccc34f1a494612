-- The turns of the loop that visits each lamp.
use Rattle.matter.specs.Causes.{Verdict, accepted}
use Rattle.std.specs.Prelude.{Ok, Err}
use Prim.Native.Nat.{ℕ, zero, suc, ◌+◌, ◌<◌, min}
use mathlib.Core.Path.{◌≡◌, refl, sym, ◌∙◌, ap}
use mathlib.Core.List.{List, [], ◌∷◌, ◌++◌, append_assoc}
use native.Mathlib.Numerals.{add-one}
use native.Mathlib.Omega.{arith}
use lib.ListN.{length, get_or, set, take, drop}
use lib.Seq.{drop-drop, drop-cons, get_or-take}
use Rattle.lamp.specs.declared.Lamp.{Lamp}
use Rattle.lamp.specs.declared.Answer.{Answer}
use Rattle.lamp.specs.Answers.{at_clock, first_cause}
use Rattle.lamp.specs.Calls.{choose, done, stepped, step_cause, step_answer}
use Rattle.tasks.specs.Runs.{runs}
use mathlib.Core.Bool.{true}
use Rattle.rows.specs.declared.Row.{Row}
use Rattle.rows.specs.declared.RowStepped.{RowStepped}
use Rattle.rows.specs.Rows.{visited, lesser, least_wait, bytes_of, map_to}
use Rattle.rows.specs.Inner.{visits_cause, graver}
use Rattle.rows.proofs.Causes.{graver-assoc}

pub lesser-none : (a : ℕ) → lesser a 0 ≡ a
unfolding lesser
lesser-none zero = refl
lesser-none (suc a) = refl

pub lesser-min : (a b : ℕ) → 0 < a → 0 < b → lesser a b ≡ min a b
unfolding lesser
lesser-min zero b h k = omega arith
lesser-min (suc a) zero h k = omega arith
lesser-min (suc a) (suc b) h k = refl

pub lesser-assoc : (a b c : ℕ) → lesser (lesser a b) c ≡ lesser a (lesser b c)
unfolding lesser
lesser-assoc zero b c = refl
lesser-assoc (suc a) zero c = refl
lesser-assoc (suc a) (suc b) zero = lesser-none (min (suc a) (suc b))
lesser-assoc (suc a) (suc b) (suc c) =
    lesser-min (min (suc a) (suc b)) (suc c) (omega arith) (omega arith) ∙ omega arith
    ∙ sym (lesser-min (suc a) (min (suc b) (suc c)) (omega arith) (omega arith))

pub step-map_to : {A : Type 0} (n : ℕ) (f : A → A) (xs : List A) (d : A) → set (map_to n f xs) n (f (get_or xs n d)) ≡ map_to (suc n) f xs
step-map_to zero f [] d = refl
step-map_to zero f (x ∷ xs) d = refl
step-map_to (suc n) f [] d = refl
step-map_to {A} (suc n) f (x ∷ xs) d = ap (λ (ys : List A). f x ∷ ys) (step-map_to n f xs d)

pub length-map_to : {A : Type 0} (n : ℕ) (f : A → A) (xs : List A) → length (map_to n f xs) ≡ length xs
length-map_to zero f xs = refl
length-map_to (suc n) f [] = refl
length-map_to (suc n) f (x ∷ xs) = ap suc (length-map_to n f xs)

-- the lamps so far visited, and the next one of the row
pub lamps-more : (xs : List Lamp) (n i clock : ℕ) (d : Lamp) → i < n → (next : List Lamp) → next ≡ map_to i (λ l. (visited l clock).lamp) xs
    → set next i (visited (get_or (take n xs) i d) clock).lamp ≡ map_to (i + 1) (λ l. (visited l clock).lamp) xs
lamps-more xs n i clock d h next e = rw (e, add-one i, get_or-take n xs i d h) (step-map_to i (λ l. (visited l clock).lamp) xs d)

module _ (xs : List Lamp) (i clock : ℕ) (h : i < length xs) (d : Lamp) where
  next : drop i xs ≡ get_or xs i d ∷ drop (i + 1) xs
  next = rw (add-one i) (drop-cons xs i d h)

  pub wait-more : (w : ℕ) {whole : ℕ} → lesser w (least_wait clock (drop i xs)) ≡ whole
      → lesser (lesser w (visited (get_or xs i d) clock).wait) (least_wait clock (drop (i + 1) xs)) ≡ whole
  wait-more w e = lesser-assoc w (visited (get_or xs i d) clock).wait (least_wait clock (drop (i + 1) xs)) ∙ (rw next at e)

  pub cause-more : (verdict : Verdict) {whole : Verdict} → graver verdict (visits_cause clock (drop i xs)) ≡ whole
      → graver (graver verdict (first_cause (get_or xs i d) clock)) (visits_cause clock (drop (i + 1) xs)) ≡ whole
  cause-more verdict e = graver-assoc verdict (first_cause (get_or xs i d) clock) (visits_cause clock (drop (i + 1) xs)) ∙ (rw next at e)

  pub bytes-more : (done : List ℕ) {whole : List ℕ} → done ++ bytes_of clock (drop i xs) ≡ whole
      → (done ++ (visited (get_or xs i d) clock).notices.places) ++ bytes_of clock (drop (i + 1) xs) ≡ whole
  bytes-more done e = append_assoc done (visited (get_or xs i d) clock).notices.places (bytes_of clock (drop (i + 1) xs)) ∙ (rw next at e)

-- the bytes behind those written are as they were
pub behind_more : (at k : ℕ) (out out₀ last : List ℕ) → drop at out ≡ drop at out₀ → drop (at + k) last ≡ drop (at + k) out → drop (at + k) last ≡ drop (at + k) out₀
behind_more at k out out₀ last e f = f ∙ sym (drop-drop k at out) ∙ ap (λ x. drop k x) e ∙ drop-drop k at out₀

-- a lamp that runs refuses a step for no other cause than every call checks first
chosen : (v : Verdict) (l : Lamp) (a : Answer) → a.verdict ≡ accepted → (choose v l a).verdict ≡ v
chosen (Ok u) l a e = e
chosen (Err refusal) l a e = refl

pub step-number : (l : Lamp) (clock : ℕ) → runs l.running ≡ true → (step_answer l clock).verdict ≡ first_cause l clock
unfolding step_answer first_cause
step-number l clock e = chosen (step_cause l clock) l (done (stepped (at_clock l clock) l.running)) refl ∙ rw e

-- a row call by its parts
pub by_parts : (r : RowStepped) {verdict : Verdict} {row : Row} {wait : ℕ} → r.verdict ≡ verdict → r.row ≡ row → r.wait ≡ wait
    → r ≡ record { verdict = verdict; row = row; wait = wait }
by_parts r a b c = λ i. record { verdict = a i; row = b i; wait = c i }
