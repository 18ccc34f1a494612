-- Read a byte at a time, in parts of any sizes, an input asks for what its line says.
use Prim.Native.Nat.{ℕ, zero, suc, ◌+◌, ◌-◌, ◌*◌, ◌≤◌, ◌<◌}
use mathlib.Core.Bool.{Bool, true, false, cond, ◌&&◌, false≢true, and-true, and-false}
use mathlib.Core.List.{List, [], ◌∷◌, ◌++◌, append_assoc, append-nil}
use mathlib.Core.Path.{◌≡◌, refl, sym, ap, subst⁻¹, ◌∙◌}
use native.Mathlib.Omega.{arith}
use lib.Dec.{eqb, leb}
use lib.ListN.{length}
use borrow.Author.Tests.{leb-false, lt-leb, ne_eqb}
use Rattle.std.proofs.Common.{Option, Some, None, unwrap_or, option_map, option_and_then}
use Rattle.text.specs.Digits.{is_digit, not_empty, digits_alone, value, is_number, grown}
use Rattle.text.specs.Words.{up_to}
use Rattle.text.proofs.DigitLaws.{value-next, value-join, value_grows}
use Rattle.fade_line.specs.declared.reader.Numbers.{Numbers}
use Rattle.fade_line.specs.declared.reader.Reader.{Reader}
use Rattle.fade_line.specs.Line.{line, longer, words, largest, all_numbers, wanted, asked_by_words, asked_by}
use Rattle.fade_line.specs.Reading.{fresh, unless_spoilt, next_word, next_digit, settled, read_byte, read_all, asked_of, line_read}

-- ---- a settled line: nothing that follows changes what has been read, nor what it asks for

pub settled-final : (r : Reader) (s : List ℕ) → settled r ≡ true → read_all r s ≡ r
unfolding read_all read_byte
settled-final r [] e = refl
settled-final (Reader.Open ns) (b ∷ s) e = absurd (false≢true e)
settled-final (Reader.Over ns) (b ∷ s) e = settled-final (Reader.Over ns) s e
settled-final Reader.Bad (b ∷ s) e = settled-final Reader.Bad s e

-- ---- parts: to read two parts is to read them joined

pub parts : (r : Reader) (s t : List ℕ) → read_all (read_all r s) t ≡ read_all r (s ++ t)
unfolding read_all
parts r [] t = refl
parts r (b ∷ s) t = parts (read_byte r b) s t

-- ---- what spoils the line, and what ends it

spoilt-stays : (bs : List ℕ) → line_read (read_all Reader.Bad bs) ≡ None
spoilt-stays bs = ap line_read (settled-final Reader.Bad bs refl)

ended-stays : (ns : Numbers) (bs : List ℕ) → read_all (Reader.Over ns) bs ≡ Reader.Over ns
ended-stays ns bs = settled-final (Reader.Over ns) bs refl

-- ---- numbers

-- a number past 64 bits stays past them
too_large : (w : List ℕ) (b : ℕ) (u : List ℕ) → leb (value w * 10 + (b - 48)) largest ≡ false → is_number largest (w ++ (b ∷ u)) ≡ false
unfolding is_number
too_large w b u e =
    let grown : largest < value (w ++ (b ∷ u)) =
    subst⁻¹ (λ (n : ℕ). largest < n) (value-join 0 w (b ∷ u)) (omega (arith, leb-false (value w * 10 + (b - 48)) largest e, value_grows (value w * 10 + (b - 48)) u)) in
    ap (λ (t : Bool). not_empty (w ++ (b ∷ u)) && digits_alone (w ++ (b ∷ u)) && t) (lt-leb (value (w ++ (b ∷ u))) largest grown)
    ∙ and-false (not_empty (w ++ (b ∷ u)) && digits_alone (w ++ (b ∷ u)))

not-digits : (w : List ℕ) (b : ℕ) (u : List ℕ) → is_digit b ≡ false → digits_alone (w ++ (b ∷ u)) ≡ false
not-digits [] b u e = simp e
not-digits (x ∷ w) b u e = ap (λ (t : Bool). is_digit x && t) (not-digits w b u e) ∙ and-false (is_digit x)

no_digit : (w : List ℕ) (b : ℕ) (u : List ℕ) → is_digit b ≡ false → is_number largest (w ++ (b ∷ u)) ≡ false
unfolding is_number
no_digit w b u e =
    ap (λ (t : Bool). not_empty (w ++ (b ∷ u)) && t && leb (value (w ++ (b ∷ u))) largest) (not-digits w b u e)
    ∙ ap (λ (t : Bool). t && leb (value (w ++ (b ∷ u))) largest) (and-false (not_empty (w ++ (b ∷ u))))

digits-next : (w : List ℕ) (b : ℕ) → digits_alone w ≡ true → is_digit b ≡ true → digits_alone (w ++ (b ∷ [])) ≡ true
digits-next [] b e f = simp f
digits-next (x ∷ w) b e f = go (is_digit x) (λ g. digits-next w b g f) e
  where
    go : (t : Bool) → (digits_alone w ≡ true → digits_alone (w ++ (b ∷ [])) ≡ true) → (t && digits_alone w) ≡ true → (t && digits_alone (w ++ (b ∷ []))) ≡ true
    go true h e = h e
    go false h e = e

-- ---- words: the last word read so far, put before what comes

abbrev glue : List ℕ → List (List ℕ) → List (List ℕ)
glue w [] = w ∷ []
glue w (u ∷ us) = (w ++ u) ∷ us

glue-none : (bs : List ℕ) → glue [] (words bs) ≡ words bs
unfolding words
glue-none [] = refl
glue-none (b ∷ bs) = go (eqb b 32) (words bs)
  where
    go : (t : Bool) (ws : List (List ℕ)) → glue [] (cond t ([] ∷ ws) (longer b ws)) ≡ cond t ([] ∷ ws) (longer b ws)
    go true ws = refl
    go false [] = refl
    go false (u ∷ us) = refl

glue-longer : (w : List ℕ) (b : ℕ) (ws : List (List ℕ)) → glue w (longer b ws) ≡ glue (w ++ (b ∷ [])) ws
glue-longer w b [] = refl
glue-longer w b (u ∷ us) = ap {B = List (List ℕ)} (λ (x : List ℕ). x ∷ us) (sym (append_assoc w (b ∷ []) u))

none_of : (p : List (List ℕ)) (x : List ℕ) (q : List (List ℕ)) → is_number largest x ≡ false → asked_by_words (p ++ (x ∷ q)) ≡ None
unfolding asked_by_words
none_of p x q e = simp (no-numbers p, and-false (eqb (length (p ++ (x ∷ q))) 4))
  where
    no-numbers : (p : List (List ℕ)) → all_numbers (p ++ (x ∷ q)) ≡ false
    no-numbers [] = simp e
    no-numbers (y ∷ p) = ap (λ (t : Bool). is_number largest y && t) (no-numbers p) ∙ and-false (is_number largest y)

spoilt-word : (p : List (List ℕ)) (w : List ℕ) (b : ℕ) (ws : List (List ℕ)) → ((u : List ℕ) → is_number largest (w ++ (b ∷ u)) ≡ false) → asked_by_words (p ++ glue w (longer b ws)) ≡ None
spoilt-word p w b [] h = none_of p (w ++ (b ∷ [])) [] (h [])
spoilt-word p w b (u ∷ us) h = none_of p (w ++ (b ∷ u)) us (h u)

-- ---- the reader after k whole words and a part w of the next. The whole words are the last k of a, b and c

abbrev before : ℕ → List ℕ → List ℕ → List ℕ → List (List ℕ)
before zero a b c = []
before (suc zero) a b c = c ∷ []
before (suc (suc zero)) a b c = b ∷ c ∷ []
before (suc (suc (suc k))) a b c = a ∷ b ∷ c ∷ []

abbrev last_of : List ℕ → Option ℕ
last_of w = cond (not_empty w) (Some (value w)) None

abbrev numbers : ℕ → List ℕ → List ℕ → List ℕ → List ℕ → Numbers
numbers k a b c w = record { blanks = k; first = value a; second = value b; third = value c; last = last_of w }

abbrev held : ℕ → List ℕ → List ℕ → List ℕ → List ℕ → Reader
held k a b c w = Reader.Open (numbers k a b c w)

-- the last word's number, where it has a digit
last-then : {A : Type 0} (f : ℕ → Option A) (w : List ℕ) → option_and_then f (last_of w) ≡ cond (not_empty w) (f (value w)) None
last-then f [] = refl
last-then f (y ∷ w) = refl

last-value : (w : List ℕ) → unwrap_or (last_of w) 0 ≡ value w
last-value [] = refl
last-value (y ∷ w) = refl

-- a word of digits within 64 bits is a number unless it is empty
whole : (w : List ℕ) → digits_alone w ≡ true → leb (value w) largest ≡ true → is_number largest w ≡ not_empty w
unfolding is_number
whole w d n = simp (d, n, and-true (not_empty w))

numbers-then : (p : List (List ℕ)) (w : List ℕ) → all_numbers p ≡ true → all_numbers (p ++ (w ∷ [])) ≡ is_number largest w
numbers-then [] w e = and-true (is_number largest w)
numbers-then (x ∷ p) w e = go (is_number largest x) (numbers-then p w) e
  where
    go : (t : Bool) → (all_numbers p ≡ true → all_numbers (p ++ (w ∷ [])) ≡ is_number largest w) → (t && all_numbers p) ≡ true → (t && all_numbers (p ++ (w ∷ []))) ≡ is_number largest w
    go true h e = h e
    go false h e = absurd (false≢true e)

-- at the end of the line
line-ends : (k : ℕ) (a b c w : List ℕ) → k ≤ 3 → all_numbers (before k a b c) ≡ true → digits_alone w ≡ true → leb (value w) largest ≡ true → line_read (held k a b c w) ≡ asked_by_words (before k a b c ++ (w ∷ []))
unfolding asked_of asked_by_words
line-ends zero a b c w h e d n = refl
line-ends (suc zero) a b c w h e d n = refl
line-ends (suc (suc zero)) a b c w h e d n = refl
line-ends (suc (suc (suc zero))) a b c w h e d n =
    last-then (wanted (value a) (value b) (value c)) w
    ∙ ap (λ (t : Bool). cond t (wanted (value a) (value b) (value c) (value w)) None) (sym (numbers-then (a ∷ b ∷ c ∷ []) w e ∙ whole w d n))
line-ends (suc (suc (suc (suc k)))) a b c w h e d n = absurd (omega (arith, h))

-- ---- and with each byte that comes

abbrev Goes : List ℕ → Type 0
Goes bs =
    (k : ℕ) (a b c w : List ℕ) → k ≤ 3 → all_numbers (before k a b c) ≡ true → digits_alone w ≡ true → leb (value w) largest ≡ true →
    line_read (read_all (held k a b c w) bs) ≡ asked_by_words (before k a b c ++ glue w (words (line bs)))

at-end : Goes []
unfolding read_all up_to words
at-end k a b c w h e d n = line-ends k a b c w h e d n ∙ ap (λ (x : List ℕ). asked_by_words (before k a b c ++ (x ∷ []))) (sym (append-nil w))

at-newline : (x : ℕ) (bs : List ℕ) → eqb x 10 ≡ true → Goes (x ∷ bs)
unfolding read_all read_byte asked_of up_to
at-newline x bs t k a b c w h e d n = simp (t, ended-stays (numbers k a b c w) bs) (at-end k a b c w h e d n)

at_other : (x : ℕ) (bs : List ℕ) → eqb x 10 ≡ false → eqb x 32 ≡ false → is_digit x ≡ false → Goes (x ∷ bs)
unfolding read_all read_byte next_digit grown up_to words
at_other x bs t u v k a b c w h e d n =
    simp (t, u, v, spoilt-stays bs) (sym (spoilt-word (before k a b c) w x (words (line bs)) (λ z. no_digit w x z v)))

-- a blank after no digit
at-second-blank : (x : ℕ) (bs : List ℕ) → eqb x 10 ≡ false → eqb x 32 ≡ true → (k : ℕ) (a b c : List ℕ) →
    line_read (read_all (held k a b c []) (x ∷ bs)) ≡ asked_by_words (before k a b c ++ glue [] (words (line (x ∷ bs))))
unfolding read_all read_byte next_word up_to words is_number
at-second-blank x bs t u k a b c = simp (t, u, spoilt-stays bs) (sym (none_of (before k a b c) [] (words (line bs)) refl))

-- five words and more
too_many : (a b c w : List ℕ) (ws : List (List ℕ)) → glue [] ws ≡ ws → asked_by_words (a ∷ b ∷ c ∷ w ∷ ws) ≡ None
unfolding asked_by_words
too_many a b c w [] e = absurd (omega (arith, ap length e))
too_many a b c w (u ∷ us) e = simp (ne_eqb (suc (suc (suc (suc (suc (length us)))))) 4 (λ q. absurd (omega (arith, q))))

-- a blank after a word: one whole word more
next-whole : (x : ℕ) (bs : List ℕ) → eqb x 10 ≡ false → eqb x 32 ≡ true → Goes bs → (y : ℕ) (ys : List ℕ) (k : ℕ) (a b c : List ℕ) → k ≤ 3 →
    all_numbers (before k a b c) ≡ true → digits_alone (y ∷ ys) ≡ true → leb (value (y ∷ ys)) largest ≡ true →
    line_read (read_all (held k a b c (y ∷ ys)) (x ∷ bs)) ≡ asked_by_words (before k a b c ++ glue (y ∷ ys) (words (line (x ∷ bs))))
unfolding read_all read_byte next_word up_to words
next-whole x bs t u go y ys k a b c h e d n = simp (t, u, append-nil (y ∷ ys)) (by_count k h e)
  where
    w : List ℕ
    w = y ∷ ys

    one_more : (k : ℕ) → all_numbers (before k a b c) ≡ true → all_numbers (before k a b c ++ (w ∷ [])) ≡ true
    one_more k e = numbers-then (before k a b c) w e ∙ whole w d n

    then-words : (p : List (List ℕ)) → asked_by_words (p ++ glue [] (words (line bs))) ≡ asked_by_words (p ++ words (line bs))
    then-words p = ap (λ (q : List (List ℕ)). asked_by_words (p ++ q)) (glue-none (line bs))

    by_count : (k : ℕ) → k ≤ 3 → all_numbers (before k a b c) ≡ true →
        line_read (read_all (unless_spoilt (next_word (numbers k a b c w))) bs) ≡ asked_by_words (before k a b c ++ (w ∷ words (line bs)))
    by_count zero h e = go 1 b c w [] (omega arith) (one_more zero e) refl refl ∙ then-words (w ∷ [])
    by_count (suc zero) h e = go 2 b c w [] (omega arith) (one_more 1 e) refl refl ∙ then-words (c ∷ w ∷ [])
    by_count (suc (suc zero)) h e = go 3 b c w [] (omega arith) (one_more 2 e) refl refl ∙ then-words (b ∷ c ∷ w ∷ [])
    by_count (suc (suc (suc zero))) h e = spoilt-stays bs ∙ sym (too_many a b c w (words (line bs)) (glue-none (line bs)))
    by_count (suc (suc (suc (suc k)))) h e = absurd (omega (arith, h))

at-blank : (x : ℕ) (bs : List ℕ) → eqb x 10 ≡ false → eqb x 32 ≡ true → Goes bs → Goes (x ∷ bs)
at-blank x bs t u go k a b c [] h e d n = at-second-blank x bs t u k a b c
at-blank x bs t u go k a b c (y ∷ ys) h e d n = next-whole x bs t u go y ys k a b c h e d n

some : (w : List ℕ) (x : ℕ) → not_empty (w ++ (x ∷ [])) ≡ true
some [] x = refl
some (y ∷ w) x = refl

at-digit : (x : ℕ) (bs : List ℕ) → eqb x 10 ≡ false → eqb x 32 ≡ false → is_digit x ≡ true → Goes bs → Goes (x ∷ bs)
unfolding read_all read_byte next_digit grown up_to words
at-digit x bs t u v go k a b c w h e d n = simp (t, u, v, last-value w) (by_size (leb (value w * 10 + (x - 48)) largest) refl)
  where
    more : ℕ → Numbers
    more m = record { blanks = k; first = value a; second = value b; third = value c; last = Some m }

    is_held : held k a b c (w ++ (x ∷ [])) ≡ Reader.Open (more (value w * 10 + (x - 48)))
    is_held = simp (some w x, value-next 0 w x)

    by_size : (z : Bool) → leb (value w * 10 + (x - 48)) largest ≡ z →
        line_read (read_all (unless_spoilt (option_map more (cond z (Some (value w * 10 + (x - 48))) None))) bs) ≡ asked_by_words (before k a b c ++ glue w (longer x (words (line bs))))
    by_size true z =
        ap (λ (r : Reader). line_read (read_all r bs)) (sym is_held)
        ∙ go k a b c (w ++ (x ∷ [])) h e (digits-next w x d v) (ap (λ (m : ℕ). leb m largest) (value-next 0 w x) ∙ z)
        ∙ ap (λ (q : List (List ℕ)). asked_by_words (before k a b c ++ q)) (sym (glue-longer w x (words (line bs))))
    by_size false z = spoilt-stays bs ∙ sym (spoilt-word (before k a b c) w x (words (line bs)) (λ r. too_large w x r z))

goes : (bs : List ℕ) → Goes bs
goes [] = at-end
goes (x ∷ bs) = by_byte (eqb x 10) (eqb x 32) (is_digit x) refl refl refl (goes bs)
  where
    by_byte : (t u v : Bool) → eqb x 10 ≡ t → eqb x 32 ≡ u → is_digit x ≡ v → Goes bs → Goes (x ∷ bs)
    by_byte true u v t _ _ go = at-newline x bs t
    by_byte false true v t u _ go = at-blank x bs t u go
    by_byte false false true t u v go = at-digit x bs t u v go
    by_byte false false false t u v go = at_other x bs t u v

-- ---- what the reader answers is what the line of the input asks for

pub reads : (input : List ℕ) → line_read (read_all fresh input) ≡ asked_by input
reads input =
    goes input 0 [] [] [] [] (omega arith) refl refl refl
    ∙ ap asked_by_words (glue-none (line input))

-- what a settled beginning asks for is what the whole input asks for, whatever follows
pub settled-asks : (begun rest : List ℕ) → settled (read_all fresh begun) ≡ true → line_read (read_all fresh begun) ≡ asked_by (begun ++ rest)
settled-asks begun rest e =
    sym (ap line_read (sym (parts fresh begun rest) ∙ settled-final (read_all fresh begun) rest e)) ∙ reads (begun ++ rest)
