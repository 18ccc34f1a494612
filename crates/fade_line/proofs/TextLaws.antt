-- Laws of `fade`'s texts: room for a line, how long the texts are, and document 01's example.
use Prim.Native.Nat.{ℕ, ◌+◌, ◌*◌, ◌≤◌}
use native.Mathlib.Omega.{arith}
use mathlib.Core.Path.{◌≡◌, refl}
use mathlib.Core.Bool.{Bool, true, false, cond}
use mathlib.Core.List.{List, [], ◌∷◌}
use borrow.Author.Tests.{leb-true, le-leb}
use lib.ListN.{length, length-append}
use lib.Seq.{take-append_seam}
use Rattle.notices.specs.Notices.{filled, noted}
use Rattle.text.specs.Digits.{decimal_in, decimal, spaced, spaced_all}
use Rattle.text.specs.Written.{Wrote, Written}
use Rattle.text.specs.declared.buffer.Buffer.{Buffer}
use Rattle.text.specs.Buffers.{with_byte}
use Rattle.text.proofs.BufferLaws.{written}
use Rattle.text.proofs.DigitLaws.{decimal-short}
use Rattle.std.specs.List.{fold}
use Rattle.text.proofs.WriteLaws.{wrote_none, wrote-all}
use Rattle.fade_line.specs.declared.writer.Line.{Line}
use Rattle.fade_line.specs.Text.{numbers, state_text, line_text, refused_text, room_for, fitting}

-- ---- room

pub room : (at len : ℕ) → room_for at len ≡ true → at + 512 ≤ len
unfolding room_for
room at len e = leb-true (at + 512) len e

pub fitting-all : (old : List ℕ) (at : ℕ) (text : List ℕ) → at + 512 ≤ length old → fitting old at text ≡ text
unfolding fitting room_for
fitting-all old at text h = simp (le-leb (at + 512) (length old) h)

within_by : (old : List ℕ) (at : ℕ) (text : List ℕ) (b : Bool) → room_for at (length old) ≡ b → length text ≤ 512 → at ≤ length old → at + length (cond b text []) ≤ length old
within_by old at text true e short inside = omega (arith, room at (length old) e)
within_by old at text false e short inside = omega arith

-- what is written ends within the slice
pub fitting-within : (old : List ℕ) (at : ℕ) (text : List ℕ) → length text ≤ 512 → at ≤ length old → at + length (fitting old at text) ≤ length old
unfolding fitting
fitting-within old at text short inside = within_by old at text (room_for at (length old)) refl short inside

-- with room, the whole text is written
pub wrote-fitting : (old : List ℕ) (at : ℕ) (text : List ℕ) {new : List ℕ} {next : ℕ} → room_for at (length old) ≡ true → length text ≤ 512
    → Written old at text new next → Wrote old at (fitting old at text) new next
unfolding fitting
wrote-fitting old at text e short w = simp e (wrote-all old at text (omega (arith, room at (length old) e)) w)

-- without room, nothing is
pub wrote_nothing : (old : List ℕ) (at : ℕ) (text : List ℕ) → room_for at (length old) ≡ false → Wrote old at (fitting old at text) old at
unfolding fitting
wrote_nothing old at text e = simp e (wrote_none old at)

-- what is put into a slice with room is all written
pub put_fitting : (b : Buffer) (text : List ℕ) {new : Buffer} → new ≡ fold with_byte b text → room_for b.at (length b.out.now) ≡ true → length text ≤ 512
    → Wrote b.out.now b.at (fitting b.out.now b.at text) new.out.now new.at
put_fitting b text put e short = rw put (wrote-fitting b.out.now b.at text e short (written b text))

-- ---- numbers after blanks

pub spaced-short : (n : ℕ) → length (spaced n) ≤ 21
unfolding spaced
spaced-short n = omega (arith, decimal-short n)

pub spaced_all-short : (ns : List ℕ) → length (spaced_all ns) ≤ 21 * length ns
unfolding spaced_all
spaced_all-short [] = omega arith
spaced_all-short (n ∷ ns) = simp length-append (omega (arith, spaced-short n, spaced_all-short ns))

-- ---- lines

-- the notices that a list was made of are its numbers
pub numbers-noted : (ns : List ℕ) → numbers (noted ns) ≡ ns
unfolding filled
numbers-noted ns = take-append_seam ns _

pub state-short : (line : Line) → length (state_text line) ≤ 84
unfolding state_text
state-short line =
    simp length-append
    (omega (arith, decimal-short line.clock, spaced-short line.hue, spaced-short line.tenths, spaced-short line.wait))

-- a line of at most sixteen notices takes at most 512 places
pub line-short : (line : Line) → length (numbers line.notices) ≤ 16 → length (line_text line) ≤ 512
unfolding line_text
line-short line h = simp length-append (omega (arith, state-short line, spaced_all-short (numbers line.notices)))

pub refused-short : (number : ℕ) → length (refused_text number) ≤ 512
unfolding refused_text
refused-short number = simp length-append (omega (arith, spaced-short number))

-- ---- document 01's example

-- `5100 16384 1 100: 13 2 6 7 14 15`
example-line : line_text (record { clock = 5100; hue = 16384; tenths = 1; wait = 100; notices = noted (13 ∷ 2 ∷ 6 ∷ 7 ∷ 14 ∷ 15 ∷ []) })
    ≡ 53 ∷ 49 ∷ 48 ∷ 48 ∷ 32 ∷ 49 ∷ 54 ∷ 51 ∷ 56 ∷ 52 ∷ 32 ∷ 49 ∷ 32 ∷ 49 ∷ 48 ∷ 48 ∷ 58 ∷ 32 ∷ 49 ∷ 51 ∷ 32 ∷ 50 ∷ 32 ∷ 54 ∷ 32 ∷ 55 ∷ 32 ∷ 49 ∷ 52 ∷ 32 ∷ 49 ∷ 53 ∷ 10 ∷ []
unfolding line_text state_text spaced_all spaced decimal decimal_in filled
example-line = refl
