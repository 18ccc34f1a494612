-- Writing a text into a slice. `buffer::write` has the contract `Written`; a writer puts its text into any sink.
use Rattle.std.specs.Prelude.{ℕ, ◌+◌, ◌-◌, ◌≡◌, List, ◌++◌, length, take, drop}

-- a slice's bytes with a text in them from `at` on
unfoldable pub pasted : List ℕ → ℕ → List ℕ → List ℕ
pasted old at text = take at old ++ text ++ drop (at + length text) old

-- as much of a text as the slice has room for from `at` on
unfoldable pub clipped : List ℕ → ℕ → List ℕ → List ℕ
clipped old at text = take (length old - at) text

-- all of a text was written from `at` on, and `next` is the place after it
pub record Wrote (old : List ℕ) (at : ℕ) (text new : List ℕ) (next : ℕ) : Type 0 where
  pub place : next ≡ at + length text
  pub bytes : new ≡ pasted old at text

-- and where what does not fit is left out
abbrev pub Written : List ℕ → ℕ → List ℕ → List ℕ → ℕ → Type 0
Written old at text new next = Wrote old at (clipped old at text) new next
