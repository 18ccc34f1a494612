-- A word read as a number, byte by byte.
use Prim.Native.Nat.{ℕ, ◌+◌, ◌≤◌, ◌<◌}
use mathlib.Core.Path.{◌≡◌}
use mathlib.Core.Bool.{cond, ◌&&◌}
use mathlib.Core.List.{List}
use lib.Dec.{leb}
use lib.ListN.{length, get_or, drop}
use Rattle.std.proofs.Common.{Option, Some, None}
use Rattle.std.proofs.lemmas.List.{drop_more}
use Rattle.text.specs.Digits.{digits_alone, value_from, grown}
use Rattle.text.proofs.DigitLaws.{grown-refused, grown-to}

-- the number that a word means behind digits of the number v, within a bound
abbrev pub number_after : ℕ → ℕ → List ℕ → Option ℕ
number_after most v w = cond (digits_alone w && leb (value_from v w) most) (Some (value_from v w)) None

module _ (most v i : ℕ) (w : List ℕ) (h : i < length w) where
  pub after_refused : grown v (get_or w i 0) most ≡ None → number_after most v (drop i w) ≡ None
  after_refused e = rw (drop_more w i 0 h, grown-refused v (get_or w i 0) most (drop (i + 1) w) e)

  pub after_next : (n : ℕ) → grown v (get_or w i 0) most ≡ Some n → number_after most v (drop i w) ≡ number_after most n (drop (i + 1) w)
  after_next n e = let more = grown-to v (get_or w i 0) most n e in rw (drop_more w i 0 h, more.1) (simp more.0)

  pub next_within : (n : ℕ) → grown v (get_or w i 0) most ≡ Some n → n ≤ most
  next_within n e = (grown-to v (get_or w i 0) most n e).2
