-- The remaining time: document 01, leaf 2.
use Rattle.std.specs.Prelude.{ℕ, ◌+◌, ◌-◌, ◌%◌, Bool, not, ◌&&◌, ◌||◌, eqb, ltb}
use Rattle.progress.specs.Progress.{tenths_of}
use Rattle.remaining_time.specs.declared.RemainingTime.{RemainingTime}
use Rattle.remaining_time.specs.declared.Written.{Written}

-- by how much two numbers differ
abbrev pub apart : ℕ → ℕ → ℕ
apart a b = (a - b) + (b - a)

-- "It is told when the new number is 0 and the old was not, when the old was 0 and the new exceeds 10, or, at a
-- transition's start only, when they differ by more than 10"
unfoldable pub reported : ℕ → ℕ → Bool → Bool
reported old new start =
    (eqb new 0 && not (eqb old 0)) || (eqb old 0 && ltb 10 new) || (ltb 10 (apart new old) && start)

-- "Milliseconds become tenths, rounded up", in the attribute's sixteen bits
abbrev pub new_tenths : ℕ → ℕ
new_tenths ms = tenths_of ms % 65536

-- "It is stored in every case"
abbrev pub written_quietly : RemainingTime → ℕ → Bool → Written
written_quietly t ms start =
    record { reported = reported t.tenths (new_tenths ms) start; remaining = record { tenths = new_tenths ms } }
