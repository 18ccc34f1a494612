-- A notice or none is at most one.
use Rattle.std.proofs.Common.{ℕ, ◌≤◌, Bool, true, false, length, arith}
use Rattle.notices.specs.Notices.{only}

pub only_one : (test : Bool) (number : ℕ) → length (only test number) ≤ 1
only_one true number = omega arith
only_one false number = omega arith
