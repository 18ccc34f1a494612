-- What is filled, with what is left to fill, is the whole.
use Rattle.std.proofs.Common.{◌≡◌, ◌++◌, length, take}
use Rattle.row_lines.specs.RowAnswers.{lent_bytes}
use Rattle.row_lines.proofs.Lent.{rest}
use Rattle.row_lines.proofs.answers.fill.Given as goal

abbrev pub invariant-loop-i : goal.invariant-loop-i
invariant-loop-i l = record {
  same_length : length l.bytes ≡ length l.initial.bytes;
  whole : take l.i l.bytes ++ rest l.from (length l.initial.bytes) l.i ≡ lent_bytes l.from (length l.initial.bytes);
}
