-- What is left of the word, behind the digits of the number so far, means what the word does.
use Rattle.std.proofs.Common.{◌≡◌, ◌≤◌, drop}
use Rattle.text.specs.Numbers.{number_of}
use Rattle.text.proofs.NumberLaws.{number_after}
use Rattle.text.proofs.numbers.number.Given as goal

abbrev pub invariant-loop-byte : goal.invariant-loop-byte
invariant-loop-byte l = record {
  within : l.value ≤ l.most;
  left : number_after l.most l.value (drop l.byte-index l.word) ≡ number_of l.most l.word;
}
