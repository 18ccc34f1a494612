-- The bytes so far are read.
use Rattle.std.proofs.Common.{◌≡◌, take}
use Rattle.std.specs.List.{fold}
use Rattle.fade_line.specs.Reading.{read_byte}
use Rattle.fade_line.proofs.reader.Reader.read.Given as goal

abbrev pub invariant-loop-byte : goal.invariant-loop-byte
invariant-loop-byte l = l.reader ≡ fold read_byte l.initial.reader (take l.byte-index l.part)
