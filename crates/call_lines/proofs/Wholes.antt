-- A line as a whole.
use Rattle.std.specs.Prelude.{ℕ, List, Option}
use Rattle.text.specs.Readers.{line_of}
use Rattle.call_lines.specs.declared.lines.Line.{Line}
use Rattle.call_lines.specs.Lines.{line_at}

-- a line is what was read where its last word ends it
abbrev pub line_read : List ℕ → Option Line
line_read = line_of line_at
