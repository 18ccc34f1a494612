-- A line as a whole.
use Rattle.std.specs.Prelude.{ℕ, List, Option}
use Rattle.text.specs.Readers.{line_of}
use Rattle.row_lines.specs.declared.lines.RowLine.{RowLine}
use Rattle.row_lines.specs.RowLines.{row_line_at}

-- a line is what was read where its last word ends it
abbrev pub row_line_read : List ℕ → Option RowLine
row_line_read = line_of row_line_at
