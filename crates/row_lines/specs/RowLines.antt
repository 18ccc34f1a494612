-- The lines of a row: document 02, A.1 and A.3; docs/PROTOCOL.md.
use Rattle.std.specs.Prelude.{ℕ, Bool, false, cond, List, [], ◌∷◌, unwrap_or, option_map}
use Rattle.std.specs.Str.{bytes_eq}
use Prim.Native.String.{String}
use Rattle.text.specs.Ascii.{ascii}
use Rattle.text.specs.Readers.{Reader, Row, give, ◌then◌, number8, number16, number32, number64, word, by_next, ◌means◌}
use Rattle.text.specs.Readers.{named}
use Rattle.call_lines.specs.Lines.{line_at}
use Rattle.row_lines.specs.declared.lines.OnRow.{OnRow}
use Rattle.row_lines.specs.declared.lines.RowLine.{RowLine}

-- <count>
unfoldable pub make_at : Reader RowLine
make_at = give RowLine.Make then number8

unfoldable pub count_at : Reader RowLine
count_at = give (λ count. RowLine.OnRow (OnRow.Count count)) then number8

-- <word>
unfoldable pub mask_at : Reader RowLine
mask_at = give (λ mask. RowLine.OnRow (OnRow.Mask mask)) then number32

unfoldable pub running_at : Reader RowLine
running_at = give RowLine.Running then number32

-- <length> <fill> <clock>
unfoldable pub step_row_at : Reader RowLine
step_row_at =
    give (λ size fill clock. RowLine.OnRow (OnRow.Step (record { size = size; fill = fill; clock = clock })))
    then number16 then number8 then number64

-- <place> <line>
unfoldable pub place_at : Reader RowLine
place_at =
    give (λ place line. RowLine.OnRow (OnRow.At (record { place = place; line = line }))) then number8
    then by_next line_at

-- any other line is the lamp's
unfoldable pub lamp_line_at : List ℕ → Reader RowLine
lamp_line_at name = give RowLine.Lamp then line_at name

-- whether a word is the next
abbrev pub is_next : String → List ℕ → Bool
is_next name line = unwrap_or (option_map (λ w. bytes_eq w (ascii name)) (word line).value) false

-- `leaf running <word>`; any other leaf is the lamp's
unfoldable pub leaf_line_at : Reader RowLine
leaf_line_at line =
    cond (is_next "running" line) (by_next (λ name. running_at) line) (lamp_line_at (ascii "leaf") line)

abbrev pub row_lines : List (Row RowLine)
row_lines =
    "row" means make_at
    ∷ "rowcount" means count_at
    ∷ "rowword" means mask_at
    ∷ "rowshow" means give (RowLine.OnRow OnRow.Show)
    ∷ "rowstep" means step_row_at
    ∷ "turning" means give (RowLine.OnRow OnRow.Turning)
    ∷ "at" means place_at
    ∷ "leaf" means leaf_line_at
    ∷ []

-- by the first word
unfoldable pub row_line_at : List ℕ → Reader RowLine
row_line_at name = named row_lines (lamp_line_at name) name
