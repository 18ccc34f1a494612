-- The line of `fade` (document 01), read a byte at a time. That this is the line of `Line` is shown in proofs/LineLaws.
use Rattle.std.specs.Prelude.{ℕ, ◌+◌, Bool, true, false, cond, List, eqb, ltb}
use Rattle.std.specs.Prelude.{Option, Some, None, unwrap_or, option_map, option_and_then}
use Rattle.std.specs.List.{fold}
use Rattle.fade_line.specs.declared.reader.Numbers.{Numbers}
use Rattle.fade_line.specs.declared.reader.Reader.{Reader}
use Rattle.fade_line.specs.declared.reader.Wanted.{Wanted}
use Rattle.text.specs.Digits.{grown}
use Rattle.fade_line.specs.Line.{largest, wanted}

-- nothing has been read
abbrev pub fresh : Reader
fresh = Reader.Open (record { blanks = 0; first = 0; second = 0; third = 0; last = None })

-- a byte that has no place spoils the line: no line that begins so has the form
abbrev pub unless_spoilt : Option Numbers → Reader
unless_spoilt None = Reader.Bad
unless_spoilt (Some ns) = Reader.Open ns

-- a blank: the word before it has a digit, and there are four words at most
unfoldable pub next_word : Numbers → Option Numbers
next_word ns =
    option_and_then
    (λ last.
    cond (ltb ns.blanks 3)
    (Some (record { blanks = ns.blanks + 1; first = ns.second; second = ns.third; third = last; last = None })) None)
    ns.last

-- the last word's number with one digit more, within 64 bits. No other byte has a place in a word
unfoldable pub next_digit : Numbers → ℕ → Option Numbers
next_digit ns b =
    option_map
    (λ n. record { blanks = ns.blanks; first = ns.first; second = ns.second; third = ns.third; last = Some n })
    (grown (unwrap_or ns.last 0) b largest)

-- the newline has come, or something spoils the line: no further byte counts
abbrev pub settled : Reader → Bool
settled (Reader.Open ns) = false
settled (Reader.Over ns) = true
settled Reader.Bad = true

abbrev pub open_byte : Numbers → ℕ → Reader
open_byte ns b =
    cond (eqb b 10) (Reader.Over ns)
    (cond (eqb b 32) (unless_spoilt (next_word ns))
    (unless_spoilt (next_digit ns b)))

unfoldable pub read_byte : Reader → ℕ → Reader
read_byte (Reader.Open ns) b = open_byte ns b
read_byte (Reader.Over ns) b = Reader.Over ns
read_byte Reader.Bad b = Reader.Bad

unfoldable pub read_all : Reader → List ℕ → Reader
read_all = fold read_byte

-- the fade of four whole words
unfoldable pub asked_of : Numbers → Option Wanted
asked_of ns = cond (eqb ns.blanks 3) (option_and_then (wanted ns.first ns.second ns.third) ns.last) None

-- what was asked for, once all is read
abbrev pub line_read : Reader → Option Wanted
line_read (Reader.Open ns) = asked_of ns
line_read (Reader.Over ns) = asked_of ns
line_read Reader.Bad = None
