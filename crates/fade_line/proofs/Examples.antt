-- When a line is settled, by computation.
use mathlib.Core.Path.{refl}
use Rattle.text.specs.Digits.{grown}
use Rattle.fade_line.specs.Reading.{next_word, next_digit, read_byte, read_all}
use Rattle.fade_line.specs.Examples.{Settled}

pub settled_at : Settled
unfolding grown next_word next_digit read_byte read_all
settled_at =
    record { letter = refl; other = refl; blank = refl; fifth = refl; large = refl; newline = refl; open-yet = refl }
