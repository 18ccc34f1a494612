-- The sum of a text, byte by byte.
use Rattle.std.specs.Prelude.{ℕ, ◌+◌, ◌*◌, ◌%◌}
use Rattle.row_lines.specs.declared.sum.Sum.{Sum}

-- "each byte b of these texts makes h into (h × 31 + b) modulo 4,294,967,296"
abbrev pub with_byte : Sum → ℕ → Sum
with_byte h b = record { value = (h.value * 31 + b) % 4294967296 }
