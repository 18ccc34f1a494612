-- ExecuteIfOff: Matter Application Cluster Specification, Color Control, "Options attribute" and "Use of the
-- OptionsMask and OptionsOverride fields". Written from that text as known, what stands in quotes too: no copy was at
-- hand.
use Rattle.std.specs.Prelude.{ℕ, ◌+◌, ◌*◌, ◌/◌, ◌%◌, ◌^◌, Bool, true, false, not, cond, ◌&&◌, eqb}
use Rattle.matter.specs.declared.enums.OnOff.{OnOff}

-- a bit of a bitmap
abbrev pub bit : ℕ → ℕ → ℕ
bit k bitmap = bitmap / 2 ^ k % 2

-- the bitmap of eight bits
abbrev pub bitmap : (ℕ → ℕ) → ℕ
bitmap b = b 0 + 2 * b 1 + 4 * b 2 + 8 * b 3 + 16 * b 4 + 32 * b 5 + 64 * b 6 + 128 * b 7

-- "Each bit in the Options attribute SHALL determine the corresponding bit in the temporary Options bitmap, unless the
-- OptionsMask field is present and has the corresponding bit set to 1, in which case the corresponding bit in the
-- OptionsOverride field SHALL determine the corresponding bit in the temporary Options bitmap"
abbrev pub temporary_bit : ℕ → ℕ → ℕ → ℕ → ℕ
temporary_bit options mask over k = cond (eqb (bit k mask) 1) (bit k over) (bit k options)

unfoldable pub temporary_options : ℕ → ℕ → ℕ → ℕ
temporary_options options mask over = bitmap (temporary_bit options mask over)

-- OptionsBitmap: ExecuteIfOff is bit 0
abbrev pub execute_if_off_bit : ℕ → ℕ
execute_if_off_bit options = bit 0 options

-- "The On/Off cluster exists on the same endpoint as this cluster"
abbrev pub on_off_exists : OnOff → Bool
on_off_exists OnOff.Off = true
on_off_exists OnOff.On = true
on_off_exists OnOff.NoHandler = false

-- "The OnOff attribute of the On/Off cluster, on this endpoint, is FALSE"
abbrev pub on_off_false : OnOff → Bool
on_off_false OnOff.Off = true
on_off_false OnOff.On = false
on_off_false OnOff.NoHandler = false

-- "Command execution SHALL NOT continue beyond the Options processing if all of these criteria are true", the third of
-- which is "The value of the ExecuteIfOff bit is 0"
unfoldable pub continues : OnOff → ℕ → ℕ → ℕ → Bool
continues on_off options mask over =
    not
    (on_off_exists on_off && on_off_false on_off
    && eqb (execute_if_off_bit (temporary_options options mask over)) 0)
