-- The arithmetic of a step: document 01, the section of that name. Times are whole milliseconds; ways and rates are
-- integers, and `quot_z` is their division that drops the fraction toward zero.
use Rattle.std.specs.Prelude.{ℕ, ◌+◌, ◌-◌, ◌*◌, ◌/◌, ◌%◌, min, cond, ◌&&◌, leb, eqb, ℤ, pos, neg_ℤ, nat_abs, ◌+ℤ◌, ◌*ℤ◌}
use Rattle.std.specs.Int.Signed.{quot_z, lt_z}
use Rattle.matter.specs.declared.enums.ColorLoopDirectionEnum.{ColorLoopDirectionEnum}
use Rattle.matter.specs.Limits.{clock_limit}

-- "permille = elapsed × 1000 / time, rounded down, at most 1000"; at time 0 the end is there at once
unfoldable pub permille_of : ℕ → ℕ → ℕ
permille_of elapsed time = cond (eqb time 0) 1000 (min 1000 (elapsed * 1000 / time))

-- no valid task has a way or a rate beyond ±65,535 (document 01, "Task out of form"): one beyond is read as that limit
unfoldable pub limited : ℤ → ℤ
limited z = cond (lt_z (pos 65535) z) (pos 65535) (cond (lt_z z (neg_ℤ (pos 65535))) (neg_ℤ (pos 65535)) z)

-- "Part = way × permille / 1000. Signed division drops the fraction toward zero"
abbrev pub part_of : ℤ → ℕ → ℤ
part_of way permille = quot_z (way *ℤ pos permille) (pos 1000)

-- "Moves at a rate: rate × elapsed / 1000". An elapsed time past the limit of clocks is read as the limit
abbrev pub delta_at_rate : ℤ → ℕ → ℤ
delta_at_rate rate elapsed = quot_z (rate *ℤ pos (min elapsed clock_limit)) (pos 1000)

-- a turn of the loop in milliseconds: "seconds × 1000", with "0 seconds read as 25"
abbrev pub loop_ms : ℕ → ℕ
loop_ms seconds = cond (eqb seconds 0) 25 seconds * 1000

-- "With rem = |raw| modulo 65,536: at rem ≥ 65,152 the whole turn above is shown; at rem ≤ 384 and |raw| ≥ 65,536 the
-- whole turn below"
unfoldable pub snapped : ℕ → ℕ
snapped raw =
    cond (leb 65152 (raw % 65536)) ((raw / 65536 + 1) * 65536)
    (cond (leb (raw % 65536) 384 && leb 65536 raw) (raw / 65536 * 65536)
    raw)

-- the loop's turn, without sign and unwrapped: "raw = ±65,536 × elapsed / (seconds × 1000)", snapped
unfoldable pub loop_turn : ℕ → ℕ → ℕ
loop_turn elapsed seconds = snapped (65536 * min elapsed clock_limit / loop_ms seconds)

-- the turn with its sign
abbrev pub directed : ColorLoopDirectionEnum → ℕ → ℤ
directed ColorLoopDirectionEnum.Increment turn = pos turn
directed ColorLoopDirectionEnum.Decrement turn = neg_ℤ (pos turn)

abbrev pub loop_delta : ColorLoopDirectionEnum → ℕ → ℕ → ℤ
loop_delta direction elapsed seconds = directed direction (loop_turn elapsed seconds)

-- tenths of a second, rounded up: the fewest tenths that are no shorter
abbrev pub tenths_of : ℕ → ℕ
tenths_of ms = (ms + 99) / 100

-- an integer clamped to two bounds: below lo it is lo, above hi it is hi
unfoldable pub clamp : ℕ → ℕ → ℤ → ℕ
clamp lo hi z = cond (lt_z z (pos lo)) lo (cond (lt_z (pos hi) z) hi (nat_abs z))

-- "Saturation and mireds are clamped to 0 to 254 and to the physical bounds"
abbrev pub clamped_sum : ℕ → ℕ → ℕ → ℤ → ℕ
clamped_sum lo hi start part = clamp lo hi (pos start +ℤ part)

-- "Wait: 100 ms, or less where the end or the next whole turn is nearer; moves at a rate always 100"
abbrev pub tick : ℕ
tick = 100

abbrev pub end_wait : ℕ → ℕ → ℕ
end_wait elapsed time = min tick (time - elapsed)

abbrev pub turn_wait : ℕ → ℕ → ℕ
turn_wait elapsed seconds = min tick (loop_ms seconds - elapsed % loop_ms seconds)
