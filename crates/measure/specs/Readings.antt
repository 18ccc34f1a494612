-- How many of 32 lamps run and the lowest place, asked again and again.
use Rattle.std.specs.Prelude.{Option, Some, None, ℕ, ◌+◌, ◌*◌, ◌%◌, ltb, cond, List, [], ◌∷◌, set, replicate, fold}
use Rattle.lamp.specs.declared.Lamp.{Lamp}
use Rattle.tasks.specs.declared.Running.{Running}
use Rattle.rows.specs.Rows.{count_of, lowest_of, running_count, first_running}
use Rattle.exports.specs.Lamps.{lamp_of}
use Rattle.measure.specs.declared.sums.Sums.{Sums}
use Rattle.measure.specs.Sums.{added}

-- count and lowest place in one number; 32 stands for no place
unfoldable pub numbered : ℕ → Option ℕ → ℕ
numbered count None = count + 2048
numbered count (Some place) = count + 64 * place

-- by the mask
abbrev pub of_mask : ℕ → ℕ
of_mask mask = numbered (count_of mask) (lowest_of mask)

-- by the lamps
abbrev pub of_lamps : List Lamp → ℕ
of_lamps ls = numbered (running_count ls) (first_running 0 ls)

-- the lamp as it runs, or idle
abbrev pub turned : Lamp → ℕ → Lamp
turned l turn = record l { running = cond (ltb turn 32) l.running Running.Idle }

unfoldable pub masks_read : Sums → List ℕ → Sums
masks_read = fold (λ s m. added s (of_mask (m % 4294967296)))

-- at each turn one lamp starts or halts, and all are read
unfoldable pub records_from : Lamp → List Lamp → Sums → List ℕ → Sums
records_from l ls s [] = s
records_from l ls s (t ∷ ts) =
    let next = set ls (t % 32) (turned l t) in records_from l next (added s (of_lamps next)) ts

-- from 32 idle lamps on
abbrev pub records_read : Lamp → List ℕ → Sums
records_read l turns = records_from l (replicate 32 (turned l 32)) (record { a = 0; b = 0 }) turns

abbrev pub masks_checksum : List ℕ → ℕ
masks_checksum ms = (masks_read (record { a = 0; b = 0 }) ms).b

abbrev pub records_checksum : List ℕ → List ℕ → ℕ
records_checksum w turns = (records_read (lamp_of w) turns).b
