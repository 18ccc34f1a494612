-- Rows of lamps: document 02, A.1 and A.3. A row has up to 32 lamps; those at and past its count are no part of it.
use Rattle.std.specs.Prelude.{Option, Some, None, ℕ, zero, suc, ◌*◌, ◌^◌, ◌<◌, ◌≤◌, min}
use Rattle.std.specs.Prelude.{Bool, true, false, not, cond, ◌&&◌, ◌||◌, ◌==◌, bit_and, bit_or, count_ones}
use Rattle.std.specs.Prelude.{List, [], ◌∷◌, ◌++◌, ◌≡◌, leb, ltb, is_ok, map, length, set, take, drop, get_or, count_by}
use Rattle.std.specs.Int.{w32, bit_not, bit_at, trailing_zeros}
use Rattle.std.specs.Simd.Lanes.{mask_l}
use Rattle.matter.specs.Causes.{Verdict, accepted, clock_refused, invalid_lamp, short_slice, no_place}
use Rattle.matter.specs.Limits.{clock_limit}
use Rattle.notices.specs.Notices.{noted}
use Rattle.matter.specs.declared.enums.ColorModeEnum.{ColorModeEnum}
use Rattle.matter.specs.declared.enums.EnhancedColorModeEnum.{EnhancedColorModeEnum}
use Rattle.matter.specs.declared.enums.ColorLoopDirectionEnum.{ColorLoopDirectionEnum}
use Rattle.tasks.specs.declared.Running.{Running}
use Rattle.tasks.specs.Runs.{runs}
use Rattle.lamp.specs.declared.Lamp.{Lamp}
use Rattle.lamp.specs.declared.Answer.{Answer}
use Rattle.lamp.specs.declared.Call.{Call}
use Rattle.lamp.specs.Answers.{unchanged}
use Rattle.lamp.specs.Calls.{step_answer}
use Rattle.lamp.specs.Valid.{lamp_valid}
use Rattle.commands.specs.Answers.{answer}
use Rattle.rows.specs.declared.Row.{Row}
use Rattle.rows.specs.declared.RowStepped.{RowStepped}
use Rattle.rows.specs.declared.RowAnswer.{RowAnswer}

-- document 02, A.3: "one 32-bit word whose bit k is set exactly when lamp k runs"; "Bits past the last lamp are 0".
-- The first lamp's bit is the lowest (`mask_l` of std: `b + 2 * ..`)
abbrev pub mask_of : List Lamp → ℕ
mask_of ls = mask_l (map (λ l. runs l.running) ls)

-- a row of so many of these lamps, its running mask made from them
abbrev pub row_of : ℕ → List Lamp → Row
row_of count ls = record { count = count; running_mask = mask_of (take count ls); lamps = ls }

-- the lamps of the row
abbrev pub placed : Row → List Lamp
placed r = take r.count r.lamps

-- "a row whose word disagrees"
abbrev pub mask_true : Row → Bool
mask_true r = r.running_mask == mask_of (placed r)

-- the row with these lamps
abbrev pub with_lamps : Row → List Lamp → Row
with_lamps r ls = row_of r.count ls

-- ---- a row call

-- what it does at one place: "One call at one clock steps every running lamp [..]; idle lamps stay"
unfoldable pub visited : Lamp → ℕ → Answer
visited l clock = cond (runs l.running) (step_answer l clock) (unchanged l accepted)

-- "If any lamp, idle ones included, is out of form"
abbrev pub all_valid : List Lamp → Bool
all_valid [] = true
all_valid (l ∷ ls) = lamp_valid l && all_valid ls

-- "if the clock is above the limit or earlier than any lamp's, idle ones included"
abbrev pub any_later : List Lamp → ℕ → Bool
any_later [] clock = false
any_later (l ∷ ls) clock = ltb clock l.clock || any_later ls clock

unfoldable pub row_cause : Row → ℕ → ℕ → Verdict
row_cause r size clock =
    cond (ltb 32 r.count) invalid_lamp
    (cond (ltb size (16 * r.count)) short_slice
    (cond (not (mask_true r && all_valid (placed r))) invalid_lamp
    (cond (any_later (placed r) clock || ltb clock_limit clock) clock_refused accepted)))

-- f at each of the first n
abbrev pub map_to : {A : Type 0} → ℕ → (A → A) → List A → List A
map_to zero f xs = xs
map_to (suc n) f [] = []
map_to (suc n) f (x ∷ xs) = f x ∷ map_to n f xs

-- the lesser of two waits, where 0 is none
unfoldable pub lesser : ℕ → ℕ → ℕ
lesser zero b = b
lesser (suc a) zero = suc a
lesser (suc a) (suc b) = min (suc a) (suc b)

-- "the least wait of those still running, or 0"
abbrev pub least_wait : ℕ → List Lamp → ℕ
least_wait clock [] = 0
least_wait clock (l ∷ ls) = lesser (visited l clock).wait (least_wait clock ls)

-- "Sixteen bytes per place go into a lent slice: the notices, zero filled; an idle lamp's sixteen are zero"
abbrev pub bytes_of : ℕ → List Lamp → List ℕ
bytes_of clock [] = []
bytes_of clock (l ∷ ls) = (visited l clock).notices.places ++ bytes_of clock ls

abbrev pub row_refusal : Row → Verdict → RowStepped
row_refusal r verdict = record { verdict = verdict; row = r; wait = 0 }

abbrev pub row_after : Row → ℕ → RowStepped
row_after r clock =
    record {
      verdict = accepted;
      row = with_lamps r (map_to r.count (λ l. (visited l clock).lamp) r.lamps);
      wait = least_wait clock (placed r);
    }

unfoldable pub row_stepped : Row → ℕ → ℕ → RowStepped
row_stepped r size clock =
    cond (is_ok (row_cause r size clock)) (row_after r clock) (row_refusal r (row_cause r size clock))

-- the caller's slice after the call: "Bytes past the last place stay"
unfoldable pub row_bytes : Row → List ℕ → ℕ → List ℕ
row_bytes r out clock =
    cond (is_ok (row_cause r (length out) clock)) (bytes_of clock (placed r) ++ drop (16 * r.count) out) out

-- ---- a call at a place

-- "10, place not in the row, looked at in that same place for a single call, which then checks the form of its own lamp
-- only"; A.3: "a row whose word disagrees is refused with 8, after 9 or 10, in single calls too"
unfoldable pub place_cause : Row → ℕ → Verdict
place_cause r place =
    cond (ltb 32 r.count) invalid_lamp
    (cond (leb r.count place) no_place (cond (not (mask_true r)) invalid_lamp accepted))

abbrev pub place_refusal : Row → Verdict → RowAnswer
place_refusal r verdict =
    record { verdict = verdict; row = r; notices = noted []; task = None; wait = 0 }

-- the lamp's own answer, and the row with that lamp in it
abbrev pub with_answer : Row → ℕ → Answer → RowAnswer
with_answer r place a =
    record {
      verdict = a.verdict;
      row = with_lamps r (set r.lamps place a.lamp);
      notices = a.notices;
      task = a.task;
      wait = a.wait;
    }

-- for `get_or`, at a place that there is not: no contract has it in an answer
abbrev pub no_lamp : Lamp
no_lamp =
    record {
      clock = 0;
      bounds = record { min = 0; max = 0 };
      remaining = record { tenths = 0 };
      options = 0;
      color =
          record {
            hue = 0;
            saturation = 0;
            mireds = 0;
            mode = ColorModeEnum.CurrentHueAndCurrentSaturation;
            emode = EnhancedColorModeEnum.CurrentHueAndCurrentSaturation;
            stamps = record { hue = 0; saturation = 0; mireds = 0 };
          };
      looping =
          record { active = false; direction = ColorLoopDirectionEnum.Decrement; time = 0; start = 0; stored = 0 };
      running = Running.Idle;
    }

-- the lamp at a place
abbrev pub lamp_at : Row → ℕ → Lamp
lamp_at r place = get_or r.lamps place no_lamp

unfoldable pub answered_at : Row → ℕ → Call → RowAnswer
answered_at r place x =
    cond (is_ok (place_cause r place)) (with_answer r place (answer (lamp_at r place) x))
    (place_refusal r (place_cause r place))

-- ---- putting a lamp into a row

-- a mask with one bit set or cleared, its other bits as they are
abbrev pub with_bit : ℕ → ℕ → Bool → ℕ
with_bit mask place set = cond set (bit_or mask (2 ^ place)) (bit_and mask (bit_not w32 (2 ^ place)))

-- the row with another lamp at a place, and that lamp's bit
abbrev pub stored : Row → ℕ → Lamp → Row
stored r place l =
    record {
      count = r.count;
      running_mask = with_bit r.running_mask place (runs l.running);
      lamps = set r.lamps place l;
    }

-- "as it was" at or past the count, and at no place of the array
unfoldable pub put_at : Row → ℕ → Lamp → Row
put_at r place l = cond (leb r.count place || leb 32 place) r (stored r place l)

-- ---- readings of the mask alone

-- "the count of running lamps"
abbrev pub count_of : ℕ → ℕ
count_of mask = count_ones mask

-- "the lowest running place, or that there is none"
abbrev pub lowest_of : ℕ → Option ℕ
lowest_of mask = cond (mask == 0) None (Some (trailing_zeros w32 mask))

-- what reading each lamp gives
abbrev pub running_count : List Lamp → ℕ
running_count ls = count_by (λ l. runs l.running) ls

-- the first lamp that runs, from place k on
abbrev pub first_running : ℕ → List Lamp → Option ℕ
first_running k [] = None
first_running k (l ∷ ls) = cond (runs l.running) (Some k) (first_running (suc k) ls)

-- "for a row in form all equal what reading each lamp gives"
pub record Readings (r : Row) : Type 0 where
  pub bits : (k : ℕ) → k < r.count → bit_at r.running_mask k ≡ cond (runs (lamp_at r k).running) 1 0
  pub past : (k : ℕ) → r.count ≤ k → bit_at r.running_mask k ≡ 0
  pub count : count_of r.running_mask ≡ running_count (placed r)
  pub lowest : lowest_of r.running_mask ≡ first_running 0 (placed r)
