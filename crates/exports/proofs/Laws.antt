-- Reading inverts writing: what is written of an enum, a task, a running record or a lamp is known, and is read as what it
-- was. Of a lamp this asks that its numbers are within their types and that it is valid, which bounds its ways: the
-- smallest number of 64 bits with a sign has a size that no field takes.
use Rattle.std.specs.Prelude.{List, Option, Some, None, Ok, is_ok}
use Rattle.std.specs.Result.{result_unwrap_or}
use Prim.Native.Nat.{ℕ, suc, ◌%◌, ◌^◌, ◌<◌}
use mathlib.Core.Bool.{Bool, true, false, not}
use mathlib.Core.Path.{◌≡◌, refl, ap}
use native.Mathlib.Nat.{mod-eq_of_lt}
use native.Mathlib.Omega.{arith}
use lib.Dec.{eqb, leb, ltb, leb-suc-zero}
use lib.ListN.{replicate}
use lib.IntN.{ℤ, pos, negsuc, neg_ℤ, nat_abs}
use lib.Signed.{le_z}
use borrow.Author.Tests.{leb-true, le-leb}
use Rattle.matter.specs.declared.enums.DirectionEnum.{DirectionEnum}
use Rattle.matter.specs.declared.enums.MoveModeEnum.{MoveModeEnum}
use Rattle.matter.specs.declared.enums.StepModeEnum.{StepModeEnum}
use Rattle.matter.specs.declared.enums.ColorLoopActionEnum.{ColorLoopActionEnum}
use Rattle.matter.specs.declared.enums.ColorLoopDirectionEnum.{ColorLoopDirectionEnum}
use Rattle.matter.specs.declared.enums.ColorModeEnum.{ColorModeEnum}
use Rattle.matter.specs.declared.enums.EnhancedColorModeEnum.{EnhancedColorModeEnum}
use Rattle.matter.specs.declared.enums.OnOff.{OnOff}
use Rattle.matter.specs.declared.limits.Bounds.{Bounds}
use Rattle.matter.proofs.Laws.{and_left, and_right, each}
use Rattle.matter.proofs.Laws as by_number
use Rattle.matter.specs.Numbers.{found_in, direction_number, directions, move_mode_number, move_modes, step_mode_number, step_modes, loop_action_number, loop_actions, loop_direction_number, loop_directions, color_mode_number, color_modes, enhanced_color_mode_number, enhanced_color_modes, on_off_number, on_offs}
use Rattle.tasks.specs.declared.Task.{Task}
use Rattle.tasks.specs.declared.Running.{Running}
use Rattle.tasks.specs.Valid.{small, delta_valid, rate_valid, move_to_valid, running_valid}
use Rattle.tasks.specs.InRange.{InRangeTarget, InRangeTask, InRangeRunning}
use Rattle.lamp.specs.declared.Lamp.{Lamp}
use Rattle.lamp.specs.Valid.{lamp_valid}
use Rattle.lamp.proofs.Kept.{valid-running}
use Rattle.lamp.specs.InRange.{InRangeLamp}
use Rattle.exports.specs.Words.{at, flag, flag_number, signed, sign_of, size_of}
use Rattle.exports.specs.Enums.{read_of, known_of, direction_read, direction_known, move_mode_read, move_mode_known, step_mode_read, step_mode_known, loop_action_read, loop_action_known, loop_direction_read, loop_direction_known, color_mode_read, color_mode_known, enhanced_mode_read, enhanced_mode_known, on_off_read, on_off_known}
use Rattle.exports.specs.Moves.{delta_of, target_of, move_to_of, hue_move_of, saturation_move_of, mireds_to_of, mireds_move_of, color_loop_of, task_of, running_of, task_fits, task_known, record_known, none, delta_sign, delta_size, target_given, target_number, task_numbers, record_numbers}
use Rattle.lamp.specs.Answers.{numbered_answer}
use Rattle.commands.specs.Answers.{answer}
use Rattle.notices.specs.Notices.{filled}
use Rattle.exports.specs.Calls.{call_of, sent}
use Rattle.exports.specs.Bounds.{bounds_fit}
use Rattle.exports.specs.RoundTrips.{Back}
use Rattle.exports.specs.Lamps.{record_of, lamp_of, lamp_fits, lamp_known, lamp_words}

-- ---- numbers, flags and enums

-- a number within its field
pub within : {n : ℕ} (limit : ℕ) → n < suc limit → Back (λ x. x % suc limit) (λ x. leb x limit) n n
within {n} limit h = record { same = mod-eq_of_lt h; taken = le-leb n limit (omega arith) }

pub flag-back : (b : Bool) → Back flag (λ n. leb n 1) (flag_number b) b
unfolding flag
flag-back true = record { same = refl; taken = refl }
flag-back false = record { same = refl; taken = refl }

-- an enum's case, which is found by its number
back-of : {E : Type 0} (number : E → ℕ) (cases : List E) (reserved x : E) → found_in number cases (number x) ≡ Ok x → Back (read_of number cases reserved) (known_of number cases) (number x) x
unfolding read_of known_of
back-of number cases reserved x e = record { same = ap (λ r. result_unwrap_or r reserved) e; taken = ap is_ok e }

pub direction-back : (d : DirectionEnum) → Back direction_read direction_known (direction_number d) d
direction-back d = back-of direction_number directions DirectionEnum.Shortest d (by_number.direction-back d)

pub move-mode-back : (m : MoveModeEnum) → Back move_mode_read move_mode_known (move_mode_number m) m
move-mode-back m = back-of move_mode_number move_modes MoveModeEnum.Stop m (by_number.move-mode-back m)

pub step-mode-back : (m : StepModeEnum) → Back step_mode_read step_mode_known (step_mode_number m) m
step-mode-back m = back-of step_mode_number step_modes StepModeEnum.Down m (by_number.step-mode-back m)

pub loop-action-back : (a : ColorLoopActionEnum) → Back loop_action_read loop_action_known (loop_action_number a) a
loop-action-back a = back-of loop_action_number loop_actions ColorLoopActionEnum.Deactivate a (by_number.loop-action-back a)

pub loop-direction-back : (d : ColorLoopDirectionEnum) → Back loop_direction_read loop_direction_known (loop_direction_number d) d
loop-direction-back d = back-of loop_direction_number loop_directions ColorLoopDirectionEnum.Decrement d (by_number.loop-direction-back d)

pub color-mode-back : (m : ColorModeEnum) → Back color_mode_read color_mode_known (color_mode_number m) m
color-mode-back m = back-of color_mode_number color_modes ColorModeEnum.CurrentHueAndCurrentSaturation m (by_number.color-mode-back m)

pub enhanced-mode-back : (m : EnhancedColorModeEnum) → Back enhanced_mode_read enhanced_mode_known (enhanced_color_mode_number m) m
enhanced-mode-back m = back-of enhanced_color_mode_number enhanced_color_modes EnhancedColorModeEnum.CurrentHueAndCurrentSaturation m (by_number.enhanced-color-mode-back m)

pub on-off-back : (o : OnOff) → Back on_off_read on_off_known (on_off_number o) o
on-off-back o = back-of on_off_number on_offs OnOff.Off o (by_number.on-off-back o)

-- ---- signed numbers

-- whose size has a field: all of 64 bits but the smallest
abbrev pub Sized : ℤ → Type 0
Sized z = nat_abs z < 2 ^ 63

-- the number, and its sign, which is 1 or 2
pub signed_back : (z : ℤ) → Sized z → (signed (sign_of z) (size_of z) ≡ z) × (leb (sign_of z) 2 ≡ true) × (eqb (sign_of z) 0 ≡ false)
unfolding signed sign_of
signed_back (pos n) h = (simp (leb-suc-zero n, mod-eq_of_lt h), simp (leb-suc-zero n), simp (leb-suc-zero n))
signed_back (negsuc n) h = (simp (mod-eq_of_lt h), refl, refl)

size-known : (z : ℤ) → Sized z → leb (nat_abs z) 9223372036854775807 ≡ true
size-known z h = le-leb (nat_abs z) 9223372036854775807 (omega arith)

-- ---- tasks

-- the signed number of a task, 0 where it has none
abbrev pub delta_way : Option ℤ → ℤ
delta_way None = pos 0
delta_way (Some way) = way

abbrev pub way_of : Task → ℤ
way_of (Task.HueSaturationMoveTo t) = delta_way t.delta
way_of (Task.HueMove t) = pos 0
way_of (Task.SaturationMove t) = pos 0
way_of (Task.ColorTemperatureMoveTo t) = pos 0
way_of (Task.ColorTemperatureMove t) = t.rate
way_of (Task.ColorLoop t) = pos 0
way_of Task.Stop = pos 0

delta-back : (d : Option ℤ) → Sized (delta_way d) → (delta_of (delta_sign d) (delta_size d) ≡ d) × (leb (delta_sign d) 2 ≡ true) × (leb (delta_size d) 9223372036854775807 ≡ true)
unfolding delta_of
delta-back None h = (refl, refl, refl)
delta-back (Some way) h =
    let s = signed_back way h in
    (simp (s.2, s.0), s.1, size-known way h)

target-back : (s : Option ℕ) → InRangeTarget s → (target_of (target_given s) (target_number s) ≡ s) × (leb (target_given s) 1 ≡ true) × (leb (target_number s) 255 ≡ true)
unfolding target_of
target-back None h = (refl, refl, refl)
target-back (Some saturation) h = (simp (within 255 h).same, refl, (within 255 h).taken)

-- a task, where its way is not the smallest number
pub task-back : (t : Task) → InRangeTask t → Sized (way_of t) → Back task_of task_known (task_numbers t) t
unfolding task_numbers task_of task_known task_fits move_to_of hue_move_of saturation_move_of mireds_to_of mireds_move_of color_loop_of
task-back (Task.HueSaturationMoveTo t) h s =
    let d = delta-back t.delta s in
    let g = target-back t.saturation h.saturation in
    let ms = within 4294967295 h.ms in
    let e = flag-back t.enhanced in
    record { same = simp (d.0, g.0, ms.same, e.same); taken = simp (d.1, d.2, g.1, g.2, ms.taken, e.taken) }
task-back (Task.HueMove t) h s =
    let m = move-mode-back t.direction in
    let r = within 4294967295 h in
    let e = flag-back t.enhanced in
    record { same = simp (m.same, r.same, e.same); taken = simp (m.taken, r.taken, e.taken) }
task-back (Task.SaturationMove t) h s =
    let m = move-mode-back t.direction in
    let r = within 4294967295 h in
    record { same = simp (m.same, r.same); taken = simp (m.taken, r.taken) }
task-back (Task.ColorTemperatureMoveTo t) h s =
    let g = within 65535 h.target in
    let ms = within 4294967295 h.ms in
    record { same = simp (g.same, ms.same); taken = simp (g.taken, ms.taken) }
task-back (Task.ColorTemperatureMove t) h s =
    let r = signed_back t.rate s in
    let lo = within 65535 h.min in
    let hi = within 65535 h.max in
    record { same = simp (r.0, lo.same, hi.same); taken = simp (r.1, size-known t.rate s, lo.taken, hi.taken) }
task-back (Task.ColorLoop t) h s =
    let d = loop-direction-back t.direction in
    let n = within 65535 h in
    record { same = simp (d.same, n.same); taken = simp (d.taken, n.taken) }
task-back Task.Stop h s = record { same = refl; taken = refl }

-- the smallest number, as a rate of mireds, is written, and not known
pub smallest-unknown : (min max : ℕ) → task_known (task_numbers (Task.ColorTemperatureMove (record { rate = negsuc 9223372036854775807; min = min; max = max }))) ≡ false
unfolding task_numbers task_known task_fits
smallest-unknown min max = refl

-- a way or a rate valid is not that number
bounded : (z : ℤ) → le_z (neg_ℤ (pos 65535)) z ≡ true → le_z z (pos 65535) ≡ true → Sized z
bounded (pos n) e f = omega (arith, leb-true n 65535 f)
bounded (negsuc n) e f = omega (arith, leb-true n 65534 e)

small-sized : (z : ℤ) → small z ≡ true → Sized z
small-sized z e = bounded z (and_left (le_z (neg_ℤ (pos 65535)) z) _ e) (and_right (le_z (neg_ℤ (pos 65535)) z) _ e)

delta-sized : (d : Option ℤ) → delta_valid d ≡ true → Sized (delta_way d)
delta-sized None e = omega arith
delta-sized (Some way) e = small-sized way e

rate-sized : (z : ℤ) → rate_valid z ≡ true → Sized z
rate-sized z e = small-sized z (and_right (not (eqb (nat_abs z) 0)) (small z) e)

-- ---- running records

-- the numbers of no task are read as Stop, which no record runs
no-task : task_of none ≡ Task.Stop
unfolding task_of
no-task = refl

-- a task, with what was found at its start in fields of its kind; an idle lamp has no task
pub running-back : (r : Running) (bounds : Bounds) (clock : ℕ) → running_valid r bounds clock ≡ true → InRangeRunning r → Back running_of record_known (record_numbers r) r
unfolding record_numbers record_known task_numbers move_to_valid running_valid
running-back Running.Idle bounds clock e h = record { same = simp no-task; taken = refl }
running-back (Running.HueSaturationMoveTo run) bounds clock e h =
    let t = task-back (Task.HueSaturationMoveTo run.task) h.3 (delta-sized run.task.delta (each _ (each _ e).0).1.0) in
    let x = within 65535 h.1 in
    let y = within 255 h.2 in
    record { same = simp (t.same, x.same, y.same); taken = simp (t.taken, x.taken, y.taken) }
running-back (Running.HueMove run) bounds clock e h =
    let t = task-back (Task.HueMove run.task) h.2 (omega arith) in
    let x = within 65535 h.1 in
    record { same = simp (t.same, x.same); taken = simp (t.taken, x.taken) }
running-back (Running.SaturationMove run) bounds clock e h =
    let t = task-back (Task.SaturationMove run.task) h.2 (omega arith) in
    let x = within 255 h.1 in
    let wide = within {n = run.saturation} 65535 (omega arith) in
    record { same = simp (t.same, x.same); taken = simp (t.taken, x.taken, wide.taken) }
running-back (Running.ColorTemperatureMoveTo run) bounds clock e h =
    let t = task-back (Task.ColorTemperatureMoveTo run.task) h.2 (omega arith) in
    let x = within 65535 h.1 in
    record { same = simp (t.same, x.same); taken = simp (t.taken, x.taken) }
running-back (Running.ColorTemperatureMove run) bounds clock e h =
    let t = task-back (Task.ColorTemperatureMove (record { rate = run.rate; min = run.lo; max = run.hi })) (record { rate = h.2; min = h.3; max = h.4 }) (rate-sized run.rate (each _ e).0) in
    let x = within 65535 h.1 in
    record { same = simp (t.same, x.same); taken = simp (t.taken, x.taken) }
running-back (Running.ColorLoop direction hue seconds start) bounds clock e h =
    let t = task-back (Task.ColorLoop (record { direction = direction; seconds = seconds })) h.2 (omega arith) in
    let x = within 65535 h.1 in
    record { same = simp (t.same, x.same); taken = simp (t.taken, x.taken) }

-- ---- lamps

-- a valid lamp in range
pub lamp-back : (l : Lamp) → lamp_valid l ≡ true → InRangeLamp l → Back lamp_of lamp_known (lamp_words l) l
unfolding bounds_fit lamp_known lamp_fits
lamp-back l validity h =
    let low = within 65535 h.bounds.min in
    let high = within 65535 h.bounds.max in
    let options = within 255 h.options in
    let tenths = within 65535 h.remaining in
    let hue = within 65535 h.hue in
    let saturation = within 255 h.saturation in
    let mireds = within 65535 h.mireds in
    let mode = color-mode-back l.color.mode in
    let emode = enhanced-mode-back l.color.emode in
    let active = flag-back l.looping.active in
    let direction = loop-direction-back l.looping.direction in
    let time = within 65535 h.loop_time in
    let first = within 65535 h.loop_start in
    let stored = within 65535 h.loop_stored in
    let run : Back running_of record_known (record_of (lamp_words l)) l.running = running-back l.running l.bounds l.clock (valid-running l validity) h.running in
    record {
      same = simp (low.same, high.same, options.same, tenths.same, hue.same, saturation.same, mireds.same, mode.same, emode.same, active.same, direction.same, time.same, first.same, stored.same, run.same);
      taken = simp (low.taken, high.taken, options.taken, tenths.taken, hue.taken, saturation.taken, mireds.taken, mode.taken, emode.taken, active.taken, direction.taken, time.taken, first.taken, stored.taken, run.taken);
    }

-- ---- a call in words, by its number

pub sent-unread : (l : Lamp) (w : List ℕ) → ltb 259 (at w 0) ≡ true →
    sent l w ≡ record { number = 100; lamp = l; notices = record { places = replicate 16 0; len = 0 }; task = None; wait = 0 }
unfolding sent filled
sent-unread l w e = simp e

pub sent-read : (l : Lamp) (w : List ℕ) → ltb 259 (at w 0) ≡ false → sent l w ≡ numbered_answer (answer l (call_of w))
unfolding sent
sent-read l w e = simp e
