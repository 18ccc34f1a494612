-- The port refuses with ConstraintError exactly the commands whose fields are out of the text's constraints, where times and
-- mireds are within the text's; and with InvalidCommand exactly the text's invalid ones, for every command.
use Rattle.matter.specs.Causes.{accepted, Verdict, number_of, constraint_error, invalid_command}
use Prim.Native.Nat.{ℕ, ◌≤◌}
use mathlib.Core.Bool.{Bool, true, false, not, cond, ◌&&◌, ◌||◌}
use mathlib.Core.Path.{◌≡◌, refl, ◌∙◌}
use native.Mathlib.Omega.{arith}
use Rattle.std.proofs.lemmas.Bool.Decides.{nat_tests}
use lib.Dec.{leb, ltb, eqb}
use Rattle.matter.specs.declared.commands.Command.{Command}
use Rattle.matter.specs.declared.commands.Request.{Request}
use Rattle.matter.specs.declared.commands.CommandOptions.{CommandOptions}
use Rattle.matter.specs.declared.enums.DirectionEnum.{DirectionEnum}
use Rattle.matter.specs.declared.enums.MoveModeEnum.{MoveModeEnum}
use Rattle.matter.specs.declared.enums.StepModeEnum.{StepModeEnum}
use Rattle.commands.specs.Commands.{is_stop, checks, cause_if, nonzero}
use Rattle.commands.specs.Answers.{after_clock, in_order}
use Rattle.conformance.specs.Fields.{fields_good, invalid_move, invalid}

-- ---- the fields that the port does not check are within the text's constraints

-- the numbers fit their widths, times end at 65,534 (of a plain step at 255), and mireds at 65,279
abbrev pub Roomy : Command → Type 0
Roomy (Command.MoveToHue hue direction time) = time ≤ 65534
Roomy (Command.MoveHue mode rate enhanced) = rate ≤ 255
Roomy (Command.StepHue mode size time) = (size ≤ 255) × (time ≤ 255)
Roomy (Command.MoveToSaturation saturation time) = time ≤ 65534
Roomy (Command.MoveSaturation mode rate) = rate ≤ 255
Roomy (Command.StepSaturation mode size time) = (size ≤ 255) × (time ≤ 255)
Roomy (Command.MoveToHueAndSaturation hue saturation time enhanced enhanced_hue) = (time ≤ 65534) × (enhanced_hue ≤ 65535)
Roomy (Command.EnhancedMoveToHue hue direction time) = (hue ≤ 65535) × (time ≤ 65534)
Roomy (Command.EnhancedMoveHue mode rate) = rate ≤ 65535
Roomy (Command.EnhancedStepHue mode size time) = (size ≤ 65535) × (time ≤ 65534)
Roomy (Command.MoveToColorTemperature mireds time) = (mireds ≤ 65279) × (time ≤ 65534)
Roomy (Command.MoveColorTemperature mode rate min max) = (rate ≤ 65535) × (min ≤ 65279) × (max ≤ 65279)
Roomy (Command.StepColorTemperature mode size time min max) = (size ≤ 65535) × (time ≤ 65534) × (min ≤ 65279) × (max ≤ 65279)
Roomy (Command.ColorLoopSet flags action direction time start_hue) = (flags ≤ 255) × (time ≤ 65535) × (start_hue ≤ 65535)
Roomy Command.StopMoveStep = Unit

within : (most n : ℕ) → n ≤ most → (leb 0 n && leb n most) ≡ true
within most n h = grind (arith, nat_tests)

-- above 254, or not
above : (n : ℕ) → (leb 0 n && leb n 254) ≡ not (ltb 254 n)
above n = grind (arith, nat_tests)

-- at least 1, or 0
some : (n : ℕ) → n ≤ 65279 → (leb 1 n && leb n 65279) ≡ not (eqb n 0)
some n h = grind (arith, nat_tests)

-- one field that is checked, and two
refused-by : (b : Bool) → eqb (number_of (cause_if b constraint_error)) 1 ≡ not (not b && true)
refused-by true = refl
refused-by false = refl

refused-by-either : (a b : Bool) → eqb (number_of (cause_if (a || b) constraint_error)) 1 ≡ not (not a && (not b && true))
refused-by-either true b = refl
refused-by-either false true = refl
refused-by-either false false = refl

never-by : (b : Bool) → eqb (number_of (cause_if b invalid_command)) 1 ≡ false
never-by true = refl
never-by false = refl

-- where the rest of the fields are good, ConstraintError is the port's answer exactly where a field is not
pub fields-agree : (c : Command) → Roomy c → eqb (number_of (checks c).cause) 1 ≡ not (fields_good c)
unfolding fields_good
fields-agree (Command.MoveToHue hue direction time) r =
    rw (above hue, within 65534 time r) (refused-by (ltb 254 hue))
fields-agree (Command.MoveHue mode rate enhanced) r = rw (within 255 rate r) (never-by (eqb rate 0))
fields-agree (Command.StepHue mode size time) r = rw (within 255 size r.0, within 255 time r.1) (never-by (eqb size 0))
fields-agree (Command.MoveToSaturation saturation time) r =
    rw (above saturation, within 65534 time r) (refused-by (ltb 254 saturation))
fields-agree (Command.MoveSaturation mode rate) r = rw (within 255 rate r) (never-by (eqb rate 0))
fields-agree (Command.StepSaturation mode size time) r = rw (within 255 size r.0, within 255 time r.1) (never-by (eqb size 0))
fields-agree (Command.MoveToHueAndSaturation hue saturation time true enhanced_hue) r =
    rw (within 65535 enhanced_hue r.1, above saturation, within 65534 time r.0) (refused-by (ltb 254 saturation))
fields-agree (Command.MoveToHueAndSaturation hue saturation time false enhanced_hue) r =
    rw (above hue, above saturation, within 65534 time r.0) (refused-by-either (ltb 254 hue) (ltb 254 saturation))
fields-agree (Command.EnhancedMoveToHue hue direction time) r = rw (within 65535 hue r.0, within 65534 time r.1)
fields-agree (Command.EnhancedMoveHue mode rate) r = rw (within 65535 rate r) (never-by (eqb rate 0))
fields-agree (Command.EnhancedStepHue mode size time) r = rw (within 65535 size r.0, within 65534 time r.1) (never-by (eqb size 0))
fields-agree (Command.MoveToColorTemperature mireds time) r =
    rw (some mireds r.0, within 65534 time r.1) (refused-by (eqb mireds 0))
fields-agree (Command.MoveColorTemperature mode rate min max) r =
    rw (within 65535 rate r.0, within 65279 min r.1, within 65279 max r.2) (never-by (eqb rate 0))
fields-agree (Command.StepColorTemperature mode size time min max) r =
    rw (within 65535 size r.0, within 65534 time r.1, within 65279 min r.2, within 65279 max r.3) (never-by (eqb size 0))
fields-agree (Command.ColorLoopSet flags action direction time start_hue) r =
    rw (within 255 flags r.0, within 65535 time r.1, within 65535 start_hue r.2)
fields-agree Command.StopMoveStep r = refl

-- the smallest commands that differ: the text refuses them, the port takes them
abbrev no-options : CommandOptions
no-options = record { mask = 0; overrides = 0 }

pub time-differs : (fields_good (Command.MoveToHue 0 DirectionEnum.Shortest 65535) ≡ false) × ((checks (Command.MoveToHue 0 DirectionEnum.Shortest 65535)).cause ≡ accepted)
unfolding fields_good
time-differs = (refl, refl)

pub mireds-differ : (fields_good (Command.MoveToColorTemperature 65280 0) ≡ false) × ((checks (Command.MoveToColorTemperature 65280 0)).cause ≡ accepted)
unfolding fields_good
mireds-differ = (refl, refl)

pub limits-differ : (fields_good (Command.MoveColorTemperature MoveModeEnum.Up 1 65280 0) ≡ false) × ((checks (Command.MoveColorTemperature MoveModeEnum.Up 1 65280 0)).cause ≡ accepted)
unfolding fields_good
limits-differ = (refl, refl)

pub step-time-differs : (fields_good (Command.StepHue StepModeEnum.Up 1 256) ≡ false) × ((checks (Command.StepHue StepModeEnum.Up 1 256)).cause ≡ accepted)
unfolding fields_good
step-time-differs = (refl, refl)

-- ---- INVALID_COMMAND

zero-by : (b : Bool) → eqb (number_of (cause_if b invalid_command)) 2 ≡ b
zero-by true = refl
zero-by false = refl

one-by : (b : Bool) → eqb (number_of (cause_if b constraint_error)) 2 ≡ false
one-by true = refl
one-by false = refl

stop-by : (s : Bool) (v : Verdict) → eqb (number_of (in_order s v)) 2 ≡ cond s false (eqb (number_of v) 2)
stop-by true v = refl
stop-by false v = refl

move-by : (mode : MoveModeEnum) (rate : ℕ) → cond (is_stop mode) false (eqb (number_of (nonzero rate).cause) 2) ≡ invalid_move mode rate
move-by MoveModeEnum.Stop rate = refl
move-by MoveModeEnum.Up rate = zero-by (eqb rate 0)
move-by MoveModeEnum.Down rate = zero-by (eqb rate 0)

-- Stop mode and the numbers
own-agree : (c : Command) → cond (checks c).stop false (eqb (number_of (checks c).cause) 2) ≡ invalid c
unfolding invalid
own-agree (Command.MoveToHue hue direction time) = one-by (ltb 254 hue)
own-agree (Command.MoveHue mode rate enhanced) = move-by mode rate
own-agree (Command.StepHue mode size time) = zero-by (eqb size 0)
own-agree (Command.MoveToSaturation saturation time) = one-by (ltb 254 saturation)
own-agree (Command.MoveSaturation mode rate) = move-by mode rate
own-agree (Command.StepSaturation mode size time) = zero-by (eqb size 0)
own-agree (Command.MoveToHueAndSaturation hue saturation time enhanced enhanced_hue) =
    one-by ((not enhanced && ltb 254 hue) || ltb 254 saturation)
own-agree (Command.EnhancedMoveToHue hue direction time) = refl
own-agree (Command.EnhancedMoveHue mode rate) = move-by mode rate
own-agree (Command.EnhancedStepHue mode size time) = zero-by (eqb size 0)
own-agree (Command.MoveToColorTemperature mireds time) = one-by (eqb mireds 0)
own-agree (Command.MoveColorTemperature mode rate min max) = move-by mode rate
own-agree (Command.StepColorTemperature mode size time min max) =
    zero-by (eqb size 0)
own-agree (Command.ColorLoopSet flags action direction time start_hue) = refl
own-agree Command.StopMoveStep = refl

-- past validity and clock, InvalidCommand is the port's answer exactly where the text's is
pub invalid-agree : (r : Request) → eqb (number_of (after_clock r)) 2 ≡ invalid r.command
invalid-agree r = stop-by (checks r.command).stop (checks r.command).cause ∙ own-agree r.command
