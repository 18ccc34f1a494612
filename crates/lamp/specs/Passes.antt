-- One pass of each transition: document 01, leaf 6 and "The arithmetic of a step". A pass is given what it needs of the
-- lamp at the call's clock, and the running record; it leaves what it changes, and the wait (`Found`, `Moved`,
-- `Passed`, `Left`: the records of src/passes.rt). From that come the lamp after it and what it reports, in its order.
use Rattle.std.specs.Prelude.{Option, Some, None}
use Rattle.std.specs.Prelude.{ℕ, ◌-◌, Bool, true, false, cond, ◌&&◌, ◌||◌, List, [], ◌∷◌, ◌++◌, leb, eqb, ℤ, pos, ◌-ℤ◌}
use Rattle.std.specs.Int.Signed.{lt_z}
use Rattle.matter.specs.declared.limits.Bounds.{Bounds}
use Rattle.matter.specs.declared.enums.MoveModeEnum.{MoveModeEnum}
use Rattle.matter.specs.Rules.{signed}
use Rattle.matter.specs.Limits.{saturation_limit}
use Rattle.notices.specs.declared.Notice.{Notice}
use Rattle.notices.specs.Notices.{only}
use Rattle.notices.specs.Names.{RemainingTime, notice_number}
use Rattle.hue.specs.Hue.{moved_hue}
use Rattle.progress.specs.Progress.{part_of, delta_at_rate, loop_delta, clamped_sum, tick, end_wait, turn_wait}
use Rattle.remaining_time.specs.declared.RemainingTime.{RemainingTime as Remaining}
use Rattle.remaining_time.specs.declared.Written.{Written}
use Rattle.remaining_time.specs.RemainingTime.{written_quietly}
use Rattle.color.specs.declared.Color.{Color}
use Rattle.color.specs.declared.ColorSet.{ColorSet}
use Rattle.color.specs.Setters.{change_reported, no_change, set_hue, set_saturation, set_mireds}
use Rattle.tasks.specs.declared.HueSaturationRun.{HueSaturationRun}
use Rattle.tasks.specs.declared.HueRun.{HueRun}
use Rattle.tasks.specs.declared.SaturationRun.{SaturationRun}
use Rattle.tasks.specs.declared.ColorTemperatureToRun.{ColorTemperatureToRun}
use Rattle.tasks.specs.declared.ColorTemperatureRun.{ColorTemperatureRun}
use Rattle.tasks.specs.declared.ColorLoopRun.{ColorLoopRun}
use Rattle.tasks.specs.declared.Running.{Running}
use Rattle.tasks.specs.Runs.{loop_running}
use Rattle.lamp.specs.declared.Lamp.{Lamp}
use Rattle.lamp.specs.declared.passes.Found.{Found}
use Rattle.lamp.specs.declared.passes.Moved.{Moved}
use Rattle.lamp.specs.declared.passes.Passed.{Passed}
use Rattle.lamp.specs.declared.passes.Left.{Left}

-- what an accepted start or step does: the lamp after it, what it reports, and the wait
pub record Effect : Type 0 where
  pub lamp : Lamp
  pub reported : List ℕ
  pub wait : ℕ

-- ---- what a pass is given, and what comes of what it leaves

-- what it is given of a lamp with this remaining time
abbrev pub found_with : Lamp → Remaining → Found
found_with l remaining = record { clock = l.clock; bounds = l.bounds; remaining = remaining; color = l.color }

-- and with its own
abbrev pub found_in : Lamp → Found
found_in l = found_with l l.remaining

-- what it leaves running: nothing at its end, and then asks for no wait
abbrev pub unless : Bool → Running → Running
unless end run = cond end Running.Idle run

abbrev pub waiting : Bool → ℕ → ℕ
waiting end wait = cond end 0 wait

-- its record stays, unless it is the end; at a start the full time may be reported first
abbrev pub left_by : Bool → Passed → Running → Left
left_by full passed running = record { full = full; passed = passed; running = unless passed.ends running }

-- "Each pass writes the device after the setters, then, in a move-to, the remaining time": what it reports, which is
-- its first change and what comes behind it
abbrev pub device_reported : Option Notice → List ℕ
device_reported None = []
device_reported (Some device) = notice_number device ∷ []

abbrev pub reported_behind : Passed → Bool → List ℕ
reported_behind passed active =
    change_reported passed.second active ++ device_reported passed.device ++ only passed.time RemainingTime

abbrev pub pass_reported : Passed → Bool → List ℕ
pass_reported passed active = change_reported passed.first active ++ reported_behind passed active

-- the lamp with another colour, running record and remaining time
abbrev pub changed : Lamp → Color → Running → Remaining → Lamp
changed l color running remaining =
    record {
      clock = l.clock;
      bounds = l.bounds;
      color = color;
      looping = l.looping;
      remaining = remaining;
      options = l.options;
      running = running;
    }

-- the effect on a lamp at the call's clock
abbrev pub left_effect : Lamp → Left → Effect
left_effect l left =
    record {
      lamp = changed l left.passed.color left.running left.passed.remaining;
      reported = only left.full RemainingTime ++ pass_reported left.passed l.looping.active;
      wait = left.passed.wait;
    }

-- a lamp that is made idle, and nothing else
abbrev pub idled : Lamp → Effect
idled l = record { lamp = changed l l.color Running.Idle l.remaining; reported = []; wait = 0 }

-- ---- moves to a hue, a saturation or mireds

-- "At permille 1000 the final number is used"
abbrev pub at_end : ℕ → Bool
at_end permille = leb 1000 permille

-- the hue's part of a pass, where the task moves the hue: the start plus the part
abbrev pub hue_now : ℕ → ℤ → ℕ → ℕ
hue_now start way permille = moved_hue start (part_of way permille)

abbrev pub hue_moved : Color → Option ℤ → ℕ → ℕ → Bool → ℕ → ColorSet
hue_moved c None start permille enhanced clock = record { color = c; change = no_change }
hue_moved c (Some way) start permille enhanced clock =
    set_hue c (hue_now start way permille) (at_end permille) enhanced clock

-- the saturation's part, where the task moves it: its way is from the start to the target
abbrev pub saturation_now : ℕ → ℕ → ℕ → ℕ
saturation_now start target permille =
    cond (at_end permille) target (clamped_sum 0 saturation_limit start (part_of (pos target -ℤ pos start) permille))

abbrev pub saturation_moved : Color → Option ℕ → ℕ → ℕ → ℕ → ColorSet
saturation_moved c None start permille clock = record { color = c; change = no_change }
saturation_moved c (Some target) start permille clock =
    set_saturation c (saturation_now start target permille) (at_end permille) clock

-- what move_to_hue_saturation_transition moves at so many thousandths: first the hue, then the saturation
unfoldable pub hue_saturation_moved : Found → HueSaturationRun → ℕ → Moved
hue_saturation_moved f run permille =
    let hued : ColorSet = hue_moved f.color run.task.delta run.hue permille run.task.enhanced f.clock in
    let set : ColorSet =
    saturation_moved hued.color run.task.saturation run.saturation permille f.clock
    in
    record { color = set.color; first = hued.change; second = set.change; device = Some Notice.DeviceHueSaturation }

-- what move_to_color_temperature_transition moves
abbrev pub mireds_now : Bounds → ℕ → ℕ → ℕ → ℕ
mireds_now bounds start target permille =
    cond (at_end permille) target
    (clamped_sum bounds.min bounds.max start (part_of (pos target -ℤ pos start) permille))

unfoldable pub temperature_to_moved : Found → ColorTemperatureToRun → ℕ → Moved
temperature_to_moved f run permille =
    let now : ℕ = mireds_now f.bounds run.mireds run.task.target permille in
    let set : ColorSet = set_mireds f.color now (at_end permille) f.clock in
    record { color = set.color; first = set.change; second = no_change; device = Some Notice.DeviceMireds }

-- then either writes the remaining time: what is left of the time, and 0 at the end
unfoldable pub timed : Found → Moved → ℕ → ℕ → ℕ → Passed
timed f moved start ms permille =
    let elapsed : ℕ = f.clock - start in
    let end : Bool = at_end permille in
    let w : Written = written_quietly f.remaining (cond end 0 (ms - elapsed)) false in
    record {
      color = moved.color;
      first = moved.first;
      second = moved.second;
      device = moved.device;
      time = w.reported;
      wait = waiting end (end_wait elapsed ms);
      remaining = w.remaining;
      ends = end;
    }

abbrev pub hue_saturation_passed : Found → HueSaturationRun → ℕ → Passed
hue_saturation_passed f run permille = timed f (hue_saturation_moved f run permille) run.start run.task.ms permille

abbrev pub temperature_to_passed : Found → ColorTemperatureToRun → ℕ → Passed
temperature_to_passed f run permille = timed f (temperature_to_moved f run permille) run.start run.task.ms permille

-- one pass of each
abbrev pub hue_saturation_pass : Lamp → HueSaturationRun → ℕ → Effect
hue_saturation_pass l run permille =
    left_effect l (left_by false (hue_saturation_passed (found_in l) run permille) (Running.HueSaturationMoveTo run))

abbrev pub temperature_to_pass : Lamp → ColorTemperatureToRun → ℕ → Effect
temperature_to_pass l run permille =
    left_effect l (left_by false (temperature_to_passed (found_in l) run permille) (Running.ColorTemperatureMoveTo run))

-- ---- moves at a rate: "rate × elapsed / 1000"; the wait of "moves at a rate always 100"

-- a pass with one change, which leaves the remaining time
abbrev pub passed : Found → ColorSet → Option Notice → ℕ → Bool → Passed
passed f set device wait end =
    record {
      color = set.color;
      first = set.change;
      second = no_change;
      device = device;
      time = false;
      wait = waiting end wait;
      remaining = f.remaining;
      ends = end;
    }

-- one pass of hue_move_transition: "A hue move never ends"
unfoldable pub hue_passed : Found → HueRun → Passed
hue_passed f run =
    let rate : ℤ = signed run.task.direction run.task.rate in
    let now : ℕ = moved_hue run.hue (delta_at_rate rate (f.clock - run.start)) in
    passed f (set_hue f.color now false run.task.enhanced f.clock) (Some Notice.DeviceHueSaturation) tick false

abbrev pub hue_pass : Lamp → HueRun → Effect
hue_pass l run = left_effect l (left_by false (hue_passed (found_in l) run) (Running.HueMove run))

-- "Saturation ends at 254 or 0": the one it heads for
abbrev pub saturation_done : MoveModeEnum → ℕ → Bool
saturation_done MoveModeEnum.Stop now = false
saturation_done MoveModeEnum.Up now = eqb now saturation_limit
saturation_done MoveModeEnum.Down now = eqb now 0

-- one pass of saturation_move_transition
unfoldable pub saturation_passed : Found → SaturationRun → Passed
saturation_passed f run =
    let rate : ℤ = signed run.task.direction run.task.rate in
    let now : ℕ = clamped_sum 0 saturation_limit run.saturation (delta_at_rate rate (f.clock - run.start)) in
    let end : Bool = saturation_done run.task.direction now in
    passed f (set_saturation f.color now end f.clock) (Some Notice.DeviceHueSaturation) tick end

abbrev pub saturation_pass : Lamp → SaturationRun → Effect
saturation_pass l run = left_effect l (left_by false (saturation_passed (found_in l) run) (Running.SaturationMove run))

-- "mireds at the bound it heads for"
abbrev pub mireds_done : ℤ → ℕ → ℕ → ℕ → Bool
mireds_done rate lo hi now = (lt_z (pos 0) rate && eqb now hi) || (lt_z rate (pos 0) && eqb now lo)

-- one pass of color_temperature_move_transition
unfoldable pub temperature_passed : Found → ColorTemperatureRun → Passed
temperature_passed f run =
    let now : ℕ = clamped_sum run.lo run.hi run.mireds (delta_at_rate run.rate (f.clock - run.start)) in
    let end : Bool = mireds_done run.rate run.lo run.hi now in
    passed f (set_mireds f.color now end f.clock) (Some Notice.DeviceMireds) tick end

abbrev pub temperature_pass : Lamp → ColorTemperatureRun → Effect
temperature_pass l run =
    left_effect l (left_by false (temperature_passed (found_in l) run) (Running.ColorTemperatureMove run))

-- ---- one pass of color_loop_transition, which never ends

unfoldable pub loop_passed : Found → ColorLoopRun → Passed
loop_passed f run =
    let elapsed : ℕ = f.clock - run.start in
    let now : ℕ = moved_hue run.hue (loop_delta run.task.direction elapsed run.task.seconds) in
    let set : ColorSet = set_hue f.color now false true f.clock in
    passed f set (Some Notice.DeviceHueSaturation) (turn_wait elapsed run.task.seconds) false

abbrev pub loop_pass : Lamp → ColorLoopRun → Effect
loop_pass l run = left_effect l (left_by false (loop_passed (found_in l) run) (loop_running run))
