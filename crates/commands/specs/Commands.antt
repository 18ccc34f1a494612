-- What each command does: document 01, leaf 7 and "Commands in their order". A command is given the lamp at its clock.
-- What is checked before it, and in which order: `command_cause`, `in_order` and `ran_with` in Answers.
use Rattle.std.specs.Prelude.{Option, Some, None, ℕ, ◌+◌, ◌-◌, ◌*◌, min, Bool, true, false, not, cond, ◌&&◌, ◌||◌}
use Rattle.std.specs.Prelude.{List, [], ◌∷◌, ◌++◌, ltb, eqb, ℤ, pos, neg_ℤ, ◌+ℤ◌}
use Rattle.matter.specs.declared.limits.Bounds.{Bounds}
use Rattle.matter.specs.declared.commands.Command.{Command}
use Rattle.matter.specs.declared.enums.DirectionEnum.{DirectionEnum}
use Rattle.matter.specs.declared.enums.MoveModeEnum.{MoveModeEnum}
use Rattle.matter.specs.declared.enums.StepModeEnum.{StepModeEnum}
use Rattle.matter.specs.declared.enums.ColorLoopActionEnum.{ColorLoopActionEnum}
use Rattle.matter.specs.declared.enums.ColorLoopDirectionEnum.{ColorLoopDirectionEnum}
use Rattle.matter.specs.Causes.{Verdict, accepted, constraint_error, invalid_command}
use Rattle.matter.specs.Flags.{has_flag, update_action, update_direction, update_time, update_start_hue}
use Rattle.matter.specs.Limits.{hue_limit, saturation_limit}
use Rattle.notices.specs.Notices.{only}
use Rattle.notices.specs.Names.{ColorLoopActive, ColorLoopDirection, ColorLoopTime, ColorLoopStartEnhancedHue}
use Rattle.notices.specs.Names.{ColorLoopStoredEnhancedHue, marked_dirty, device_hue_saturation, task_given, hue_tie}
use Rattle.hue.specs.Hue.{path_delta, is_tie}
use Rattle.progress.specs.Progress.{clamp}
use Rattle.color.specs.declared.Color.{Color}
use Rattle.color.specs.Setters.{hue_set, hue_reported}
use Rattle.tasks.specs.declared.Task.{Task}
use Rattle.lamp.specs.declared.Lamp.{Lamp}
use Rattle.lamp.specs.declared.LoopSettings.{LoopSettings}
use Rattle.matter.specs.Bounds.{lower, upper}
use Rattle.matter.specs.Rules.{signed}
use Rattle.commands.specs.declared.checks.Checks.{Checks}

-- what an accepted command does: the lamp after it, what it reports, and the task it gives
pub record CommandEffect : Type 0 where
  pub lamp : Lamp
  pub reported : List ℕ
  pub task : Option Task

-- a pass-over: nothing but the clock changes
abbrev pub skip : Lamp → CommandEffect
skip l = record { lamp = l; reported = []; task = None }

-- a task given, and what is reported behind it
abbrev pub giving_with : Lamp → Task → List ℕ → CommandEffect
giving_with l task more = record { lamp = l; reported = task_given ∷ more; task = Some task }

abbrev pub giving : Lamp → Task → CommandEffect
giving l task = giving_with l task []

-- ---- what is checked of a command by itself

abbrev pub is_stop : MoveModeEnum → Bool
is_stop MoveModeEnum.Stop = true
is_stop MoveModeEnum.Up = false
is_stop MoveModeEnum.Down = false

-- a cause where the test holds, else none
abbrev pub cause_if : Bool → Verdict → Verdict
cause_if test cause = cond test cause accepted

-- "hue above 254 (plain only), saturation above 254, or mireds 0"
abbrev pub constrained : Bool → Checks
constrained bad = record { stop = false; cause = cause_if bad constraint_error }

-- "rate or step 0"
abbrev pub nonzero : ℕ → Checks
nonzero n = record { stop = false; cause = cause_if (eqb n 0) invalid_command }

-- "Stop mode is answered with the Stop task before rate and off are looked at"
abbrev pub moving : MoveModeEnum → ℕ → Checks
moving mode rate = record { stop = is_stop mode; cause = (nonzero rate).cause }

-- Stop mode, and the cause that the command's own numbers give
abbrev pub checks : Command → Checks
checks (Command.MoveToHue hue direction time) = constrained (ltb hue_limit hue)
checks (Command.MoveHue mode rate enhanced) = moving mode rate
checks (Command.StepHue mode size time) = nonzero size
checks (Command.MoveToSaturation saturation time) = constrained (ltb saturation_limit saturation)
checks (Command.MoveSaturation mode rate) = moving mode rate
checks (Command.StepSaturation mode size time) = nonzero size
checks (Command.MoveToHueAndSaturation hue saturation time enhanced enhanced_hue) =
    constrained ((not enhanced && ltb hue_limit hue) || ltb saturation_limit saturation)
checks (Command.EnhancedMoveToHue hue direction time) = constrained false
checks (Command.EnhancedMoveHue mode rate) = moving mode rate
checks (Command.EnhancedStepHue mode size time) = nonzero size
checks (Command.MoveToColorTemperature mireds time) = constrained (eqb mireds 0)
checks (Command.MoveColorTemperature mode rate min max) = moving mode rate
checks (Command.StepColorTemperature mode size time min max) = nonzero size
checks (Command.ColorLoopSet flags action direction time start_hue) = constrained false
checks Command.StopMoveStep = constrained false

-- "Mired bounds: 0 from the caller means the physical one. lo is the larger minimum, hi the smaller maximum"
abbrev pub asked : ℕ → ℕ → ℕ
asked physical n = cond (eqb n 0) physical n

abbrev pub lo : Bounds → ℕ → ℕ
lo bounds n = lower bounds (asked bounds.min n)

abbrev pub hi : Bounds → ℕ → ℕ
hi bounds n = upper bounds (asked bounds.max n)

-- between which mireds a step goes. Document 02, A.12: "A step with lo above hi, however that comes about, is now
-- answered as if both limits were 0"
abbrev pub limits : Bounds → ℕ → ℕ → Bounds
limits bounds min max = record { min = lo bounds min; max = hi bounds max }

abbrev pub step_limits : Bounds → ℕ → ℕ → Bounds
step_limits bounds min max = cond (ltb (hi bounds max) (lo bounds min)) (limits bounds 0 0) (limits bounds min max)

-- ---- the tasks

-- a plain number of hue is 256 stored ones; a tenth is 100 milliseconds
abbrev pub stored : ℕ → ℕ
stored hue = hue * 256

abbrev pub ms : ℕ → ℕ
ms tenths = tenths * 100

abbrev pub hue_task : ℤ → Option ℕ → ℕ → Bool → Task
hue_task way saturation tenths enhanced =
    Task.HueSaturationMoveTo (record {
      delta = Some way;
      saturation = saturation;
      ms = ms tenths;
      enhanced = enhanced;
    })

-- a move to a hue. Document 02, A.6: "All move-to-hue commands, those with saturation too, pass a set mark on: notice
-- 18 follows 17"
abbrev pub giving_hue : Lamp → ℕ → DirectionEnum → Option ℕ → ℕ → Bool → CommandEffect
giving_hue l target direction saturation tenths enhanced =
    giving_with l (hue_task (path_delta l.color.hue target direction) saturation tenths enhanced)
    (only (is_tie l.color.hue target direction) hue_tie)

abbrev pub saturation_task : ℕ → ℕ → Task
saturation_task saturation tenths =
    Task.HueSaturationMoveTo (record {
      delta = None;
      saturation = Some saturation;
      ms = ms tenths;
      enhanced = false;
    })

abbrev pub hue_move_task : MoveModeEnum → ℕ → Bool → Task
hue_move_task mode rate enhanced = Task.HueMove (record { direction = mode; rate = rate; enhanced = enhanced })

abbrev pub temperature_task : ℕ → ℕ → Task
temperature_task target tenths = Task.ColorTemperatureMoveTo (record { target = target; ms = ms tenths })

-- a step's size with its sign
abbrev pub step_delta : StepModeEnum → ℕ → ℤ
step_delta StepModeEnum.Up size = pos size
step_delta StepModeEnum.Down size = neg_ℤ (pos size)

-- a step of the mireds, within its limits
abbrev pub mireds_step : Lamp → StepModeEnum → ℕ → ℕ → ℕ → ℕ
mireds_step l mode size min max =
    let between : Bounds = step_limits l.bounds min max in
    clamp between.min between.max (pos l.color.mireds +ℤ step_delta mode size)

-- "Saturation steps stop at 0 and 254"
abbrev pub saturation_step : StepModeEnum → ℕ → ℕ → ℕ
saturation_step StepModeEnum.Up now size = min saturation_limit (now + size)
saturation_step StepModeEnum.Down now size = now - size

-- ---- the colour loop's command

-- the lamp with another colour and other settings of the loop
abbrev pub with_loop : Lamp → Color → LoopSettings → Lamp
with_loop l color looping =
    record {
      clock = l.clock;
      bounds = l.bounds;
      color = color;
      looping = looping;
      remaining = l.remaining;
      options = l.options;
      running = l.running;
    }

-- "it updates direction, time and start hue by flag (bits 1, 2, 3; action is bit 0)"
abbrev pub updated : LoopSettings → ℕ → ColorLoopDirectionEnum → ℕ → ℕ → LoopSettings
updated s flags direction time start_hue =
    record {
      active = s.active;
      direction = cond (has_flag flags update_direction) direction s.direction;
      time = cond (has_flag flags update_time) time s.time;
      start = cond (has_flag flags update_start_hue) start_hue s.start;
      stored = s.stored;
    }

-- ", marks dirty"
abbrev pub updated_reported : ℕ → List ℕ
updated_reported flags =
    only (has_flag flags update_direction) ColorLoopDirection
    ++ only (has_flag flags update_time) ColorLoopTime
    ++ only (has_flag flags update_start_hue) ColorLoopStartEnhancedHue
    ++ (marked_dirty ∷ [])

abbrev pub activity : LoopSettings → Bool → ℕ → LoopSettings
activity s active stored =
    record { active = active; direction = s.direction; time = s.time; start = s.start; stored = stored }

-- ", then acts": off, where it is active, the stored hue comes back and the Stop task is given
unfoldable pub deactivated : Lamp → List ℕ → CommandEffect
deactivated l reported =
    cond l.looping.active
    (record {
      lamp =
          with_loop l (hue_set l.color l.looping.stored true true l.clock)
          (activity l.looping false l.looping.stored);
      reported =
          reported ++ (task_given ∷ ColorLoopActive ∷ [])
          ++ hue_reported l.color l.looping.stored true true l.clock false
          ++ (device_hue_saturation ∷ []);
      task = Some Task.Stop;
    })
    (record { lamp = l; reported = reported; task = None })

-- on: the hue is stored, unless the loop is active already, the first hue is set, and the loop's task is given
unfoldable pub activated : Lamp → List ℕ → ℕ → CommandEffect
activated l reported seed =
    record {
      lamp =
          with_loop l (hue_set l.color seed true true l.clock)
          (activity l.looping true (cond l.looping.active l.looping.stored l.color.hue));
      reported =
          reported ++ cond l.looping.active [] (ColorLoopStoredEnhancedHue ∷ ColorLoopActive ∷ [])
          ++ hue_reported l.color seed true true l.clock true
          ++ (device_hue_saturation ∷ task_given ∷ []);
      task =
          Some (Task.ColorLoop (record { direction = l.looping.direction; seconds = l.looping.time }));
    }

abbrev pub acted : Lamp → List ℕ → ColorLoopActionEnum → CommandEffect
acted l reported ColorLoopActionEnum.Deactivate = deactivated l reported
acted l reported ColorLoopActionEnum.ActivateFromColorLoopStartEnhancedHue = activated l reported l.looping.start
acted l reported ColorLoopActionEnum.ActivateFromEnhancedCurrentHue = activated l reported l.color.hue

unfoldable pub loop_set : Lamp → ℕ → ColorLoopActionEnum → ColorLoopDirectionEnum → ℕ → ℕ → CommandEffect
loop_set l flags action direction time start_hue =
    let changed : Lamp = with_loop l l.color (updated l.looping flags direction time start_hue) in
    cond (has_flag flags update_action) (acted changed (updated_reported flags) action)
    (record { lamp = changed; reported = updated_reported flags; task = None })

-- ---- a command that may execute, in no Stop mode

unfoldable pub command_effect : Lamp → Command → CommandEffect
command_effect l (Command.MoveToHue hue direction time) =
    giving_hue l (stored hue) direction None time false
command_effect l (Command.MoveHue mode rate enhanced) =
    giving l (hue_move_task mode (cond enhanced rate (stored rate)) enhanced)
command_effect l (Command.StepHue mode size time) =
    giving l (hue_task (step_delta mode (stored size)) None time false)
command_effect l (Command.MoveToSaturation saturation time) = giving l (saturation_task saturation time)
command_effect l (Command.MoveSaturation mode rate) =
    giving l (Task.SaturationMove (record { direction = mode; rate = rate }))
command_effect l (Command.StepSaturation mode size time) =
    giving l (saturation_task (saturation_step mode l.color.saturation size) time)
command_effect l (Command.MoveToHueAndSaturation hue saturation time enhanced enhanced_hue) =
    giving_hue l (cond enhanced enhanced_hue (stored hue)) DirectionEnum.Shortest (Some saturation) time
    enhanced
command_effect l (Command.EnhancedMoveToHue hue direction time) =
    giving_hue l hue direction None time true
command_effect l (Command.EnhancedMoveHue mode rate) = giving l (hue_move_task mode rate true)
command_effect l (Command.EnhancedStepHue mode size time) =
    giving l (hue_task (step_delta mode size) None time true)
command_effect l (Command.MoveToColorTemperature mireds time) =
    giving l (temperature_task (clamp l.bounds.min l.bounds.max (pos mireds)) time)
command_effect l (Command.MoveColorTemperature mode rate min max) =
    giving l
    (Task.ColorTemperatureMove
    (record { rate = signed mode rate; min = asked l.bounds.min min; max = asked l.bounds.max max }))
command_effect l (Command.StepColorTemperature mode size time min max) =
    giving l (temperature_task (mireds_step l mode size min max) time)
command_effect l (Command.ColorLoopSet flags action direction time start_hue) =
    loop_set l flags action direction time start_hue
command_effect l Command.StopMoveStep = giving l Task.Stop
