-- The modes that a command leads to are the text's; the port sets them when a number first moves or at the end, the text on
-- receipt.
use Rattle.matter.specs.Causes.{accepted}
use Rattle.std.specs.Prelude.{Option, Some, None, ℤ}
use Prim.Native.Nat.{ℕ}
use mathlib.Core.Bool.{Bool, true, false, cond, true≢false, ◌||◌, and-false}
use mathlib.Core.Path.{◌≡◌, refl, sym, ap, ◌∙◌}
use lib.Dec.{eqb}
use Rattle.matter.specs.declared.commands.Command.{Command}
use Rattle.matter.specs.declared.commands.Request.{Request}
use Rattle.matter.specs.Requests.{request, no_options}
use Rattle.matter.specs.declared.enums.ColorModeEnum.{ColorModeEnum}
use Rattle.matter.specs.declared.enums.DirectionEnum.{DirectionEnum}
use Rattle.matter.specs.declared.enums.EnhancedColorModeEnum.{EnhancedColorModeEnum}
use Rattle.matter.specs.declared.enums.OnOff.{OnOff}
use Rattle.matter.specs.Flags.{has_flag}
use Rattle.matter.specs.Numbers.{color_mode_number, enhanced_color_mode_number}
use Rattle.matter.specs.Rules.{color_mode_of, default_color_mode}
use Rattle.color.specs.declared.Color.{Color}
use Rattle.color.specs.Valid.{modes_agree}
use Rattle.color.specs.Setters.{same, kept_hue_mode, hue_set, saturation_set, mireds_set}
use Rattle.tasks.specs.declared.ColorTemperatureToRun.{ColorTemperatureToRun}
use Rattle.tasks.specs.declared.HueSaturationRun.{HueSaturationRun}
use Rattle.tasks.specs.declared.Task.{Task}
use Rattle.tasks.specs.Valid.{delta_given, saturation_given}
use Rattle.lamp.specs.declared.Lamp.{Lamp}
use Rattle.lamp.specs.Making.{fresh_lamp}
use Rattle.lamp.specs.Passes.{at_end, hue_now, hue_moved, saturation_now, saturation_moved, hue_saturation_pass, mireds_now, temperature_to_pass, hue_saturation_moved, temperature_to_moved, timed}
use Rattle.lamp.specs.declared.Call.{Call}
use Rattle.commands.specs.Answers.{cause, answer, is_loop_set, command_done}
use Rattle.commands.specs.Commands.{command_effect}
use Rattle.commands.proofs.Kept.{quiet-command}
use Rattle.conformance.specs.Modes.{Modes, hue_modes, enhanced_hue_modes, temperature_modes, saturation_modes, received}

abbrev pub modes_of : Color → Modes
modes_of c = record { color = c.mode; enhanced = c.emode }

-- the numbers 0 to 2 of EnhancedColorMode are ColorMode's, and to 3, the enhanced hue, belongs ColorMode 0
pub color-mode-of : (e : EnhancedColorModeEnum) → color_mode_number (color_mode_of e) ≡ cond (eqb (enhanced_color_mode_number e) 3) 0 (enhanced_color_mode_number e)
color-mode-of EnhancedColorModeEnum.CurrentHueAndCurrentSaturation = refl
color-mode-of EnhancedColorModeEnum.CurrentXAndCurrentY = refl
color-mode-of EnhancedColorModeEnum.ColorTemperatureMireds = refl
color-mode-of EnhancedColorModeEnum.EnhancedCurrentHueAndCurrentSaturation = refl

-- ---- when a number moves, or at an end, the modes are those that the text set on receipt

module _ (c : Color) (new : ℕ) (end : Bool) (clock : ℕ) where
  pub hue-modes : (enhanced : Bool) → same c.hue new end ≡ false → modes_of (hue_set c new end enhanced clock) ≡ cond enhanced enhanced_hue_modes hue_modes
  unfolding hue_set
  hue-modes true e = rw e
  hue-modes false e = rw e

  pub mireds-modes : same c.mireds new end ≡ false → modes_of (mireds_set c new end clock) ≡ temperature_modes
  unfolding mireds_set
  mireds-modes e = rw e

kept_by : (mode : ColorModeEnum) (emode : EnhancedColorModeEnum) → modes_agree mode emode ≡ true → record { color = ColorModeEnum.CurrentHueAndCurrentSaturation; enhanced = kept_hue_mode emode } ≡ saturation_modes (record { color = mode; enhanced = emode })
kept_by ColorModeEnum.CurrentHueAndCurrentSaturation EnhancedColorModeEnum.CurrentHueAndCurrentSaturation e = refl
kept_by ColorModeEnum.CurrentHueAndCurrentSaturation EnhancedColorModeEnum.CurrentXAndCurrentY e = absurd (true≢false (sym e))
kept_by ColorModeEnum.CurrentHueAndCurrentSaturation EnhancedColorModeEnum.ColorTemperatureMireds e = absurd (true≢false (sym e))
kept_by ColorModeEnum.CurrentHueAndCurrentSaturation EnhancedColorModeEnum.EnhancedCurrentHueAndCurrentSaturation e = refl
kept_by ColorModeEnum.CurrentXAndCurrentY EnhancedColorModeEnum.CurrentHueAndCurrentSaturation e = refl
kept_by ColorModeEnum.CurrentXAndCurrentY EnhancedColorModeEnum.CurrentXAndCurrentY e = refl
kept_by ColorModeEnum.CurrentXAndCurrentY EnhancedColorModeEnum.ColorTemperatureMireds e = refl
kept_by ColorModeEnum.CurrentXAndCurrentY EnhancedColorModeEnum.EnhancedCurrentHueAndCurrentSaturation e = absurd (true≢false (sym e))
kept_by ColorModeEnum.ColorTemperatureMireds EnhancedColorModeEnum.CurrentHueAndCurrentSaturation e = refl
kept_by ColorModeEnum.ColorTemperatureMireds EnhancedColorModeEnum.CurrentXAndCurrentY e = refl
kept_by ColorModeEnum.ColorTemperatureMireds EnhancedColorModeEnum.ColorTemperatureMireds e = refl
kept_by ColorModeEnum.ColorTemperatureMireds EnhancedColorModeEnum.EnhancedCurrentHueAndCurrentSaturation e = absurd (true≢false (sym e))

pub saturation-modes : (c : Color) (new : ℕ) (end : Bool) (clock : ℕ) → modes_agree c.mode c.emode ≡ true → same c.saturation new end ≡ false → modes_of (saturation_set c new end clock) ≡ saturation_modes (modes_of c)
unfolding saturation_set
saturation-modes c new end clock a e = rw e (kept_by c.mode c.emode a)

-- at an end they always are, whatever the number
pub end-sets : (old new : ℕ) → same old new true ≡ false
end-sets old new = and-false (eqb old new)

-- what a move to a hue, to a saturation or to both sets
abbrev pub move_to_modes : Option ℤ → Bool → Modes → Modes
move_to_modes None enhanced modes = saturation_modes modes
move_to_modes (Some way) enhanced modes = cond enhanced enhanced_hue_modes hue_modes

-- ---- the task that a command gives sets, in the end, the modes that the text set on receipt

-- what a task sets
abbrev pub task_modes : Task → Modes → Modes
task_modes (Task.HueSaturationMoveTo task) modes = move_to_modes task.delta task.enhanced modes
task_modes (Task.HueMove task) modes = cond task.enhanced enhanced_hue_modes hue_modes
task_modes (Task.SaturationMove task) modes = saturation_modes modes
task_modes (Task.ColorTemperatureMoveTo task) modes = temperature_modes
task_modes (Task.ColorTemperatureMove task) modes = temperature_modes
task_modes (Task.ColorLoop task) modes = enhanced_hue_modes
task_modes Task.Stop modes = modes

abbrev pub given_modes : Option Task → Modes → Modes
given_modes None modes = modes
given_modes (Some task) modes = task_modes task modes

pub modes-of-task : (l : Lamp) (c : Command) (modes : Modes) → is_loop_set c ≡ false → given_modes (command_effect l c).task modes ≡ received modes c
unfolding command_effect received
modes-of-task l (Command.MoveToHue hue direction time) modes h = refl
modes-of-task l (Command.MoveHue mode rate enhanced) modes h = refl
modes-of-task l (Command.StepHue mode size time) modes h = refl
modes-of-task l (Command.MoveToSaturation saturation time) modes h = refl
modes-of-task l (Command.MoveSaturation mode rate) modes h = refl
modes-of-task l (Command.StepSaturation mode size time) modes h = refl
modes-of-task l (Command.MoveToHueAndSaturation hue saturation time enhanced enhanced_hue) modes h = refl
modes-of-task l (Command.EnhancedMoveToHue hue direction time) modes h = refl
modes-of-task l (Command.EnhancedMoveHue mode rate) modes h = refl
modes-of-task l (Command.EnhancedStepHue mode size time) modes h = refl
modes-of-task l (Command.MoveToColorTemperature mireds time) modes h = refl
modes-of-task l (Command.MoveColorTemperature mode rate min max) modes h = refl
modes-of-task l (Command.StepColorTemperature mode size time min max) modes h = refl
modes-of-task l (Command.ColorLoopSet flags action direction time start_hue) modes h = absurd (true≢false h)
modes-of-task l Command.StopMoveStep modes h = refl

-- and so a lamp has them at the end of a move to a hue, to a saturation or to both
at-end : (old new p : ℕ) → at_end p ≡ true → same old new (at_end p) ≡ false
at-end old new p e = ap (same old new) e ∙ end-sets old new

hued-agree : (c : Color) (new : ℕ) (end enhanced : Bool) (clock : ℕ) → same c.hue new end ≡ false → modes_agree (hue_set c new end enhanced clock).mode (hue_set c new end enhanced clock).emode ≡ true
unfolding hue_set
hued-agree c new end true clock e = rw e
hued-agree c new end false clock e = rw e

hue-kept : (enhanced : Bool) → saturation_modes (cond enhanced enhanced_hue_modes hue_modes) ≡ cond enhanced enhanced_hue_modes hue_modes
hue-kept true = refl
hue-kept false = refl

module _ (c : Color) (start first p clock : ℕ) (enhanced : Bool) (over : at_end p ≡ true) (agree : modes_agree c.mode c.emode ≡ true) where
  end_by : (delta : Option ℤ) (saturation : Option ℕ) → (delta_given delta || saturation_given saturation) ≡ true → modes_of (saturation_moved (hue_moved c delta start p enhanced clock).color saturation first p clock).color ≡ move_to_modes delta enhanced (modes_of c)
  end_by None None g = absurd (true≢false (sym g))
  end_by None (Some target) g =
      saturation-modes c (saturation_now first target p) (at_end p) clock agree (at-end c.saturation (saturation_now first target p) p over)
  end_by (Some way) None g =
      hue-modes c (hue_now start way p) (at_end p) clock enhanced (at-end c.hue (hue_now start way p) p over)
  end_by (Some way) (Some target) g =
      let e : same c.hue (hue_now start way p) (at_end p) ≡ false = at-end c.hue (hue_now start way p) p over in
      let hued : Color = hue_set c (hue_now start way p) (at_end p) enhanced clock in
      saturation-modes hued (saturation_now first target p) (at_end p) clock (hued-agree c (hue_now start way p) (at_end p) enhanced clock e) (at-end hued.saturation (saturation_now first target p) p over)
      ∙ ap saturation_modes (hue-modes c (hue_now start way p) (at_end p) clock enhanced e)
      ∙ hue-kept enhanced

pub end-modes : (l : Lamp) (run : HueSaturationRun) (p : ℕ) → at_end p ≡ true → modes_agree l.color.mode l.color.emode ≡ true → (delta_given run.task.delta || saturation_given run.task.saturation) ≡ true → modes_of (hue_saturation_pass l run p).lamp.color ≡ task_modes (Task.HueSaturationMoveTo run.task) (modes_of l.color)
unfolding hue_saturation_moved timed
end-modes l run p over agree g =
    end_by l.color run.hue run.saturation p l.clock run.task.enhanced over agree run.task.delta run.task.saturation g

-- and of a move to mireds
pub end-temperature-modes : (l : Lamp) (run : ColorTemperatureToRun) (p : ℕ) → at_end p ≡ true → modes_of (temperature_to_pass l run p).lamp.color ≡ temperature_modes
unfolding temperature_to_moved timed
end-temperature-modes l run p over =
    mireds-modes l.color (mireds_now l.bounds run.mireds run.task.target p) (at_end p) l.clock (at-end l.color.mireds (mireds_now l.bounds run.mireds run.task.target p) p over)

-- ---- on receipt the port leaves them, so they are the text's exactly where they were already

module _ (l : Lamp) (r : Request) (on_off : OnOff) (clock : ℕ) where
  pub modes-kept : is_loop_set r.command ≡ false → cause l (Call.Command r on_off clock) ≡ accepted → modes_of (answer l (Call.Command r on_off clock)).lamp.color ≡ modes_of l.color
  modes-kept h z = ap (λ (m : Lamp). modes_of m.color) (quiet-command l r on_off clock h z)

  pub modes-differ : is_loop_set r.command ≡ false → cause l (Call.Command r on_off clock) ≡ accepted → (received (modes_of l.color) r.command ≡ modes_of l.color → ⊥) → modes_of (answer l (Call.Command r on_off clock)).lamp.color ≡ received (modes_of l.color) r.command → ⊥
  modes-differ h z n e = n (sym e ∙ modes-kept h z)

-- the smallest: MoveToHue to 0 of a fresh lamp, which is in XY mode
abbrev first : Command
first = Command.MoveToHue 0 DirectionEnum.Shortest 0

abbrev fresh : Lamp
fresh = fresh_lamp (record { min = 1; max = 1 }) 31 0 0

pub modes-first-differ : ((received (modes_of fresh.color) first).color ≡ ColorModeEnum.CurrentHueAndCurrentSaturation) × ((command_done fresh (request first no_options) OnOff.On).lamp.color.mode ≡ ColorModeEnum.CurrentXAndCurrentY)
unfolding received command_effect default_color_mode has_flag
modes-first-differ = (refl, refl)
