-- After ColorLoopSet the attributes are the text's, for every lamp and every field. A loop that turns is not changed
-- by new attributes, where the text's is.
use Rattle.matter.specs.Causes.{accepted}
use Rattle.std.specs.Prelude.{Option, Some, None}
use Prim.Native.Nat.{ℕ, ◌/◌, ◌%◌}
use mathlib.Core.Bool.{Bool, true, false, cond}
use mathlib.Core.List.{List}
use mathlib.Core.Path.{◌≡◌, refl, ◌∙◌}
use lib.Dec.{eqb}
use Rattle.matter.specs.Requests.{request}
use Rattle.matter.specs.declared.enums.ColorLoopActionEnum.{ColorLoopActionEnum}
use Rattle.matter.specs.declared.enums.ColorLoopDirectionEnum.{ColorLoopDirectionEnum}
use Rattle.matter.specs.declared.commands.Command.{Command}
use Rattle.matter.specs.declared.commands.CommandOptions.{CommandOptions}
use Rattle.matter.specs.declared.enums.OnOff.{OnOff}
use Rattle.matter.specs.Flags.{has_flag, update_action}
use Rattle.tasks.specs.declared.Task.{Task}
use Rattle.tasks.specs.declared.ColorLoopRun.{ColorLoopRun}
use Rattle.tasks.specs.Runs.{loop_running}
use Rattle.lamp.specs.declared.Answer.{Answer}
use Rattle.lamp.specs.declared.Lamp.{Lamp}
use Rattle.lamp.specs.Answers.{at_clock}
use Rattle.lamp.specs.declared.Call.{Call}
use Rattle.commands.specs.Answers.{allowed, cause, answer}
use Rattle.commands.specs.Commands.{with_loop, updated, updated_reported, deactivated, activated, acted, loop_set, command_effect}
use Rattle.commands.proofs.Kept.{answer-both}
use Rattle.conformance.specs.Modes.{enhanced_hue_modes}
use Rattle.conformance.proofs.ModesAgree.{modes_of, hue-modes, end-sets}
use Rattle.conformance.proofs.SettersSet.{hue-is-set}
use Rattle.conformance.specs.ColorLoop.{LoopAttributes, updated_by, activate_from, deactivate, acted_by, color_loop_set, Turning, turning_by}

-- the lamp's attributes
abbrev pub attributes : Lamp → LoopAttributes
attributes l =
    record {
      color_loop_active = l.looping.active;
      color_loop_direction = l.looping.direction;
      color_loop_time = l.looping.time;
      color_loop_start_enhanced_hue = l.looping.start;
      color_loop_stored_enhanced_hue = l.looping.stored;
      enhanced_current_hue = l.color.hue;
    }

-- the task of a loop that turns so
abbrev pub loop_task : Turning → Option Task
loop_task t = Some (Task.ColorLoop (record { direction = t.direction; seconds = t.seconds }))

module _ (l : Lamp) (reported : List ℕ) where
  deactivated-by : (t : Bool) → l.looping.active ≡ t →
      attributes (deactivated l reported).lamp ≡ deactivate (attributes l)
  unfolding deactivated
  deactivated-by true e = rw (e, hue-is-set l.color l.looping.stored true true l.clock)
  deactivated-by false e = rw e

  activated-agrees : (seed : ℕ) → attributes (activated l reported seed).lamp ≡ activate_from seed (attributes l)
  unfolding activated
  activated-agrees seed = rw (hue-is-set l.color seed true true l.clock)

  acted-agrees : (action : ColorLoopActionEnum) → attributes (acted l reported action).lamp ≡ acted_by action (attributes l)
  unfolding acted_by
  acted-agrees ColorLoopActionEnum.Deactivate = deactivated-by l.looping.active refl
  acted-agrees ColorLoopActionEnum.ActivateFromColorLoopStartEnhancedHue = activated-agrees l.looping.start
  acted-agrees ColorLoopActionEnum.ActivateFromEnhancedCurrentHue = activated-agrees l.color.hue

  -- an activation sets the modes of the enhanced hue
  activated-modes : (seed : ℕ) → modes_of (activated l reported seed).lamp.color ≡ enhanced_hue_modes
  unfolding activated
  activated-modes seed = hue-modes l.color seed true l.clock true (end-sets l.color.hue seed)

  acted-modes : (action : ColorLoopActionEnum) → (action ≡ ColorLoopActionEnum.Deactivate → ⊥) →
      modes_of (acted l reported action).lamp.color ≡ enhanced_hue_modes
  acted-modes ColorLoopActionEnum.Deactivate n = absurd (n refl)
  acted-modes ColorLoopActionEnum.ActivateFromColorLoopStartEnhancedHue n = activated-modes l.looping.start
  acted-modes ColorLoopActionEnum.ActivateFromEnhancedCurrentHue n = activated-modes l.color.hue

module _ (l : Lamp) (flags : ℕ) (action : ColorLoopActionEnum) (direction : ColorLoopDirectionEnum)
    (time start_hue : ℕ) where
  changed : Lamp
  changed = with_loop l l.color (updated l.looping flags direction time start_hue)

  set-by-flag : (t : Bool) → eqb (flags / 1 % 2) 1 ≡ t →
      attributes (cond t (acted changed (updated_reported flags) action) (record { lamp = changed; reported = updated_reported flags; task = None })).lamp ≡ cond t (acted_by action (attributes changed)) (attributes changed)
  set-by-flag true e = acted-agrees changed (updated_reported flags) action
  set-by-flag false e = refl

  set_agrees : attributes (loop_set l flags action direction time start_hue).lamp
      ≡ color_loop_set flags action direction time start_hue (attributes l)
  unfolding loop_set color_loop_set updated_by has_flag changed
  set_agrees = set-by-flag (eqb (flags / 1 % 2) 1) refl

-- ---- an accepted command that may execute

module _ (l : Lamp) (flags : ℕ) (action : ColorLoopActionEnum) (direction : ColorLoopDirectionEnum) (time start_hue : ℕ)
    (options : CommandOptions) (on_off : OnOff) (clock : ℕ) where
  abbrev pub setting : Call
  setting = Call.Command (request (Command.ColorLoopSet flags action direction time start_hue) options) on_off clock

  -- the attributes that the text's command leaves
  abbrev pub set : LoopAttributes
  set = color_loop_set flags action direction time start_hue (attributes l)

  module _ (taken : cause l setting ≡ accepted)
      (may_execute : allowed l (request (Command.ColorLoopSet flags action direction time start_hue) options) on_off ≡ true) where
    set-by : (P : Lamp → Option Task → Type 0) →
        P (loop_set (at_clock l clock) flags action direction time start_hue).lamp
        (loop_set (at_clock l clock) flags action direction time start_hue).task →
        P (answer l setting).lamp (answer l setting).task
    unfolding command_effect
    set-by P p =
        answer-both l (λ (a : Answer). P a.lamp a.task) setting (λ e. rw may_execute p) (λ k. absurd (k taken))

    -- the attributes after the command are the text's
    pub loop-set-agrees : attributes (answer l setting).lamp ≡ set
    loop-set-agrees =
        set-by (λ m t. attributes m ≡ set) (set_agrees (at_clock l clock) flags action direction time start_hue)

    -- an activation gives the loop's task, with the direction and the time of the text's loop
    pub loop-task-from-start : has_flag flags update_action ≡ true →
        action ≡ ColorLoopActionEnum.ActivateFromColorLoopStartEnhancedHue →
        (answer l setting).task ≡ loop_task (turning_by set)
    unfolding loop_set activated color_loop_set acted_by updated_by has_flag
    loop-task-from-start e a = set-by (λ m t. t ≡ loop_task (turning_by set)) (rw (a, e))

    pub loop-task-from-current : has_flag flags update_action ≡ true →
        action ≡ ColorLoopActionEnum.ActivateFromEnhancedCurrentHue →
        (answer l setting).task ≡ loop_task (turning_by set)
    unfolding loop_set activated color_loop_set acted_by updated_by has_flag
    loop-task-from-current e a = set-by (λ m t. t ≡ loop_task (turning_by set)) (rw (a, e))

    -- a deactivation of an active loop asks for a stop
    pub loop-task-off : has_flag flags update_action ≡ true → action ≡ ColorLoopActionEnum.Deactivate →
        l.looping.active ≡ true →
        (answer l setting).task ≡ Some Task.Stop
    unfolding loop_set deactivated
    loop-task-off e a h = set-by (λ m t. t ≡ Some Task.Stop) (rw (a, e, h))

    -- an activation leaves the modes of the enhanced hue, of which the text says nothing here
    pub loop-modes : has_flag flags update_action ≡ true → (action ≡ ColorLoopActionEnum.Deactivate → ⊥) →
        modes_of (answer l setting).lamp.color ≡ enhanced_hue_modes
    unfolding loop_set
    loop-modes e n = set-by (λ m t. modes_of m.color ≡ enhanced_hue_modes) (rw e (acted-modes _ (updated_reported flags) action n))

    -- without the action flag nothing is given and what turns turns on as it did, where the text's loop follows the
    -- attributes
    pub loop-not-followed : has_flag flags update_action ≡ false →
        ((answer l setting).task ≡ None) × ((answer l setting).lamp.running ≡ l.running)
    unfolding loop_set
    loop-not-followed e = set-by (λ m t. (t ≡ None) × (m.running ≡ l.running)) (rw e, rw e)

-- the smallest: flag 2 alone, and another direction
pub loop-follow-differs : (l : Lamp) (run : ColorLoopRun) (options : CommandOptions) (on_off : OnOff) (clock : ℕ) →
    l.running ≡ loop_running run →
    cause l (setting l 2 ColorLoopActionEnum.Deactivate ColorLoopDirectionEnum.Decrement 0 0 options on_off clock) ≡ accepted →
    allowed l (request (Command.ColorLoopSet 2 ColorLoopActionEnum.Deactivate ColorLoopDirectionEnum.Decrement 0 0) options) on_off
    ≡ true →
    ((turning_by (set l 2 ColorLoopActionEnum.Deactivate ColorLoopDirectionEnum.Decrement 0 0 options on_off clock)).direction ≡ ColorLoopDirectionEnum.Decrement)
    × ((answer l (setting l 2 ColorLoopActionEnum.Deactivate ColorLoopDirectionEnum.Decrement 0 0 options on_off clock)).lamp.running ≡ loop_running run)
unfolding color_loop_set updated_by has_flag
loop-follow-differs l run options on_off clock e z a =
    (refl, (loop-not-followed l 2 ColorLoopActionEnum.Deactivate ColorLoopDirectionEnum.Decrement 0 0 options on_off clock z a refl).1 ∙ e)
