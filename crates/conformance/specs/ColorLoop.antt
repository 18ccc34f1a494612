-- ColorLoopSet: Matter Application Cluster Specification, Color Control, ColorLoopSet ("UpdateFlags", "Action", "Effect
-- on receipt") and the attributes ColorLoopActive, ColorLoopDirection, ColorLoopTime, ColorLoopStartEnhancedHue,
-- ColorLoopStoredEnhancedHue. Written from that text as known, what stands in quotes too: no copy was at hand.
use Rattle.std.specs.Prelude.{ℕ, Bool, true, false, cond, eqb}
use Rattle.matter.specs.declared.enums.ColorLoopActionEnum.{ColorLoopActionEnum}
use Rattle.matter.specs.declared.enums.ColorLoopDirectionEnum.{ColorLoopDirectionEnum}
use Rattle.conformance.specs.Options.{bit}

-- the attributes that the command writes
pub record LoopAttributes : Type 0 where
  pub color_loop_active : Bool
  pub color_loop_direction : ColorLoopDirectionEnum
  pub color_loop_time : ℕ
  pub color_loop_start_enhanced_hue : ℕ
  pub color_loop_stored_enhanced_hue : ℕ
  pub enhanced_current_hue : ℕ

-- "UpdateFlags": bit 0 UpdateAction, 1 UpdateDirection, 2 UpdateTime, 3 UpdateStartHue; a field whose bit is 0 SHALL be
-- ignored
abbrev pub heeded : {A : Type 0} → ℕ → ℕ → A → A → A
heeded k flags field attribute = cond (eqb (bit k flags) 1) field attribute

unfoldable pub updated_by : ℕ → ColorLoopDirectionEnum → ℕ → ℕ → LoopAttributes → LoopAttributes
updated_by flags direction time start_hue a =
    record {
      color_loop_active = a.color_loop_active;
      color_loop_direction = heeded 1 flags direction a.color_loop_direction;
      color_loop_time = heeded 2 flags time a.color_loop_time;
      color_loop_start_enhanced_hue = heeded 3 flags start_hue a.color_loop_start_enhanced_hue;
      color_loop_stored_enhanced_hue = a.color_loop_stored_enhanced_hue;
      enhanced_current_hue = a.enhanced_current_hue;
    }

-- "ColorLoopStoredEnhancedHue: the value of the EnhancedCurrentHue attribute before the color loop was started": a loop
-- that is active already is not started again
abbrev pub activate_from : ℕ → LoopAttributes → LoopAttributes
activate_from hue a =
    record {
      color_loop_active = true;
      color_loop_direction = a.color_loop_direction;
      color_loop_time = a.color_loop_time;
      color_loop_start_enhanced_hue = a.color_loop_start_enhanced_hue;
      color_loop_stored_enhanced_hue = cond a.color_loop_active a.color_loop_stored_enhanced_hue a.enhanced_current_hue;
      enhanced_current_hue = hue;
    }

-- "Once the color loop is complete, the EnhancedCurrentHue attribute SHALL be restored to this value": where none was
-- active, none completes
abbrev pub deactivate : LoopAttributes → LoopAttributes
deactivate a =
    record {
      color_loop_active = false;
      color_loop_direction = a.color_loop_direction;
      color_loop_time = a.color_loop_time;
      color_loop_start_enhanced_hue = a.color_loop_start_enhanced_hue;
      color_loop_stored_enhanced_hue = a.color_loop_stored_enhanced_hue;
      enhanced_current_hue = cond a.color_loop_active a.color_loop_stored_enhanced_hue a.enhanced_current_hue;
    }

-- "Action": "De-activate the color loop", "Activate the color loop from the value in the ColorLoopStartEnhancedHue
-- field", "Activate the color loop from the value of the EnhancedCurrentHue attribute"
unfoldable pub acted_by : ColorLoopActionEnum → LoopAttributes → LoopAttributes
acted_by ColorLoopActionEnum.Deactivate a = deactivate a
acted_by ColorLoopActionEnum.ActivateFromColorLoopStartEnhancedHue a = activate_from a.color_loop_start_enhanced_hue a
acted_by ColorLoopActionEnum.ActivateFromEnhancedCurrentHue a = activate_from a.enhanced_current_hue a

-- the fields, then the action
unfoldable pub color_loop_set : ℕ → ColorLoopActionEnum → ColorLoopDirectionEnum → ℕ → ℕ → LoopAttributes →
    LoopAttributes
color_loop_set flags action direction time start_hue a =
    heeded 0 flags (acted_by action (updated_by flags direction time start_hue a))
    (updated_by flags direction time start_hue a)

-- the direction and the time of the loop that turns: "If the color loop is active (and stays active), the device SHALL
-- immediately react on updates of the ColorLoopDirection and ColorLoopTime attributes"
pub record Turning : Type 0 where
  pub direction : ColorLoopDirectionEnum
  pub seconds : ℕ

abbrev pub turning_by : LoopAttributes → Turning
turning_by a = record { direction = a.color_loop_direction; seconds = a.color_loop_time }
