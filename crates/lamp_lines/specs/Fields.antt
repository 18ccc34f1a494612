-- A lamp's fields, in the protocol's order.
use Rattle.matter.specs.declared.limits.Bounds.{Bounds}
use Rattle.color.specs.declared.Color.{Color}
use Rattle.color.specs.declared.Stamps.{Stamps}
use Rattle.lamp.specs.declared.Lamp.{Lamp}
use Rattle.lamp.specs.declared.LoopSettings.{LoopSettings}
use Rattle.tasks.specs.declared.Running.{Running}
use Rattle.text.specs.Readers.{Reader, give, ◌then◌, number8, number16, number64, flag}
use Rattle.lamp_lines.specs.Enums.{loop_direction_at, color_mode_at, enhanced_mode_at}

-- min max
unfoldable pub bounds_at : Reader Bounds
bounds_at = give (λ min max. record { min = min; max = max }) then number16 then number16

-- stamp_hue stamp_sat stamp_mireds
unfoldable pub stamps_at : Reader Stamps
stamps_at =
    give (λ hue saturation mireds. record { hue = hue; saturation = saturation; mireds = mireds })
    then number64 then number64 then number64

-- the stamps, then hue sat mireds mode emode
unfoldable pub color_at : Reader Color
color_at =
    give
    (λ stamps hue saturation mireds mode emode.
    record { hue = hue; saturation = saturation; mireds = mireds; mode = mode; emode = emode; stamps = stamps })
    then stamps_at then number16 then number8 then number16 then color_mode_at then enhanced_mode_at

-- loop_active loop_dir loop_time loop_start loop_stored
unfoldable pub loop_settings_at : Reader LoopSettings
loop_settings_at =
    give
    (λ active direction time start stored.
    record { active = active; direction = direction; time = time; start = start; stored = stored })
    then flag then loop_direction_at then number16 then number16 then number16

-- the bounds, then clock options remaining, the colour and the loop: an idle lamp
unfoldable pub idle_lamp_at : Reader Lamp
idle_lamp_at =
    give
    (λ bounds clock options remaining color looping.
    record {
      clock = clock;
      bounds = bounds;
      remaining = record { tenths = remaining };
      options = options;
      color = color;
      looping = looping;
      running = Running.Idle;
    })
    then bounds_at then number64 then number8 then number16 then color_at then loop_settings_at
