-- The colour of a fresh lamp: document 01, leaf 4.
use Rattle.std.specs.Prelude.{ℕ, pos}
use Rattle.matter.specs.Rules.{color_mode_of, default_color_mode}
use Rattle.progress.specs.Progress.{clamp}
use Rattle.matter.specs.declared.limits.Bounds.{Bounds}
use Rattle.color.specs.declared.Color.{Color}

-- "Mireds start at 250 (hexadecimal 00FA) brought within the physical bounds, hue and saturation at 0", "the notice
-- stamps are 0"; the modes are the features'
abbrev pub new_color : ℕ → Bounds → Color
new_color features bounds =
    record {
      hue = 0;
      saturation = 0;
      mireds = clamp bounds.min bounds.max (pos 250);
      mode = color_mode_of (default_color_mode features);
      emode = default_color_mode features;
      stamps = record { hue = 0; saturation = 0; mireds = 0 };
    }
