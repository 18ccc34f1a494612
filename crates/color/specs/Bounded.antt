-- The colour under new bounds: document 02, A.9.
use Rattle.std.specs.Prelude.{ℕ, Bool, not, cond, eqb, pos}
use Rattle.matter.specs.declared.limits.Bounds.{Bounds}
use Rattle.progress.specs.Progress.{clamp}
use Rattle.color.specs.declared.Color.{Color}

-- "Mireds outside the new bounds go to the nearer one"
abbrev pub mireds_within : Color → Bounds → ℕ
mireds_within c bounds = clamp bounds.min bounds.max (pos c.mireds)

-- whether that moves the number
abbrev pub mireds_move : Color → Bounds → Bool
mireds_move c bounds = not (eqb (mireds_within c bounds) c.mireds)

-- "its stamp set to the clock; modes do not change"; the stamp of "an unmoved number" stays
unfoldable pub bounded : Color → Bounds → ℕ → Color
bounded c bounds clock =
    record {
      hue = c.hue;
      saturation = c.saturation;
      mireds = mireds_within c bounds;
      mode = c.mode;
      emode = c.emode;
      stamps =
          record {
            hue = c.stamps.hue;
            saturation = c.stamps.saturation;
            mireds = cond (mireds_move c bounds) clock c.stamps.mireds;
          };
    }
