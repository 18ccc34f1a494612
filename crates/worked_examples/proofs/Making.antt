-- A lamp as it is made, whole: document 01, leaf 4, and docs/DECISIONS.md, points 8 and 9.
use Prim.Native.Nat.{ℕ}
use mathlib.Core.Bool.{false}
use mathlib.Core.List.{List, [], ◌∷◌, map}
use mathlib.Core.Path.{◌≡◌, refl}
use Rattle.matter.specs.declared.enums.ColorLoopDirectionEnum.{ColorLoopDirectionEnum}
use Rattle.tasks.specs.declared.Running.{Running}
use Rattle.std.specs.Prelude.{Some, None}
use Rattle.lamp.specs.Making.{MadeValues, made_values, making}
use Rattle.worked_examples.proofs.Runs.{Modes, xy, hue, warmth}
use Rattle.matter.specs.Flags.{has_flag}
use Rattle.matter.specs.Rules.{default_color_mode}
use Rattle.progress.specs.Progress.{clamp}

-- bounds, features, options and clock; what is made
pub record Row : Type 0 where
  pub min : ℕ
  pub max : ℕ
  pub features : ℕ
  pub options : ℕ
  pub clock : ℕ
  pub made : MadeValues

-- refused with a number; or made, with these mireds and modes
abbrev pub refused : ℕ → ℕ → ℕ → ℕ → Row
refused min max clock number =
    record { min = min; max = max; features = 31; options = 0; clock = clock; made = record { number = number; lamp = None } }

abbrev pub makes : ℕ → ℕ → ℕ → ℕ → ℕ → ℕ → Modes → Row
makes min max features options clock mireds modes =
    record {
      min = min;
      max = max;
      features = features;
      options = options;
      clock = clock;
      made =
          record {
            number = 0;
            lamp =
                Some
                (record {
                  clock = clock;
                  bounds = record { min = min; max = max };
                  color =
                      record {
                        hue = 0;
                        saturation = 0;
                        mireds = mireds;
                        mode = modes.0;
                        emode = modes.1;
                        stamps = record { hue = 0; saturation = 0; mireds = 0 };
                      };
                  looping =
                      record {
                        active = false;
                        direction = ColorLoopDirectionEnum.Increment;
                        time = 25;
                        start = 8960;
                        stored = 0;
                      };
                  remaining = record { tenths = 0 };
                  options = options;
                  running = Running.Idle;
                });
          };
    }

abbrev pub rows : List Row
rows =
    -- the modes: XY before hue and saturation before mireds; none of them, XY
    makes 153 500 31 0 5000 250 xy
    ∷ makes 153 500 8 0 5000 250 xy
    ∷ makes 153 500 17 0 5000 250 hue
    ∷ makes 153 500 1 0 5000 250 hue
    ∷ makes 153 500 16 0 5000 250 warmth
    ∷ makes 153 500 2 0 5000 250 xy
    ∷ makes 153 500 0 0 5000 250 xy
    -- options; mireds at the nearer bound; one number for both bounds, at the limit of clocks
    ∷ makes 153 500 31 255 5000 250 xy
    ∷ makes 300 400 31 0 5000 300 xy
    ∷ makes 100 200 31 0 5000 200 xy
    ∷ makes 300 300 31 0 1_099_511_627_776 300 xy
    -- 5, 4, and 4 before 5
    ∷ refused 301 300 5000 5
    ∷ refused 300 400 1_099_511_627_777 4
    ∷ refused 400 300 1_099_511_627_777 4
    ∷ []

abbrev pub MakingReported : Type 0
MakingReported =
    map (λ (r : Row). made_values (making (record { min = r.min; max = r.max }) r.features r.options r.clock)) rows
    ≡ map (λ (r : Row). r.made) rows

-- ---- by computation

making-reported : MakingReported
unfolding has_flag default_color_mode clamp making
making-reported = refl
