-- Making: document 01, leaf 4, and the row of the table that has no lamp.
use Rattle.std.specs.Prelude.{ℕ, false, cond, ltb, Option, Some, None, Result, Ok, Err}
use Rattle.matter.specs.declared.limits.Bounds.{Bounds}
use Rattle.matter.specs.Bounds.{crossed}
use Rattle.matter.specs.declared.enums.ColorLoopDirectionEnum.{ColorLoopDirectionEnum}
use Rattle.matter.specs.Causes.{Verdict, unless_refused, accepted, refusal_number, clock_refused, crossed_bounds}
use Rattle.matter.specs.Limits.{clock_limit}
use Rattle.color.specs.Making.{new_color}
use Rattle.tasks.specs.declared.Running.{Running}
use Rattle.lamp.specs.declared.Lamp.{Lamp}
use Rattle.matter.specs.declared.refusals.Refusal.{Refusal}

-- "loop time 25, start hue 8,960. The loop is inactive and upward, the stored loop hue, the remaining time [..] are 0,
-- and the lamp is idle"
abbrev pub fresh_lamp : Bounds → ℕ → ℕ → ℕ → Lamp
fresh_lamp bounds features options clock =
    record {
      clock = clock;
      bounds = bounds;
      color = new_color features bounds;
      looping =
          record { active = false; direction = ColorLoopDirectionEnum.Increment; time = 25; start = 8960; stored = 0 };
      remaining = record { tenths = 0 };
      options = options;
      running = Running.Idle;
    }

-- why a making is refused: "making 4, 5, both with no lamp"
abbrev pub making_cause : Bounds → ℕ → Verdict
making_cause bounds clock =
    cond (ltb clock_limit clock) clock_refused (cond (crossed bounds) crossed_bounds accepted)

unfoldable pub making : Bounds → ℕ → ℕ → ℕ → Result Lamp Refusal
making bounds features options clock =
    unless_refused (making_cause bounds clock) (fresh_lamp bounds features options clock)

-- document 01's number and lamp for each case of the answer: the number 0 and the lamp, or the refusal's number and no
-- lamp
pub record MadeValues : Type 0 where
  pub number : ℕ
  pub lamp : Option Lamp

abbrev pub made_values : Result Lamp Refusal → MadeValues
made_values (Ok l) = record { number = 0; lamp = Some l }
made_values (Err refusal) = record { number = refusal_number refusal; lamp = None }

-- and those that a making must have
unfoldable pub making_values : Bounds → ℕ → ℕ → ℕ → MadeValues
making_values bounds features options clock =
    cond (ltb clock_limit clock) (record { number = 4; lamp = None })
    (cond (crossed bounds) (record { number = 5; lamp = None })
    (record { number = 0; lamp = Some (fresh_lamp bounds features options clock) }))
