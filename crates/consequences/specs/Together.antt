-- *Together*: two lamps that found the same hue, were given the same move to a hue and started it at the same clock,
-- and were stepped by accepted steps at the same clocks, show the same hue and remaining time after each, under the
-- claim's premises of both. Whatever else these leave room for, before, between and after: refused calls, other
-- commands, at other clocks.
use Rattle.std.specs.Prelude.{ℕ, cond, List, [], ◌∷◌, ◌++◌, ◌≡◌}
use Rattle.lamp.specs.declared.Lamp.{Lamp}
use Rattle.lamp.specs.declared.Call.{Call}
use Rattle.commands.specs.Answers.{clock_of}
use Rattle.schedule.specs.Calls.{next, idle, accepted_step, steps}
use Rattle.schedule.specs.Schedule.{target}
use Rattle.schedule.specs.Fades.{Fade, found, begun, later, Premised}

-- the clocks of the accepted steps of a list
unfoldable pub step_clocks : Lamp → List Call → List ℕ
step_clocks l [] = []
step_clocks l (x ∷ xs) = cond (accepted_step l x) (clock_of x ∷ step_clocks (next l x) xs) (step_clocks (next l x) xs)

-- found the same hue, were given the same move to a hue and started it at the same clock: the same target, direction
-- and time. Options, on or off, the clock of the command, and whether it is plain or enhanced make no difference
pub record Alike (d e : Fade) : Type 0 where
  pub found : found d ≡ found e
  pub target : target d.move ≡ target e.move
  pub direction : d.move.direction ≡ e.move.direction
  pub tenths : d.move.tenths ≡ e.move.tenths
  pub start : d.start ≡ e.start

-- show the same hue and remaining time, and are done together
pub record ShowSame (l m : Lamp) : Type 0 where
  pub hue : l.color.hue ≡ m.color.hue
  pub remaining : l.remaining.tenths ≡ m.remaining.tenths
  pub done : idle l ≡ idle m

-- after the calls `xs` of the one and `ys` of the other, where the steps accepted so far came at the same clocks
abbrev pub Together : Type 0
Together =
    (d e : Fade) → Premised d → Premised e → Alike d e → (xs xs' ys ys' : List Call) → d.calls ≡ xs ++ xs' →
    e.calls ≡ ys ++ ys' →
    step_clocks (begun d).lamp xs ≡ step_clocks (begun e).lamp ys → ShowSame (later d xs) (later e ys)

-- after each: where all accepted steps came at the same clocks, after as many of the one as of the other
abbrev pub AfterEach : Type 0
AfterEach =
    (d e : Fade) → Premised d → Premised e → Alike d e →
    step_clocks (begun d).lamp d.calls ≡ step_clocks (begun e).lamp e.calls → (xs xs' ys ys' : List Call) →
    d.calls ≡ xs ++ xs' → e.calls ≡ ys ++ ys' → steps (begun d).lamp xs ≡ steps (begun e).lamp ys →
    ShowSame (later d xs) (later e ys)
