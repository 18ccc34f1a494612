-- One pass of a fade's running record shows what the schedule shows at the pass's clock.
use Rattle.std.proofs.lemmas.Bool.{cases_Bool}
use Rattle.std.specs.Prelude.{Some, None}
use Prim.Native.Nat.{ℕ, ◌-◌}
use mathlib.Core.Bool.{Bool, true, false, not, cond}
use mathlib.Core.Logic.{inl, inr}
use mathlib.Core.Path.{◌≡◌, refl, ◌∙◌}
use lib.Dec.{leb, eqb}
use borrow.Author.Tests.{eqb-true}
use Rattle.progress.specs.Progress.{permille_of}
use Rattle.color.specs.declared.Color.{Color}
use Rattle.color.specs.Setters.{same, hue_set}
use Rattle.tasks.specs.declared.HueSaturationRun.{HueSaturationRun}
use Rattle.tasks.specs.declared.Running.{Running}
use Rattle.lamp.specs.declared.Lamp.{Lamp}
use Rattle.lamp.specs.Passes.{Effect, hue_saturation_pass, hue_saturation_moved, timed}
use Rattle.schedule.specs.Schedule.{target, delta_from, time, Fed, Shown, over, shown_at}
use Rattle.matter.proofs.Laws.{and_left, or_left}
use Rattle.schedule.proofs.Arithmetic.{whole-arrives, at-end, tenths-fit}
use Rattle.schedule.proofs.Course.{Sane}

-- the fade's running record from a hue and a saturation
abbrev pub run_from : Fed → ℕ → ℕ → HueSaturationRun
run_from f hue saturation =
    record {
      start = f.start;
      hue = hue;
      saturation = saturation;
      task =
          record {
            delta = Some (delta_from f.fade f.found);
            saturation = None;
            ms = time f.fade;
            enhanced = f.fade.enhanced;
          };
    }

-- what the lamp runs while the schedule is not done; the saturation is the one found at the start
abbrev pub run_of : Fed → ℕ → HueSaturationRun
run_of f saturation = run_from f f.found saturation

abbrev pub running_of : Fed → ℕ → Bool → Running
running_of f saturation done = cond done Running.Idle (Running.HueSaturationMoveTo (run_of f saturation))

-- the lamp shows what the schedule does, and runs the fade until it is done
pub record Shows (f : Fed) (saturation : ℕ) (l : Lamp) (s : Shown) : Type 0 where
  pub clock : l.clock ≡ s.clock
  pub hue : l.color.hue ≡ s.hue
  pub remaining : l.remaining.tenths ≡ s.remaining
  pub running : l.running ≡ running_of f saturation s.done

-- an effect that leaves such a lamp, and asks for the schedule's wait
pub record Meets (f : Fed) (saturation : ℕ) (e : Effect) (s : Shown) : Type 0 where
  pub shows : Shows f saturation e.lamp s
  pub wait : e.wait ≡ s.wait

-- a hue that is set is there, changed or not
pub set_is : (c : Color) (new : ℕ) (end enhanced : Bool) (clock : ℕ) → (hue_set c new end enhanced clock).hue ≡ new
unfolding hue_set
set_is c new end enhanced clock =
    elim (cases_Bool (same c.hue new end)) [
      | inl e ↦ rw e (eqb-true c.hue new (and_left (eqb c.hue new) (not end) e))
      | inr e ↦ rw e
    ]

module _ (f : Fed) (n : Sane f) (saturation : ℕ) (l : Lamp) where
  -- the last pass
  pub pass-ends : over f (l.clock - f.start) ≡ true → Meets f saturation (hue_saturation_pass l (run_of f saturation) 1000) (shown_at f l.clock)
  unfolding hue_saturation_moved timed shown_at
  pass-ends e =
      rw e
      (record {
        shows =
            record {
              clock = refl;
              hue = set_is l.color _ true f.fade.enhanced l.clock ∙ whole-arrives f.found (target f.fade) f.fade.direction n.found n.target;
              remaining = refl;
              running = refl;
            };
        wait = refl;
      })

  -- a pass before it
  pub pass-goes : over f (l.clock - f.start) ≡ false → Meets f saturation (hue_saturation_pass l (run_of f saturation) (permille_of (l.clock - f.start) (time f.fade))) (shown_at f l.clock)
  unfolding hue_saturation_moved timed shown_at
  pass-goes e =
      let k : leb 1000 (permille_of (l.clock - f.start) (time f.fade)) ≡ false = at-end (l.clock - f.start) (time f.fade) ∙ or_left (leb (time f.fade) (l.clock - f.start)) _ e in
      rw (e, k)
      (record {
        shows =
            record {
              clock = refl;
              hue = set_is l.color _ false f.fade.enhanced l.clock;
              remaining = tenths-fit (time f.fade) (l.clock - f.start) n.time;
              running = refl;
            };
        wait = refl;
      })
