-- A transition from an accepted start on: it begins with the numbers that the lamp had, goes its way, and from its time
-- on is there, by what a lamp shows (ShownAgrees). Between its ends it is compared in TransitionAgrees.
use Rattle.std.specs.Prelude.{Option, Some, None}
use Prim.Native.Nat.{ℕ, suc, ◌+◌, ◌-◌, ◌<◌}
use mathlib.Core.Path.{◌≡◌, ap, ◌∙◌}
use native.Mathlib.Omega.{arith}
use lib.Dec.{leb}
use lib.IntN.{ℤ, pos, negsuc, nat_abs, ◌-ℤ◌}
use Rattle.matter.specs.declared.enums.StepModeEnum.{StepModeEnum}
use Rattle.matter.proofs.Laws.{cond_both}
use Rattle.hue.specs.Hue.{moved_hue}
use Rattle.progress.proofs.Laws.{permille-most, part-within}
use Rattle.progress.specs.Progress.{permille_of, part_of}
use Rattle.color.specs.declared.Color.{Color}
use Rattle.tasks.specs.declared.ColorTemperatureMoveTo.{ColorTemperatureMoveTo}
use Rattle.tasks.specs.declared.HueSaturationMoveTo.{HueSaturationMoveTo}
use Rattle.tasks.specs.declared.Task.{Task}
use Rattle.lamp.specs.declared.Lamp.{Lamp}
use Rattle.conformance.specs.Started.{Ran, Lasts}
use Rattle.conformance.specs.Receipt.{Reaches, Goes-by, sense, Each, MiredsAlone}
use Rattle.conformance.proofs.ShownAgrees.{HueShows, SaturationShows, ShowsMoveTo, ShowsMiredsTo, clamped, move-to-shows, clamped-shows}
use Rattle.conformance.specs.Steps.{enhanced_hue_maximum, hue_step_to}
use Rattle.conformance.specs.Transition.{on_line}
use Rattle.conformance.proofs.TransitionAgrees.{gone, gone-first, transition-end, circle-agrees, way-ends, line-agrees, line-arrives}

-- what becomes of the hue, of the saturation, and of all three
abbrev pub HueGoes : Option ℤ → ℕ → ℕ → ℕ → ℕ → Type 0
HueGoes None time elapsed from now = now ≡ from
HueGoes (Some way) time elapsed from now = Goes-by (sense way) (nat_abs way) time elapsed from now

abbrev pub SaturationGoes : Option ℕ → ℕ → ℕ → ℕ → ℕ → Type 0
SaturationGoes None time elapsed from now = now ≡ from
SaturationGoes (Some target) time elapsed from now = Reaches from target time elapsed now

abbrev pub GoesMoveTo : HueSaturationMoveTo → ℕ → Color → Color → Type 0
GoesMoveTo task elapsed from now =
    Each (HueGoes task.delta task.ms elapsed from.hue now.hue)
    (SaturationGoes task.saturation task.ms elapsed from.saturation now.saturation)
    (now.mireds ≡ from.mireds)

module _ (time elapsed from now : ℕ) where
  -- a number on its line
  line-reaches : (to : ℕ) → now ≡ on_line from to (gone (pos to -ℤ pos from) elapsed time) →
      Reaches from to time elapsed now
  line-reaches to e =
      record {
        begins =
            λ z w. e ∙ ap (on_line from to) (ap (λ (n : ℕ). gone (pos to -ℤ pos from) n time) z
            ∙ gone-first (pos to -ℤ pos from) time w)
            ∙ cond_both (λ (n : ℕ). n ≡ from) (leb from to) (from + 0) (from - 0) (λ t. omega arith) (λ t. omega arith);
        ends =
            λ w. e ∙ line-agrees from to elapsed time (transition-end (pos to -ℤ pos from) time elapsed w)
            ∙ line-arrives from to elapsed time w;
      }

  saturation-goes : (t : Option ℕ) → SaturationShows t from elapsed time from now →
      SaturationGoes t time elapsed from now
  saturation-goes None e = e
  saturation-goes (Some target) e = line-reaches target e

  -- a hue on its circle
  on-way : (way : ℤ) → from < 65536 →
      moved_hue from (part_of way (permille_of elapsed time))
      ≡ hue_step_to (sense way) enhanced_hue_maximum (gone way elapsed time) from
  on-way (pos n) h = circle-agrees StepModeEnum.Up n elapsed time from h
  on-way (negsuc n) h = circle-agrees StepModeEnum.Down (suc n) elapsed time from h

  hue-goes : (d : Option ℤ) → from < 65536 → HueShows d from elapsed time from now → HueGoes d time elapsed from now
  hue-goes None h e = e
  hue-goes (Some way) h e =
      record {
        units = gone way elapsed time;
        on = e ∙ on-way way h;
        within = part-within way (permille_of elapsed time) (permille-most elapsed time);
        reaches =
            record {
              begins = λ z w. ap (λ (n : ℕ). gone way n time) z ∙ gone-first way time w;
              ends = λ w. ap nat_abs (way-ends way elapsed time w);
            };
      }

-- what is shown of a move-to goes so
pub move-to-goes : (task : HueSaturationMoveTo) (elapsed : ℕ) (from now : Color) → from.hue < 65536 →
    ShowsMoveTo task from.hue from.saturation elapsed from now → GoesMoveTo task elapsed from now
move-to-goes task elapsed from now h s =
    record {
      hue = hue-goes _ _ _ _ task.delta h s.hue;
      saturation = saturation-goes _ _ _ _ task.saturation s.saturation;
      mireds = s.mireds;
    }

pub mireds-go : (target elapsed time : ℕ) (from now : Color) →
    ShowsMiredsTo from.mireds target elapsed time from now →
    MiredsAlone from now (λ a b. Reaches a target time elapsed b)
mireds-go target elapsed time from now s =
    record { hue = s.hue; saturation = s.saturation; mireds = line-reaches _ _ _ _ target s.mireds }

module _ (m : Lamp) (begun : ℕ) where
  pub move-to-follows : (task : HueSaturationMoveTo) → m.color.hue < 65536 →
      (n : Lamp) → Ran m (Task.HueSaturationMoveTo task) begun n → (clock : ℕ) → Lasts n clock →
      GoesMoveTo task (clock - begun) m.color n.color
  move-to-follows task h n r clock lasts =
      move-to-goes task (clock - begun) m.color n.color h (move-to-shows m begun task n r clock lasts)

  pub mireds-to-follow : (task : ColorTemperatureMoveTo) →
      (n : Lamp) → Ran m (Task.ColorTemperatureMoveTo task) begun n → (clock : ℕ) → Lasts n clock →
      MiredsAlone m.color n.color (λ a b. Reaches a (clamped m task.target) task.ms (clock - begun) b)
  mireds-to-follow task n r clock lasts =
      mireds-go (clamped m task.target) (clock - begun) task.ms m.color n.color
      (clamped-shows m begun task n r clock lasts)
