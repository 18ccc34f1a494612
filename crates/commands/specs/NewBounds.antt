-- Document 02, A.9: what accepted new bounds do, written out, as statements about every lamp.
use Rattle.std.specs.Prelude.{ℕ, ◌≤◌, ◌<◌, List, [], ◌∷◌, ◌≡◌, None}
use Rattle.matter.specs.Causes.{accepted}
use Rattle.matter.specs.declared.limits.Bounds.{Bounds}
use Rattle.notices.specs.Notices.{noted}
use Rattle.lamp.specs.declared.Lamp.{Lamp}
use Rattle.lamp.specs.declared.Answer.{Answer}
use Rattle.lamp.specs.declared.Call.{Call}
use Rattle.commands.specs.Answers.{cause, answer}

-- the answer that leaves these mireds with this stamp, and reports these notices: the call sets bounds and clock, and
-- nothing else moves, modes, task and remaining time neither; "The wait is 0"
abbrev pub with_mireds : Lamp → Bounds → ℕ → ℕ → ℕ → List ℕ → Answer
with_mireds l bounds clock mireds stamp reported =
    record {
      verdict = accepted;
      lamp =
          record {
            clock = clock;
            bounds = bounds;
            color =
                record {
                  hue = l.color.hue;
                  saturation = l.color.saturation;
                  mireds = mireds;
                  mode = l.color.mode;
                  emode = l.color.emode;
                  stamps =
                      record { hue = l.color.stamps.hue; saturation = l.color.stamps.saturation; mireds = stamp };
                };
            looping = l.looping;
            remaining = l.remaining;
            options = l.options;
            running = l.running;
          };
      notices = noted reported;
      task = None;
      wait = 0;
    }

pub record NewBounds (l : Lamp) (bounds : Bounds) (clock : ℕ) : Type 0 where
  -- "an unmoved number brings no notice", and its stamp stays
  pub inside : cause l (Call.SetBounds bounds clock) ≡ accepted → bounds.min ≤ l.color.mireds →
      l.color.mireds ≤ bounds.max →
      answer l (Call.SetBounds bounds clock) ≡ with_mireds l bounds clock l.color.mireds l.color.stamps.mireds []
  -- "Mireds outside the new bounds go to the nearer one, with notice 5 alone and its stamp set to the clock"
  pub under : cause l (Call.SetBounds bounds clock) ≡ accepted → l.color.mireds < bounds.min →
      answer l (Call.SetBounds bounds clock) ≡ with_mireds l bounds clock bounds.min clock (5 ∷ [])
  pub above : cause l (Call.SetBounds bounds clock) ≡ accepted → bounds.max < l.color.mireds →
      answer l (Call.SetBounds bounds clock) ≡ with_mireds l bounds clock bounds.max clock (5 ∷ [])
