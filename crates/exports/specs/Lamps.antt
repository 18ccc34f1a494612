-- A lamp in 28 words: the protocol's eighteen fields in their order; then the running record: its clock, the two
-- numbers found at its start, its task's kind and six numbers.
use Rattle.std.specs.Prelude.{ℕ, Bool, ◌&&◌, List, [], ◌∷◌, ◌++◌, leb}
use Rattle.matter.specs.Numbers.{color_mode_number, enhanced_color_mode_number, loop_direction_number}
use Rattle.color.specs.declared.Color.{Color}
use Rattle.lamp.specs.declared.Lamp.{Lamp}
use Rattle.lamp.specs.declared.LoopSettings.{LoopSettings}
use Rattle.exports.specs.declared.moves.TaskNumbers.{TaskNumbers}
use Rattle.exports.specs.declared.moves.RecordNumbers.{RecordNumbers}
use Rattle.exports.specs.Bounds.{bounds_of, bounds_fit}
use Rattle.exports.specs.Words.{at, byte, short, flag, flag_number}
use Rattle.exports.specs.Enums.{color_mode_read, enhanced_mode_read, loop_direction_read, color_mode_known}
use Rattle.exports.specs.Enums.{enhanced_mode_known, loop_direction_known}
use Rattle.exports.specs.Moves.{running_of, record_known, record_numbers}

-- ---- reading

abbrev pub color_of : List ℕ → Color
color_of w =
    record {
      hue = short (at w 8);
      saturation = byte (at w 9);
      mireds = short (at w 10);
      mode = color_mode_read (at w 11);
      emode = enhanced_mode_read (at w 12);
      stamps = record { hue = at w 5; saturation = at w 6; mireds = at w 7 };
    }

abbrev pub looping_of : List ℕ → LoopSettings
looping_of w =
    record {
      active = flag (at w 13);
      direction = loop_direction_read (at w 14);
      time = short (at w 15);
      start = short (at w 16);
      stored = short (at w 17);
    }

abbrev pub record_of : List ℕ → RecordNumbers
record_of w =
    record {
      start = at w 18;
      x = at w 19;
      y = at w 20;
      task = record { kind = at w 21; a = at w 22; b = at w 23; c = at w 24; d = at w 25; e = at w 26; f = at w 27 };
    }

abbrev pub lamp_of : List ℕ → Lamp
lamp_of w =
    record {
      clock = at w 2;
      bounds = bounds_of w 0;
      color = color_of w;
      looping = looping_of w;
      remaining = record { tenths = short (at w 4) };
      options = byte (at w 3);
      running = running_of (record_of w);
    }

-- each number is within its field
unfoldable pub lamp_fits : List ℕ → Bool
lamp_fits w =
    bounds_fit w 0 && leb (at w 3) 255 && leb (at w 4) 65535
    && leb (at w 8) 65535
    && leb (at w 9) 255
    && leb (at w 10) 65535
    && leb (at w 13) 1
    && leb (at w 15) 65535
    && leb (at w 16) 65535
    && leb (at w 17) 65535

-- the enums have their numbers, and each number is within its field
unfoldable pub lamp_known : List ℕ → Bool
lamp_known w =
    lamp_fits w && color_mode_known (at w 11) && enhanced_mode_known (at w 12) && loop_direction_known (at w 14)
    && record_known (record_of w)

-- ---- writing

abbrev pub color_words : Color → List ℕ
color_words c =
    c.stamps.hue ∷ c.stamps.saturation ∷ c.stamps.mireds ∷ c.hue ∷ c.saturation ∷ c.mireds
    ∷ color_mode_number c.mode
    ∷ enhanced_color_mode_number c.emode ∷ []

abbrev pub looping_words : LoopSettings → List ℕ
looping_words s = flag_number s.active ∷ loop_direction_number s.direction ∷ s.time ∷ s.start ∷ s.stored ∷ []

abbrev pub task_words : TaskNumbers → List ℕ
task_words n = n.kind ∷ n.a ∷ n.b ∷ n.c ∷ n.d ∷ n.e ∷ n.f ∷ []

abbrev pub record_words : RecordNumbers → List ℕ
record_words r = r.start ∷ r.x ∷ r.y ∷ task_words r.task

abbrev pub lamp_words : Lamp → List ℕ
lamp_words l =
    (l.bounds.min ∷ l.bounds.max ∷ l.clock ∷ l.options ∷ l.remaining.tenths ∷ []) ++ color_words l.color
    ++ looping_words l.looping ++ record_words (record_numbers l.running)
