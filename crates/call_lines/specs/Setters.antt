-- A setter on its own: its line, and its answer.
use Rattle.std.specs.Prelude.{ℕ, Bool, List, [], ◌∷◌}
use Rattle.color.specs.declared.Color.{Color}
use Rattle.color.specs.declared.ColorSet.{ColorSet}
use Rattle.color.specs.Setters.{change_reported, set_hue, set_saturation, set_mireds}
use Rattle.lamp.specs.declared.Answer.{Answer}
use Rattle.lamp.specs.declared.Lamp.{Lamp}
use Rattle.lamp.specs.Answers.{at_clock, first_cause}
use Rattle.lamp.specs.Calls.{choose, done}
use Rattle.lamp.specs.Passes.{Effect, changed}
use Rattle.text.specs.Readers.{Reader, give, ◌then◌, number8, number16, number64, flag, Row, ◌means◌, by_name}
use Rattle.call_lines.specs.declared.setters.NewValue.{NewValue}
use Rattle.call_lines.specs.declared.setters.Setting.{Setting}

abbrev pub setting_of : NewValue → Bool → ℕ → Setting
setting_of value end clock = record { value = value; is_end = end; clock = clock }

-- <new> <end> <enhanced> <clock>
unfoldable pub hue_setting_at : Reader Setting
hue_setting_at =
    give (λ hue end enhanced. setting_of (NewValue.Hue hue enhanced) end) then number16 then flag then flag
    then number64

-- <new> <end> <clock>
unfoldable pub saturation_setting_at : Reader Setting
saturation_setting_at =
    give (λ saturation. setting_of (NewValue.Saturation saturation)) then number8 then flag then number64

-- <new> <end> <clock>
unfoldable pub mireds_setting_at : Reader Setting
mireds_setting_at = give (λ mireds. setting_of (NewValue.Mireds mireds)) then number16 then flag then number64

abbrev pub settings : List (Row Setting)
settings = "hue" means hue_setting_at ∷ "sat" means saturation_setting_at ∷ "ct" means mireds_setting_at ∷ []

-- by the setter's name
unfoldable pub setting_at : Reader Setting
setting_at = by_name settings

-- the colour after the setter, and the change
abbrev pub color_set : Color → NewValue → Bool → ℕ → ColorSet
color_set c (NewValue.Hue hue enhanced) end clock = set_hue c hue end enhanced clock
color_set c (NewValue.Saturation saturation) end clock = set_saturation c saturation end clock
color_set c (NewValue.Mireds mireds) end clock = set_mireds c mireds end clock

abbrev pub setting_set : Color → Setting → ColorSet
setting_set c s = color_set c s.value s.is_end s.clock

-- the lamp at the clock with the colour, and what the change reports
abbrev pub setting_effect : Lamp → ColorSet → Effect
setting_effect l set =
    record {
      lamp = changed l set.color l.running l.remaining;
      reported = change_reported set.change l.looping.active;
      wait = 0;
    }

-- refused with 8 or 4, as a halt is
unfoldable pub setting_answer : Lamp → Setting → Answer
setting_answer l s =
    choose (first_cause l s.clock) l (done (setting_effect (at_clock l s.clock) (setting_set l.color s)))
