-- The setters: document 01, leaf 5.
use Rattle.std.specs.Prelude.{ℕ, ◌+◌, Bool, false, not, cond, ◌&&◌, ◌||◌, List, [], ◌∷◌, ◌++◌, eqb, leb}
use Rattle.std.specs.Prelude.{Option, Some, None}
use Rattle.matter.specs.declared.enums.ColorModeEnum.{ColorModeEnum}
use Rattle.matter.specs.declared.enums.EnhancedColorModeEnum.{EnhancedColorModeEnum}
use Rattle.notices.specs.declared.Notice.{Notice}
use Rattle.notices.specs.Notices.{only}
use Rattle.notices.specs.Names.{EnhancedCurrentHue, ColorMode, EnhancedColorMode, marked_dirty, scenes_notified}
use Rattle.notices.specs.Names.{notice_number}
use Rattle.color.specs.declared.Color.{Color}
use Rattle.color.specs.declared.Change.{Change}
use Rattle.color.specs.declared.ColorSet.{ColorSet}

-- "notices of the attribute and of both modes come at an end, or one second or more after its last"
abbrev pub due : Bool → ℕ → ℕ → Bool
due end stamp clock = end || leb (stamp + 1000) clock

-- "With every such change 13 comes first and 14 last. Between them, notices of the attribute and of both modes"; "13 is
-- withheld in the setters while the loop is active"
abbrev pub change_notices : Bool → Bool → List ℕ → List ℕ
change_notices active reported attributes =
    only (not active) marked_dirty
    ++ (cond reported (attributes ++ (ColorMode ∷ EnhancedColorMode ∷ [])) [] ++ (scenes_notified ∷ []))

-- "An equal number, not at the end of a transition, changes nothing and notifies nothing, modes included. Otherwise
-- number and modes are set": from the old number, the new one and whether it is an end
abbrev pub same : ℕ → ℕ → Bool → Bool
same old new end = eqb old new && not end

-- the enhanced mode of a hue
abbrev pub hue_mode : Bool → EnhancedColorModeEnum
hue_mode enhanced =
    cond enhanced EnhancedColorModeEnum.EnhancedCurrentHueAndCurrentSaturation
    EnhancedColorModeEnum.CurrentHueAndCurrentSaturation

-- "`set_saturation` keeps an enhanced mode that is already a hue one"
abbrev pub kept_hue_mode : EnhancedColorModeEnum → EnhancedColorModeEnum
kept_hue_mode EnhancedColorModeEnum.CurrentHueAndCurrentSaturation =
    EnhancedColorModeEnum.CurrentHueAndCurrentSaturation
kept_hue_mode EnhancedColorModeEnum.CurrentXAndCurrentY = EnhancedColorModeEnum.CurrentHueAndCurrentSaturation
kept_hue_mode EnhancedColorModeEnum.ColorTemperatureMireds = EnhancedColorModeEnum.CurrentHueAndCurrentSaturation
kept_hue_mode EnhancedColorModeEnum.EnhancedCurrentHueAndCurrentSaturation =
    EnhancedColorModeEnum.EnhancedCurrentHueAndCurrentSaturation

-- what a change reports, with the loop active or not: nothing where there is none
abbrev pub change_reported : Option Change → Bool → List ℕ
change_reported None active = []
change_reported (Some change) active =
    change_notices active change.due (notice_number change.attribute ∷ only change.enhanced EnhancedCurrentHue)

-- a setter's change, from whether the number is the same and whether the attribute is due
abbrev pub change_of : Bool → Bool → Notice → Bool → Option Change
change_of same due attribute enhanced =
    cond same None (Some (record { due = due; attribute = attribute; enhanced = enhanced }))

-- where nothing is set
abbrev pub no_change : Option Change
no_change = None

-- `set_hue` at this clock: the colour after it
unfoldable pub hue_set : Color → ℕ → Bool → Bool → ℕ → Color
hue_set c new end enhanced clock =
    cond (same c.hue new end) c
    (record {
      hue = new;
      saturation = c.saturation;
      mireds = c.mireds;
      mode = ColorModeEnum.CurrentHueAndCurrentSaturation;
      emode = hue_mode enhanced;
      stamps =
          record {
            hue = cond (due end c.stamps.hue clock) clock c.stamps.hue;
            saturation = c.stamps.saturation;
            mireds = c.stamps.mireds;
          };
    })

-- the change
abbrev pub hue_change : Color → ℕ → Bool → Bool → ℕ → Option Change
hue_change c new end enhanced clock =
    change_of (same c.hue new end) (due end c.stamps.hue clock) Notice.CurrentHue enhanced

-- both, as `set_hue` answers them
abbrev pub set_hue : Color → ℕ → Bool → Bool → ℕ → ColorSet
set_hue c new end enhanced clock =
    record { color = hue_set c new end enhanced clock; change = hue_change c new end enhanced clock }

-- what the change reports, with the loop active or not
abbrev pub hue_reported : Color → ℕ → Bool → Bool → ℕ → Bool → List ℕ
hue_reported c new end enhanced clock active = change_reported (hue_change c new end enhanced clock) active

-- `set_saturation` at this clock: the colour after it
unfoldable pub saturation_set : Color → ℕ → Bool → ℕ → Color
saturation_set c new end clock =
    cond (same c.saturation new end) c
    (record {
      hue = c.hue;
      saturation = new;
      mireds = c.mireds;
      mode = ColorModeEnum.CurrentHueAndCurrentSaturation;
      emode = kept_hue_mode c.emode;
      stamps =
          record {
            hue = c.stamps.hue;
            saturation = cond (due end c.stamps.saturation clock) clock c.stamps.saturation;
            mireds = c.stamps.mireds;
          };
    })

-- the change
abbrev pub saturation_change : Color → ℕ → Bool → ℕ → Option Change
saturation_change c new end clock =
    change_of (same c.saturation new end) (due end c.stamps.saturation clock) Notice.CurrentSaturation false

-- both, as `set_saturation` answers them
abbrev pub set_saturation : Color → ℕ → Bool → ℕ → ColorSet
set_saturation c new end clock =
    record { color = saturation_set c new end clock; change = saturation_change c new end clock }

-- what it reports
abbrev pub saturation_reported : Color → ℕ → Bool → ℕ → Bool → List ℕ
saturation_reported c new end clock active = change_reported (saturation_change c new end clock) active

-- `set_color_temperature` at this clock: the colour after it
unfoldable pub mireds_set : Color → ℕ → Bool → ℕ → Color
mireds_set c new end clock =
    cond (same c.mireds new end) c
    (record {
      hue = c.hue;
      saturation = c.saturation;
      mireds = new;
      mode = ColorModeEnum.ColorTemperatureMireds;
      emode = EnhancedColorModeEnum.ColorTemperatureMireds;
      stamps =
          record {
            hue = c.stamps.hue;
            saturation = c.stamps.saturation;
            mireds = cond (due end c.stamps.mireds clock) clock c.stamps.mireds;
          };
    })

-- the change
abbrev pub mireds_change : Color → ℕ → Bool → ℕ → Option Change
mireds_change c new end clock =
    change_of (same c.mireds new end) (due end c.stamps.mireds clock) Notice.ColorTemperatureMireds false

-- both, as `set_color_temperature` answers them
abbrev pub set_mireds : Color → ℕ → Bool → ℕ → ColorSet
set_mireds c new end clock =
    record { color = mireds_set c new end clock; change = mireds_change c new end clock }

-- what it reports
abbrev pub mireds_reported : Color → ℕ → Bool → ℕ → Bool → List ℕ
mireds_reported c new end clock active = change_reported (mireds_change c new end clock) active
