-- The leaves: what each is asked, and the text of its answer.
use Rattle.std.specs.Prelude.{ℕ, Bool, cond, List, [], ◌∷◌, ◌++◌}
use Rattle.matter.specs.declared.enums.EnhancedColorModeEnum.{EnhancedColorModeEnum}
use Rattle.matter.specs.Numbers.{color_mode_number}
use Rattle.matter.specs.Rules.{may_execute, color_mode_of}
use Rattle.hue.specs.Hue.{path_delta, is_tie, current_hue}
use Rattle.remaining_time.specs.declared.Written.{Written}
use Rattle.remaining_time.specs.RemainingTime.{written_quietly}
use Rattle.text.specs.Ascii.{ascii}
use Rattle.text.specs.Digits.{decimal, signed_decimal}
use Rattle.text.specs.Readers.{Reader, give, ◌then◌, number8, number16, number64, flag, Row, ◌means◌, by_name}
use Rattle.lamp_lines.specs.Enums.{direction_at, enhanced_mode_at, on_off_at}
use Rattle.call_lines.specs.declared.leaves.DeltaAsked.{DeltaAsked}
use Rattle.call_lines.specs.declared.leaves.RemainingAsked.{RemainingAsked}
use Rattle.call_lines.specs.declared.leaves.LeaveAsked.{LeaveAsked}
use Rattle.call_lines.specs.declared.leaves.Leaf.{Leaf}
use Rattle.call_lines.specs.Commands.{options_at}

-- ---- what is asked

-- <current> <target> <direction>
unfoldable pub delta_asked_at : Reader Leaf
delta_asked_at =
    give
    (λ current target direction. Leaf.Delta (record { current = current; target = target; direction = direction }))
    then number16 then number16 then direction_at

-- <old> <ms> <start>
unfoldable pub remaining_asked_at : Reader Leaf
remaining_asked_at =
    give (λ old ms start. Leaf.Remaining (record { old = old; ms = ms; is_start = start })) then number16
    then number64 then flag

-- <on|off|none> <options> <mask> <override>
unfoldable pub leave_asked_at : Reader Leaf
leave_asked_at =
    give (λ on_off options given. Leaf.Leave (record { on_off = on_off; options = options; given = given }))
    then on_off_at then number8 then options_at

-- <emode>
unfoldable pub mode_of_asked_at : Reader Leaf
mode_of_asked_at = give Leaf.ModeOf then enhanced_mode_at

-- <hue>
unfoldable pub current_hue_asked_at : Reader Leaf
current_hue_asked_at = give Leaf.CurrentHue then number16

abbrev pub leaves : List (Row Leaf)
leaves =
    "delta" means delta_asked_at
    ∷ "remaining" means remaining_asked_at
    ∷ "leave" means leave_asked_at
    ∷ "mode_of" means mode_of_asked_at
    ∷ "shown" means current_hue_asked_at
    ∷ []

-- by the leaf's name
unfoldable pub leaf_at : Reader Leaf
leaf_at = by_name leaves

-- ---- what is answered

abbrev pub bit_text : Bool → List ℕ
bit_text b = cond b (ascii "1") (ascii "0")

-- the signed delta, and whether it is a tie
unfoldable pub delta_text : DeltaAsked → List ℕ
delta_text a =
    signed_decimal (path_delta a.current a.target a.direction) ++ ascii " "
    ++ bit_text (is_tie a.current a.target a.direction)

-- whether it is reported, and the new number
unfoldable pub remaining_text : RemainingAsked → List ℕ
remaining_text a =
    let written : Written = written_quietly (record { tenths = a.old }) a.ms a.is_start in
    bit_text written.reported ++ ascii " " ++ decimal written.remaining.tenths

abbrev pub leave_text : LeaveAsked → List ℕ
leave_text a = bit_text (may_execute a.on_off a.options a.given.mask a.given.overrides)

-- the mode's number
abbrev pub mode_of_text : EnhancedColorModeEnum → List ℕ
mode_of_text emode = decimal (color_mode_number (color_mode_of emode))

-- CurrentHue of a stored hue
abbrev pub current_hue_text : ℕ → List ℕ
current_hue_text stored = decimal (current_hue stored)

unfoldable pub leaf_text : Leaf → List ℕ
leaf_text (Leaf.Delta a) = delta_text a
leaf_text (Leaf.Remaining a) = remaining_text a
leaf_text (Leaf.Leave a) = leave_text a
leaf_text (Leaf.ModeOf emode) = mode_of_text emode
leaf_text (Leaf.CurrentHue stored) = current_hue_text stored
