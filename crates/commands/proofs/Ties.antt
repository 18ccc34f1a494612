-- Notice 18 comes behind 17 in the answer to a move to a hue that is a tie, and in no other.
use Prim.Native.Nat.{ℕ}
use mathlib.Core.Bool.{Bool, true, false, cond, true≢false}
use mathlib.Core.List.{List, [], ◌∷◌}
use mathlib.Core.Path.{◌≡◌, refl, sym, ap, ◌∙◌}
use native.Mathlib.Omega.{arith}
use lib.ListN.{get_or}
use Rattle.matter.specs.declared.commands.Command.{Command}
use Rattle.matter.specs.declared.commands.Request.{Request}
use Rattle.matter.specs.declared.enums.DirectionEnum.{DirectionEnum}
use Rattle.matter.specs.declared.enums.OnOff.{OnOff}
use Rattle.hue.specs.Hue.{is_tie}
use Rattle.matter.proofs.Laws.{cond_both, not-ok}
use Rattle.notices.specs.Names.{task_given, hue_tie, ColorTemperatureMireds}
use Rattle.color.specs.Bounded.{mireds_move}
use Rattle.notices.specs.Notices.{only, filled, noted}
use Rattle.notices.proofs.Numerals.{Below, none, more, below-later, below-only, below_at, below-filled}
use Rattle.lamp.specs.declared.Answer.{Answer}
use Rattle.lamp.specs.declared.Call.{Call}
use Rattle.lamp.specs.declared.Lamp.{Lamp}
use Rattle.lamp.specs.Answers.{at_clock}
use Rattle.lamp.proofs.Kept.{started_below, stepped-below}
use Rattle.commands.specs.Commands.{CommandEffect, checks, command_effect}
use Rattle.commands.specs.Answers.{allowed, command_done, cause, answer}
use Rattle.commands.specs.Ties.{Aim, toward, nowhere, aim_of, aim, aim_ties, Ties}
use Rattle.commands.proofs.Built.{loop-below}
use Rattle.commands.proofs.Kept.{answer-both, effect-by}

-- a list of a call with an aim: 17, and 18 behind it where the aim ties; nothing from 18 on where it does not
record Listed (current : ℕ) (reported : List ℕ) (to : Aim) : Type 0 where
  follows : (target : ℕ) (direction : DirectionEnum) → to ≡ toward target direction → reported ≡ task_given ∷ only (is_tie current target direction) hue_tie
  low : aim_ties current to ≡ false → Below 18 reported

elsewhere : (target : ℕ) (direction : DirectionEnum) → nowhere ≡ toward target direction → ⊥
elsewhere target direction e = let z : ◌≡◌ {A = ℕ} 0 1 = cc in omega arith

without : {current : ℕ} {xs : List ℕ} → Below 18 xs → Listed current xs nowhere
without low = record { follows = λ t d e. absurd (elsewhere t d e); low = λ e. low }

-- ---- a command

-- one that can be in Stop mode is no move to a hue
stop-no-aim : (c : Command) → (checks c).stop ≡ true → aim_of c ≡ nowhere
stop-no-aim (Command.MoveToHue hue direction time) e = absurd (true≢false (sym e))
stop-no-aim (Command.MoveHue mode rate enhanced) e = refl
stop-no-aim (Command.StepHue mode size time) e = refl
stop-no-aim (Command.MoveToSaturation saturation time) e = refl
stop-no-aim (Command.MoveSaturation mode rate) e = refl
stop-no-aim (Command.StepSaturation mode size time) e = refl
stop-no-aim (Command.MoveToHueAndSaturation hue saturation time enhanced enhanced_hue) e = absurd (true≢false (sym e))
stop-no-aim (Command.EnhancedMoveToHue hue direction time) e = absurd (true≢false (sym e))
stop-no-aim (Command.EnhancedMoveHue mode rate) e = refl
stop-no-aim (Command.EnhancedStepHue mode size time) e = refl
stop-no-aim (Command.MoveToColorTemperature mireds time) e = refl
stop-no-aim (Command.MoveColorTemperature mode rate min max) e = refl
stop-no-aim (Command.StepColorTemperature mode size time min max) e = refl
stop-no-aim (Command.ColorLoopSet flags action direction time start_hue) e = refl
stop-no-aim Command.StopMoveStep e = refl

seventeen : Below 18 (task_given ∷ [])
seventeen = more {x = 17} (omega arith) none

effect-listed : (l : Lamp) (c : Command) → Listed l.color.hue (command_effect l c).reported (aim_of c)
effect-listed l c =
    effect-by l (λ e. Listed l.color.hue e.reported (aim_of c)) c
    (λ task. record { follows = λ t d e. ap (λ (to : Aim). task_given ∷ only (aim_ties l.color.hue to) hue_tie) e; low = λ e. rw e seventeen })
    (λ flags action direction time hue e. rw e (without (loop-below 18 (omega arith) l flags action direction time hue)))

-- the aim of a command that may execute
abbrev aimed : Lamp → Request → OnOff → Aim
aimed l r on_off = cond (allowed l r on_off) (aim_of r.command) nowhere

neither : (b : Bool) → cond b nowhere nowhere ≡ nowhere
neither true = refl
neither false = refl

done-listed : (l : Lamp) (r : Request) (on_off : OnOff) → Listed l.color.hue (command_done l r on_off).reported (aimed l r on_off)
done-listed l r on_off =
    cond_both (λ (e : CommandEffect). Listed l.color.hue e.reported (aimed l r on_off)) (checks r.command).stop _ _
    (λ s. rw (stop-no-aim r.command s, neither (allowed l r on_off)) (without seventeen))
    (λ s. cond_both (λ (e : CommandEffect). Listed l.color.hue e.reported (aimed l r on_off)) (allowed l r on_off) _ _
    (λ a. rw a (effect-listed l r.command))
    (λ a. rw a (without none)))

-- ---- every call

-- the list of an answer
record Noted (current : ℕ) (a : Answer) (to : Aim) : Type 0 where
  reported : List ℕ
  places : a.notices ≡ noted reported
  listed : Listed current reported to

call-noted : (l : Lamp) (x : Call) → Noted l.color.hue (answer l x) (aim l x)
call-noted l (Call.Command r on_off clock) =
    let x : Call = Call.Command r on_off clock in
    answer-both l (λ a. Noted l.color.hue a (aim l x)) x
    (λ e. record { reported = (command_done (at_clock l clock) r on_off).reported; places = refl; listed = rw e (done-listed (at_clock l clock) r on_off) })
    (λ n. record { reported = []; places = refl; listed = rw (not-ok (cause l x) n) (without none) })
call-noted l (Call.Start task clock) =
    answer-both l (λ a. Noted l.color.hue a nowhere) (Call.Start task clock)
    (λ e. record { reported = _; places = refl; listed = without (below-later (omega arith) (started_below (at_clock l clock) task)) })
    (λ n. record { reported = []; places = refl; listed = without none })
call-noted l (Call.Step clock) =
    answer-both l (λ a. Noted l.color.hue a nowhere) (Call.Step clock)
    (λ e. record { reported = _; places = refl; listed = without (below-later (omega arith) (stepped-below (at_clock l clock) l.running)) })
    (λ n. record { reported = []; places = refl; listed = without none })
call-noted l (Call.Halt clock) =
    answer-both l (λ a. Noted l.color.hue a nowhere) (Call.Halt clock)
    (λ e. record { reported = []; places = refl; listed = without none })
    (λ n. record { reported = []; places = refl; listed = without none })
call-noted l (Call.SetBounds bounds clock) =
    answer-both l (λ a. Noted l.color.hue a nowhere) (Call.SetBounds bounds clock)
    (λ e. record { reported = _; places = refl; listed = without (below-only (mireds_move l.color bounds) ColorTemperatureMireds (omega arith)) })
    (λ n. record { reported = []; places = refl; listed = without none })

alone : (current : ℕ) (a : Answer) (to : Aim) → Noted current a to → (place : ℕ) → get_or a.notices.places place 0 ≡ hue_tie → (tie : Bool) → aim_ties current to ≡ tie → tie ≡ true
alone current a to n place e true f = refl
alone current a to n place e false f =
    let there : get_or (filled n.reported) place 0 ≡ hue_tie = rw n.places at e in
    absurd (omega (arith, below_at (omega arith) (below-filled (omega arith) (n.listed.low f)) place))

pub ties : (l : Lamp) (x : Call) → Ties l x
ties l x =
    let n : Noted l.color.hue (answer l x) (aim l x) = call-noted l x in
    record {
      follows = λ target direction e. n.places ∙ ap noted (n.listed.follows target direction e);
      alone = λ place e. alone l.color.hue (answer l x) (aim l x) n place e _ refl;
    }
