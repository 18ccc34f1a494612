-- An answer by its number is written as by its verdict, and any number is.
use Rattle.std.proofs.Common.{◌≡◌, ◌++◌, ◌∷◌, [], List, ℕ, false, refl, ap}
use Rattle.std.specs.Prelude.{eqb}
use Rattle.std.specs.Prelude.{Ok, Err}
use Rattle.matter.specs.Causes.{Verdict, number_of, refusal_number}
use Rattle.matter.specs.declared.refusals.Refusal.{Refusal}
use Rattle.lamp.specs.Answers.{numbered_answer}
use Rattle.lamp.specs.declared.Answer.{Answer}
use Rattle.text.specs.Ascii.{ascii}
use Rattle.text.specs.Digits.{decimal, spaced, spaced_all}
use Rattle.lamp_lines.specs.Answers.{status_text, numbered_status_text, behind_status, answer_text, numbered_answer_text}

refused-numbered : (cause : Refusal) → numbered_status_text (refusal_number cause) ≡ status_text (Err cause)
refused-numbered Refusal.ConstraintError = refl
refused-numbered Refusal.InvalidCommand = refl
refused-numbered Refusal.Clock = refl
refused-numbered Refusal.CrossedBounds = refl
refused-numbered Refusal.InvalidTask = refl
refused-numbered Refusal.StepWhileIdle = refl
refused-numbered Refusal.InvalidLamp = refl
refused-numbered Refusal.ShortSlice = refl
refused-numbered Refusal.NoPlace = refl
refused-numbered Refusal.MiredTaskRuns = refl

pub status-numbered : (v : Verdict) → numbered_status_text (number_of v) ≡ status_text v
status-numbered (Ok u) = refl
status-numbered (Err cause) = refused-numbered cause

pub answer-numbered : (a : Answer) → numbered_answer_text (numbered_answer a) ≡ answer_text a
unfolding numbered_answer_text answer_text
answer-numbered a = ap (λ (status : List ℕ). status ++ behind_status a.lamp a.notices a.task a.wait) (status-numbered a.verdict)

-- a number that no cause has, as any but 0
pub numbered-refused : (number : ℕ) → eqb number 0 ≡ false → numbered_status_text number ≡ ascii "refused" ++ spaced_all (number ∷ [])
numbered-refused number e = simp e

pub no-cause : numbered_status_text 100 ≡ ascii "refused 100"
unfolding decimal spaced spaced_all
no-cause = refl
