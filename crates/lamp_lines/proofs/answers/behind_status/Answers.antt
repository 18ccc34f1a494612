-- The parts, one after the other.
use Rattle.std.proofs.lemmas.List.Sums.{fold-append}
use Rattle.lamp_lines.specs.Answers.{behind_status}
use Rattle.lamp_lines.proofs.answers.behind_status.Goals as goal

pub returns : goal.returns
unfolding behind_status
returns g c = rw (c.ending.ensures, c.bar-2.ensures, c.reported.ensures, c.spaced_all.ensures, c.lamp_numbers.ensures, c.bar.ensures) (simp fold-append)
