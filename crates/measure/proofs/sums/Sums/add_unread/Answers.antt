-- The words of the lamp, then those of no answer.
use Rattle.notices.specs.Notices.{filled}
use Rattle.measure.proofs.sums.Sums.add_unread.Goals as goal

pub returns : goal.returns
unfolding filled
returns c = rw (c.add_all.ensures, c.lamp_words.ensures, c.from.ensures) at c.add_all-2.ensures
