-- The notices of a change, one after the other, are its list.
use Rattle.color.proofs.Laws.{change-in-front}
use Rattle.color.proofs.cons_attribute.Goals as goal

pub returns : goal.returns
returns c =
    rw
    (c.note_if-4.ensures, c.cons_if.ensures, c.note_if-3.ensures, c.note_if-2.ensures, c.note_if.ensures, c.note.ensures, change-in-front)
