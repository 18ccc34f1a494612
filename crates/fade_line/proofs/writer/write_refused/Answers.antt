-- All of the refusal where there is room, else nothing.
use Rattle.std.proofs.Common.{sym, rules}
use Rattle.text.proofs.BufferLaws.{same_slice}
use Rattle.fade_line.specs.Text.{refused_text}
use Rattle.fade_line.proofs.TextLaws.{wrote_nothing, put_fitting, refused-short}
use Rattle.fade_line.proofs.writer.write_refused.Goals as goal

pub returns-then-not-has_room : goal.returns-then-not-has_room
returns-then-not-has_room c =
    let none = wrote_nothing c.args.out.now c.args.at (refused_text c.args.number) (sym c.if-not-has_room.ensures) in
    record { value = none.place; out_after = none.bytes }

pub returns : goal.returns
returns c =
    let n = c.args.number in
    let all = put_fitting _ (refused_text n) c.refusal.ensures (sym c.if-not-has_room.ensures) (refused-short n) in
    record { value = all.place; out_after = search (rules, same_slice) }
