-- The words of a bad line, where there is room for a line.
use Rattle.std.proofs.Common.{sym, arith}
use Rattle.fade_line.specs.Text.{bad_line_text}
use Rattle.fade_line.proofs.TextLaws.{wrote_nothing, wrote-fitting}
use Rattle.fade_line.proofs.writer.write_bad_line.Goals as goal

pub returns-then-not-has_room : goal.returns-then-not-has_room
returns-then-not-has_room c =
    let none = wrote_nothing c.args.out.now c.args.at bad_line_text (sym c.if-not-has_room.ensures) in
    record { value = none.place; out_after = none.bytes }

pub returns : goal.returns
returns c =
    let all = wrote-fitting c.args.out.now c.args.at bad_line_text (sym c.if-not-has_room.ensures) (omega arith) c.write.ensures in
    record { value = all.place; out_after = all.bytes }
