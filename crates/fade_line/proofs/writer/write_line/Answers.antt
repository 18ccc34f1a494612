-- All of the line where there is room, else nothing.
use Rattle.std.proofs.Common.{◌≡◌, ◌≤◌, length, sym, arith, rules, length-take}
use Rattle.text.proofs.BufferLaws.{same_slice}
use Rattle.fade_line.specs.Text.{numbers, line_text}
use Rattle.fade_line.proofs.TextLaws.{wrote_nothing, put_fitting, line-short}
use Rattle.fade_line.proofs.writer.write_line.Goals as goal

pub returns-then-not-has_room : goal.returns-then-not-has_room
returns-then-not-has_room c =
    let none = wrote_nothing c.args.out.now c.args.at (line_text c.args.line) (sym c.if-not-has_room.ensures) in
    record { value = none.place; out_after = none.bytes }

pub returns : goal.returns
returns c =
    let line = c.args.line in
    let sixteen : length line.notices.places ≡ 16 = search rules in
    let few : length (numbers line.notices) ≤ 16 = simp length-take (omega arith) in
    let all = put_fitting _ (line_text line) c.report.ensures (sym c.if-not-has_room.ensures) (line-short line few) in
    record { value = all.place; out_after = search (rules, same_slice) }
