-- What is put into the sum is summed, of no more lamps than there are.
use Rattle.std.proofs.Common.{◌≡◌, min, length, rules, arith}
use Rattle.row_lines.specs.RowAnswers.{row_sum}
use Rattle.row_lines.proofs.Sums.{put_summed, take_places}
use Rattle.row_lines.proofs.answers.sum_of.Goals as goal

pub returns : goal.returns
unfolding row_sum
returns c =
    let row = c.args.row in
    let all : length row.lamps ≡ 32 = search rules in
    let placed : c.min-placed.result ≡ min row.count 32 = omega arith in
    rw (c.all_lamps.ensures, put_summed, placed, take_places row.lamps row.count all)
