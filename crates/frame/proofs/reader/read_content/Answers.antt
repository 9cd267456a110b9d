use Rattle.std.proofs.Common.{◌*◌, length, get_or, drop, arith}
use Rattle.layout.specs.Numbers.{reading, writing}
use Rattle.layout.specs.Frames.{content_in}
use Rattle.layout.proofs.Rows.{length_rows}
use Rattle.layout.proofs.Whole.{whole_part}
use Rattle.frame.proofs.reader.read_content.Goals as goal

pub parts_at-requires : goal.parts_at-requires
parts_at-requires c =
    let b = c.args.bytes.now in
    let o = whole_part (length b) (get_or b 6 0) (content_in b) c.in_ok-check_content_at.ensures in
    let lr = length_rows reading (get_or b 17 0) (drop 19 b) in
    let lw = length_rows writing (get_or b 18 0) (drop (9 * get_or b 17 0) (drop 19 b)) in
    omega (arith, o.few_reads, o.few_writes, o.room)
