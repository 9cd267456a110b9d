use Rattle.std.proofs.Common.{◌≡◌, rules, ◌<◌, length, ap, ◌∙◌, arith}
use Rattle.bounded.proofs.Room.{pushed, has_room}
use Rattle.layout.proofs.Rows.{length_rows}
use Rattle.layout.proofs.Tables.{row_next, row_passed}
use Rattle.layout.proofs.row.rows_in.Goals as goal

pub unwrap-requires : goal.unwrap-requires
unwrap-requires g c =
    let n = ap length c.loop.invariant.0 ∙ length_rows g.T.Row.layout c.loop.counter c.args.bytes.now in
    has_room 4 c.read.result c.loop.rows c.push.new.self c.push.result (omega arith) c.push.ensures

pub loop-preserved : goal.loop-preserved
loop-preserved g c =
    let l = g.T.Row.layout in
    let i = c.loop.counter in
    let n = ap length c.loop.invariant.0 ∙ length_rows l i c.args.bytes.now in
    let read : c.read.result ≡ l.row c.loop.rest.now = search rules in
    let few : length c.loop.rows < 4 = omega arith in (
      pushed 4 c.read.result c.loop.rows c.push.new.self c.push.result few c.push.ensures ∙ row_next l i c.args.bytes.now c.loop.rest.now c.read.result c.loop.rows c.loop.invariant.0 c.loop.invariant.1 read,
      row_passed l i c.REST.result c.args.bytes.now c.loop.rest.now c.tail_at-rest.result.now (c.REST.ensures ∙ g.met.T.Row.rest) c.loop.invariant.1 c.tail_at-rest.ensures,
    )
