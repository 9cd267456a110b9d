use Rattle.std.proofs.Common.{arith}
use Rattle.wording.proofs.Rows.{row_printed, all_printed}
use Rattle.wording.proofs.text.ListedDisplay.fmt.Goals as goal

pub loop-row-preserved : goal.loop-row-preserved
loop-row-preserved g c =
    row_printed g.T.Display.output g.W.Write.write_str_gives c.write.new.self c.loop-row.f c.write-in-loop-row.new.self _ c.loop-row.row-index c.row-item.result
    c.loop-row-test.true c.row-item.is c.loop-row.invariant c.in_ok-write-2.ensures.writes

pub returns-after-loop-row-clause-writes : goal.returns-after-loop-row-clause-writes
returns-after-loop-row-clause-writes g c =
    all_printed g.T.Display.output g.W.Write.write_str_gives c.args.f.now c.write.new.self c.loop-row.f c.args.self.now.0.now c.loop-row.row-index c.first-item.result
    (omega arith) (omega arith) c.first-item.is c.in_ok-write.ensures.writes c.loop-row.invariant
