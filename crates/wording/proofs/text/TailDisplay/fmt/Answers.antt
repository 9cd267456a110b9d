use Rattle.wording.proofs.Rows.{content_printed}
use Rattle.wording.proofs.text.TailDisplay.fmt.Goals as goal

pub returns-clause-writes : goal.returns-clause-writes
returns-clause-writes g c =
    let content = c.in-Some.content in
    rw c.in-Some.is
    (content_printed g.W.Write.write_str_gives c.args.f.now c.write.new.self c.write.result (record { second = content.second; reads = content.reads.now; writes = content.writes.now }) c.write.ensures.writes)
