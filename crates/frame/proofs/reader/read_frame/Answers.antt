use Rattle.frame.proofs.Read.{yields, one_frame}
use Rattle.frame.proofs.reader.read_frame.Goals as goal

pub returns : goal.returns
returns c = record { reads = c.read.ensures; yields = yields c.args.bytes.now c.read.result c.read.ensures; laws = one_frame }
