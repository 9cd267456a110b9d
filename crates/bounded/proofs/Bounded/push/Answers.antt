use Rattle.std.proofs.Common.{arith}
use Rattle.bounded.proofs.Filled.{push_filled}
use Rattle.bounded.proofs.Bounded.push.Goals as goal

pub invariant_of-self : goal.invariant_of-self
invariant_of-self g c = push_filled g.row.N c.self.inside.len g.T.Blank.blank c.args.item c.self.inside.places (omega arith) c.self.invariant.1
