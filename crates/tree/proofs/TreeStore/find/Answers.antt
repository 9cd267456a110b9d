use Rattle.std.proofs.Common.{rules}
use Rattle.tree.proofs.Growing.{found}
use Rattle.tree.proofs.TreeStore.find.Goals as goal

pub returns : goal.returns
returns c =
    let s = c.args.self.now in
    let f = found s.linked s.reached c.place-p.ensures in
    search rules
