use Rattle.std.proofs.Common.{rules}
use Rattle.tree.specs.Nodes.{here}
use Rattle.tree.proofs.Descents.{follows}
use Rattle.tree.proofs.arena.Tree.place.Goals as goal

pub loop-c-init : goal.loop-c-init
loop-c-init c = (c.requires, here)

pub loop-c-preserved : goal.loop-c-preserved
loop-c-preserved c =
    let s = c.args.self.now in
    follows s.nodes.items s.linked c.args.key c.loop-c.p c.in-Some.c c.loop-c.invariant (search rules)
