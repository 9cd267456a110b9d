use Rattle.std.proofs.Common.{◌-◌, ◌<◌, length}
use Rattle.tree.specs.Nodes.{Leads}
use Rattle.tree.proofs.arena.Tree.place.Given as goal

abbrev pub invariant-loop-c : goal.invariant-loop-c
invariant-loop-c l = (l.p < length l.self.nodes.items) × Leads l.self.nodes.items l.key 0 l.p

abbrev pub decreases-loop-c : goal.decreases-loop-c
decreases-loop-c l = length l.self.nodes.items - l.p
