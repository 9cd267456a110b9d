use Rattle.std.proofs.Common.{rules}
use Rattle.tree.proofs.Growing.{Written, begins, refuses, changes, adds}
use Rattle.tree.proofs.TreeStore.put.Goals as goal
use Rattle.tree.proofs.TreeStore.put.Goals.{After-change, After-grow}

-- the tree with another row at the node, and with a new node
changed : (c : After-change) → let s = c.args.self.now in Written s.nodes.items c.args.key c.args.row s.capacity.rows c.change.new.nodes.items
changed c = let s = c.args.self.now in changes s.linked s.reached c.place-p.ensures s.capacity.rows c.args.row (search rules) s.bound c.change.ensures

added : (c : After-grow) → let s = c.args.self.now in Written s.nodes.items c.args.key c.args.row s.capacity.rows c.grow.new.nodes.items
added c = let s = c.args.self.now in adds s.linked s.reached c.place-p.ensures s.capacity.rows c.args.row (search rules) (search rules) c.grow.ensures

pub invariant_of-self : goal.invariant_of-self
invariant_of-self c =
    let s = c.args.self.now in
    let after = begins s.nodes.items c.args.key c.args.row s.capacity.rows (search rules) (s.capacity.bounds.0) c.leaf.ensures c.push.ensures.items in
    record { reached = after.reached; linked = after.linked; bound = after.bound }

pub invariant_of-self-then-deref-p : goal.invariant_of-self-then-deref-p
invariant_of-self-then-deref-p c =
    let after = changed (goal.at.invariant_of-self-then-deref-p c).After-change in
    record { reached = after.reached; linked = after.linked; bound = after.bound }

pub returns-then-deref-p : goal.returns-then-deref-p
returns-then-deref-p c = (changed (goal.at.returns-then-deref-p c).After-change).put

pub returns-then-len-rows : goal.returns-then-len-rows
returns-then-len-rows c =
    let s = c.args.self.now in
    refuses s.linked s.reached c.place-p.ensures s.capacity.rows c.args.row (search rules) (search rules)

pub invariant_of-self-2 : goal.invariant_of-self-2
invariant_of-self-2 c =
    let after = added (goal.at.invariant_of-self-2 c).After-grow in
    record { reached = after.reached; linked = after.linked; bound = after.bound }

pub returns : goal.returns
returns c = (added (goal.at.returns c).After-grow).put
