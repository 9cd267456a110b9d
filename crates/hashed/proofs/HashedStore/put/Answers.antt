use Rattle.std.proofs.Common.{refl, inl, inr, set, ◌∙◌, ap, not, arith, rules}
use Rattle.hashed.specs.Places.{holding}
use Rattle.hashed.proofs.Storing.{Spot, Written, spot, refuses, writes}
use Rattle.hashed.proofs.HashedStore.put.Goals as goal
use Rattle.hashed.proofs.HashedStore.put.Goals.{then-is_none+else-self-rows, else-is_none, After-place-p, Joined-is_none}

-- where the search ends
here : (c : After-place-p) → Spot c.args.self.now.slots c.args.key c.place-p.result
here c = spot c.args.self.now c.args.key c.place-p.result (search rules) c.place-p.ensures.ends

-- the table with the row there
after : (c : Joined-is_none) → let s = c.args.self.now in Spot s.slots c.args.key c.place-p.result
    → Written s.slots s.held c.args.key c.args.row s.capacity.rows (set s.slots c.place-p.result (holding c.args.key c.args.row)) c.if-is_none.self.1.1.0
after c w =
    let s = c.args.self.now in
    writes w s.held s.capacity.rows c.args.row _ refl s.counts (elim c.if-is_none.branch [
      | then-is_none+else-self-rows b ↦ inl (c.is_none.ensures ∙ ap not b.if-is_none.true, omega (arith, s.bound), ap (λ m. m.1.1.0) b.self-is)
      | else-is_none b ↦ inr (c.is_none.ensures ∙ ap not b.if-is_none.false, s.bound, ap (λ m. m.1.1.0) b.self-is)
    ])

pub returns-then-self-rows : goal.returns-then-self-rows
returns-then-self-rows c =
    let s = c.args.self.now in
    refuses (here (goal.at.returns-then-self-rows c).After-place-p) s.held s.capacity.rows c.args.row (c.is_none.ensures ∙ ap not c.if-is_none.true) (omega arith)

pub invariant_of-self-2 : goal.invariant_of-self-2
invariant_of-self-2 c =
    let w = after c (here (goal.at.invariant_of-self-2 c).After-place-p) in
    record { reached = w.reached; counts = w.counts; bound = w.bound }

pub returns : goal.returns
returns c = let g = goal.at.returns c in (after g.Joined-is_none (here g.After-place-p)).put
