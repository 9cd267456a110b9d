use Rattle.std.proofs.Common.{arith, ◌≡◌, ◌++◌, ◌+◌, length, refl, sym, ap, ◌∙◌}
use Rattle.bounded.proofs.Filled.{extended_front, extend_filled}
use Rattle.bounded.specs.Count.{count_filled}
use Rattle.bounded.proofs.Bounded.extend.Goals as goal

pub invariant_of-self : goal.invariant_of-self
invariant_of-self g c =
    let b = c.self.inside in
    let items = c.args.items.now in
    extend_filled g.row.N b.len (b.len + length items) g.T.Blank.blank items c.copy_from_slice.new.self b.places c.self.told (omega arith) refl c.copy_from_slice.ensures.after c.self.invariant.1

pub returns : goal.returns
returns g c =
    let b = c.self.inside in
    let items = c.args.items.now in
    let long : length c.args.self.now ≡ b.len = sym (ap length c.self.view_is) ∙ count_filled g.row.N b.len g.T.Blank.blank b.places c.self.invariant.0 c.self.invariant.1 in (
      omega arith,
      extended_front g.row.N b.len (b.len + length items) g.T.Blank.blank items c.copy_from_slice.new.self b.places c.self.told (omega arith) refl c.copy_from_slice.ensures.after
          ∙ ap (λ xs. xs ++ items) c.self.view_is,
    )
