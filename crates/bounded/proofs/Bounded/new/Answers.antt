use Rattle.std.proofs.Common.{arith, ◌≡◌, ◌++◌, length, drop, replicate, ap, ◌∙◌}
use Rattle.bounded.specs.Filled.{filled}
use Rattle.bounded.proofs.Filled.{filled_front, still_filled}
use Rattle.bounded.proofs.Bounded.new.Goals as goal

pub invariant_of-result : goal.invariant_of-result
invariant_of-result g c =
    let xs = c.args.items.now in
    let places = c.copy_from_slice.new.self ++ drop (length xs) (replicate g.row.N c.blank-places.result) in
    let full : places ≡ filled g.row.N g.T.Blank.blank xs =
    filled_front g.row.N c.blank-places.result xs c.copy_from_slice.new.self c.copy_from_slice.ensures.after ∙ ap (λ (b : g.row.T.Denot). filled g.row.N b xs) c.blank-places.ensures
    in
    (omega arith, still_filled g.row.N g.T.Blank.blank xs places full)
