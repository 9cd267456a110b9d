use Rattle.std.proofs.Common.{◌≡◌, ◌*◌, drop}
use Rattle.layout.specs.Numbers.{width, rows_in}
use Rattle.layout.proofs.row.rows_in.Given as goal

abbrev pub invariant-loop : goal.invariant-loop
invariant-loop g l =
    (l.rows ≡ rows_in g.T.Row.layout l.counter l.initial.bytes) × (l.rest ≡ drop (width g.T.Row.layout * l.counter) l.initial.bytes)
