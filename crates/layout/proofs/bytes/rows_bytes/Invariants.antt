use Rattle.std.proofs.Common.{◌≡◌, ◌≤◌, length, take}
use Rattle.layout.specs.Numbers.{laid}
use Rattle.layout.proofs.bytes.rows_bytes.Given as goal

abbrev pub invariant-loop-row : goal.invariant-loop-row
invariant-loop-row g l = (l.bytes ≡ laid g.T.Row.layout (take l.row-index l.rows)) × (length l.bytes ≤ g.row.N)
