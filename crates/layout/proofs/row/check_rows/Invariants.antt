use Rattle.field.specs.Layouts.{Passes, rows}
use Rattle.layout.specs.Format.{row_fields}
use Rattle.layout.proofs.row.check_rows.Given as goal

abbrev pub invariant-loop-i : goal.invariant-loop-i
invariant-loop-i g l = Passes l.size (rows (row_fields g.T.Row.layout l.timestamp l.base l.rows) l.i)
