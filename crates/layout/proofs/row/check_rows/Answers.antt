-- What a `?` hands on takes two lines in each such answer: a lemma would have to be told the goal, and be no shorter.
use Rattle.std.proofs.Common.{length}
use Rattle.std.proofs.lemmas.Result.{err_from_is_err_and}
use Rattle.field.proofs.Faults.{same_breaks, same_passes}
use Rattle.field.proofs.Rows.{rows_break, rows_more}
use Rattle.layout.specs.Format.{row_fields}
use Rattle.layout.proofs.Tables.{row_at}
use Rattle.layout.proofs.row.check_rows.Goals as goal

pub returns-in_err-check : goal.returns-in_err-check
returns-in_err-check g c =
    let l = g.T.Row.layout in
    let row = row_fields l c.args.timestamp c.args.base c.args.rows.now in
    let same = row_at l c.args.timestamp c.args.base c.args.rows.now c.loop-i-test.true c.index-rows-i.is c.row_fields.ensures in
    let p = err_from_is_err_and c.from_residual.result c.from_residual.ensures.1 in
    rw (p.1, p.2) (rows_break row c.loop-i.i (length c.args.rows.now) c.loop-i-test.true c.loop-i.invariant (same_breaks same c.in_err-check.ensures.verdict))

pub loop-i-preserved : goal.loop-i-preserved
loop-i-preserved g c =
    let l = g.T.Row.layout in
    let row = row_fields l c.args.timestamp c.args.base c.args.rows.now in
    let same = row_at l c.args.timestamp c.args.base c.args.rows.now c.loop-i-test.true c.index-rows-i.is c.row_fields.ensures in
    rows_more c.args.size row c.loop-i.i c.loop-i.invariant (same_passes c.args.size same c.in_ok-check.ensures.verdict)
