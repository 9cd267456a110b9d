-- What a `?` hands on takes two lines in each such answer: a lemma would have to be told the goal, and be no shorter.
use Rattle.std.proofs.Common.{◌+◌, ◌*◌, ◌++◌, length, ap}
use Rattle.std.proofs.lemmas.Result.{err_from_is_err_and}
use Rattle.values.specs.declared.timestamp.Timestamp.{Timestamp}
use Rattle.values.specs.Times.{timestamp}
use Rattle.field.proofs.Faults.{before, after, same_breaks, same_passes, same_checked, checked_after}
use Rattle.layout.specs.Numbers.{reading, writing}
use Rattle.layout.specs.Format.{count_fields, table_fields}
use Rattle.layout.proofs.row.check_content.Goals as goal

pub returns-in_err-check : goal.returns-in_err-check
returns-in_err-check c =
    let p = err_from_is_err_and c.from_residual.result c.from_residual.ensures.1 in
    rw (p.1, p.2) (before _ (same_breaks c.count_fields.ensures c.in_err-check.ensures.verdict))

pub returns-in_err-check_rows : goal.returns-in_err-check_rows
returns-in_err-check_rows c =
    let n = c.args.size in
    let content = c.args.content.now in
    let rs = content.reads.now in
    let counts = count_fields (length rs) (length content.writes.now) in
    let e = ap (λ (t : Timestamp). table_fields reading t 19 rs) c.new-timestamp.ensures in
    let p = err_from_is_err_and c.from_residual-in_err-check_rows.result c.from_residual-in_err-check_rows.ensures.1 in
    rw (p.1, p.2) (after counts (same_passes n c.count_fields.ensures c.in_ok-check.ensures.verdict) (before _ (same_breaks e c.in_err-check_rows.ensures)))

pub returns : goal.returns
returns c =
    let n = c.args.size in
    let content = c.args.content.now in
    let rs = content.reads.now in
    let ws = content.writes.now in
    let t = timestamp content.second c.args.transaction in
    let reads = table_fields reading t 19 rs in
    let writes = table_fields writing t (19 + 9 * length rs) ws in
    let r = c.check_rows-2.result in
    let same_reads = ap (λ (t : Timestamp). table_fields reading t 19 rs) c.new-timestamp.ensures in
    let same_writes = ap (λ (t : Timestamp). table_fields writing t (19 + 9 * length rs) ws) c.new-timestamp.ensures in
    checked_after n (count_fields (length rs) (length ws)) (reads ++ writes) r
    (same_passes n c.count_fields.ensures c.in_ok-check.ensures.verdict)
    (checked_after n reads writes r (same_passes n same_reads c.in_ok-check_rows.ensures) (same_checked n r same_writes c.check_rows-2.ensures))
