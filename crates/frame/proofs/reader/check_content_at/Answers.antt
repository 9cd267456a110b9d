-- What a `?` hands on takes two lines in each such answer: a lemma would have to be told the goal, and be no shorter.
use Rattle.std.proofs.Common.{◌*◌, get_or, drop, sym, ◌∙◌}
use Rattle.std.proofs.lemmas.Result.{err_from_is_err_and}
use Rattle.field.proofs.Faults.{before, same_breaks}
use Rattle.layout.specs.Numbers.{reading, writing}
use Rattle.layout.specs.Format.{count_fields}
use Rattle.layout.proofs.Rows.{length_rows}
use Rattle.frame.proofs.reader.check_content_at.Goals as goal

pub returns-in_err-check : goal.returns-in_err-check
returns-in_err-check c =
    let b = c.args.bytes.now in
    let r = c.counts_at-reads.ensures.reads ∙ sym (length_rows reading (get_or b 17 0) (drop 19 b)) in
    let w = c.counts_at-reads.ensures.writes ∙ sym (length_rows writing (get_or b 18 0) (drop (9 * get_or b 17 0) (drop 19 b))) in
    let p = err_from_is_err_and c.from_residual.result c.from_residual.ensures.1 in
    rw (p.1, p.2) (before _ (same_breaks (c.count_fields.ensures ∙ (λ i. count_fields (r i) (w i))) c.in_err-check.ensures.verdict))
