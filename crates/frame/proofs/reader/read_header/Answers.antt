-- What a `?` hands on takes two lines in each such answer: a lemma would have to be told the goal, and be no shorter.
use Rattle.std.proofs.Common.{◌∙◌}
use Rattle.std.proofs.lemmas.Result.{err_from_is_err_and}
use Rattle.field.proofs.Faults.{before, after, same_breaks}
use Rattle.layout.specs.Format.{header_fields}
use Rattle.layout.specs.Frames.{mark_fields}
use Rattle.frame.proofs.reader.read_header.Goals as goal

pub returns-in_err-rest : goal.returns-in_err-rest
returns-in_err-rest c =
    let p = err_from_is_err_and c.from_residual.result c.from_residual.ensures.1 in
    rw (p.1, p.2) (before _ c.in_err-rest.ensures)

pub returns-in_err-check : goal.returns-in_err-check
returns-in_err-check c =
    let e = c.header_fields.ensures ∙ (λ i. header_fields (c.header_of-header.ensures c.args.bytes.now c.in_ok-rest.ensures.1 i) ((c.from-flag.ensures ∙ c.byte_at.ensures) i)) in
    let p = err_from_is_err_and c.from_residual-in_err-check.result c.from_residual-in_err-check.ensures.1 in
    rw (p.1, p.2) (after (mark_fields c.args.bytes.now) c.in_ok-rest.ensures.0 (same_breaks e c.in_err-check.ensures.verdict))
