-- What a `?` hands on takes two lines in each such answer: a lemma would have to be told the goal, and be no shorter.
use Rattle.std.proofs.Common.{◌≡◌, ℕ, List, Option, sym, ap, ◌∙◌}
use Rattle.std.proofs.lemmas.Result.{err_from_is_err_and}
use Rattle.field.specs.declared.Field.{Field}
use Rattle.field.proofs.Faults.{before, same_breaks, same_passes, same_checked, checked_after}
use Rattle.layout.specs.declared.fields.ContentFields.{ContentFields}
use Rattle.layout.specs.declared.fields.Fields.{Fields}
use Rattle.layout.specs.Values.{flag, part_given}
use Rattle.layout.specs.Format.{header_fields, part_fields}
use Rattle.encode.proofs.writer.check_fields.Goals as goal

-- the rules of the header, as they are computed
header_same : (f : Fields) (n : ℕ) (xs : List Field) → n ≡ flag (part_given f.content) → xs ≡ header_fields f.header n → xs ≡ header_fields f.header (flag (part_given f.content))
header_same f n xs flag same = same ∙ ap (header_fields f.header) flag

pub returns-in_err-check : goal.returns-in_err-check
returns-in_err-check c =
    let e = header_same c.args.fields.now c.flag.result c.header_fields.result c.flag.ensures c.header_fields.ensures in
    let p = err_from_is_err_and c.from_residual.result c.from_residual.ensures.1 in
    rw (p.1, p.2) (before _ (same_breaks e c.in_err-check.ensures.verdict))

pub returns-in-Some : goal.returns-in-Some
returns-in-Some c =
    let f = c.args.fields.now in
    let t = f.header.transaction in
    let r = c.check_content.result in
    let e = header_same f c.flag.result c.header_fields.result c.flag.ensures c.header_fields.ensures in
    let g = sym (ap (λ (o : Option ContentFields). part_fields t (part_given o)) c.in-Some.is) in
    checked_after 87 (header_fields f.header (flag (part_given f.content))) (part_fields t (part_given f.content)) r (same_passes 87 e c.in_ok-check.ensures.verdict) (same_checked 87 r g c.check_content.ensures)
