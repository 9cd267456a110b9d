use Rattle.std.proofs.Common.{◌≡◌, length, ap, ◌∙◌, arith, rules, drop-drop}
use Rattle.layout.specs.declared.fields.Fields.{Fields}
use Rattle.layout.specs.Values.{given}
use Rattle.layout.specs.Frames.{frame}
use Rattle.encode.proofs.writer.write_fields.Goals as goal

pub returns : goal.returns
returns c =
    let same = c.in_ok-lawful.ensures.1 in
    let filled : c.fill.new.part ≡ frame (given c.args.fields.now) = c.fill.ensures ∙ ap (λ (f : Fields). frame (given f)) same in
    let long : c.length-n.result ≡ length (frame (given c.args.fields.now)) = c.length-n.ensures ∙ ap (λ (f : Fields). length (frame (given f))) same in
    record { lawful = c.in_ok-lawful.ensures.0; long = long; room = search rules; bytes = grind (arith, drop-drop) }
