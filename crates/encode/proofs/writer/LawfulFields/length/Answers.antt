use Rattle.std.proofs.Common.{Option, sym, ap, ◌∙◌}
use Rattle.layout.specs.declared.fields.ContentFields.{ContentFields}
use Rattle.layout.specs.Values.{given, part_given, size}
use Rattle.layout.proofs.Back.{frame_length}
use Rattle.encode.proofs.writer.LawfulFields.length.Goals as goal

pub returns-in-Some : goal.returns-in-Some
returns-in-Some c =
    let v = given c.args.self.now.fields in
    sym (frame_length v v.content ∙ ap (λ (o : Option ContentFields). size (part_given o)) c.in-Some.is)
