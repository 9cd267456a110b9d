use Rattle.std.proofs.Common.{◌-◌, ◌++◌, length, drop, Option, ap, ◌∙◌, subst, arith, length-append, length-drop, length-take-le}
use Rattle.layout.specs.declared.fields.ContentFields.{ContentFields}
use Rattle.layout.specs.Values.{part_given}
use Rattle.layout.specs.Frames.{part_bytes}
use Rattle.layout.specs.Puts.{ContentBytes}
use Rattle.encode.proofs.writer.LawfulFields.fill.Goals as goal

pub copy_from_slice-requires : goal.copy_from_slice-requires
copy_from_slice-requires c =
    let t = c.requires in
    let h = ap length c.head.ensures in
    length-take-le 13 c.args.part.now (omega arith) ∙ omega arith

pub copy_from_slice-requires-in-Some : goal.copy_from_slice-requires-in-Some
copy_from_slice-requires-in-Some c =
    let content = c.in-Some.content in
    let bytes = (subst (ContentBytes content) c.unwrap-bytes.ensures c.content_bytes.ensures).2 in
    let n = ap length (c.as_slice.ensures.items ∙ bytes) in
    let h = ap length (c.copy_from_slice.ensures.after ∙ c.head.ensures) in
    let s = ap (λ (o : Option ContentFields). length (part_bytes (part_given o))) c.in-Some.is in
    let t = c.requires in
    let rest = drop 13 c.args.part.now in
    let b = c.copy_from_slice.new.self ++ rest in
    let l = length-append c.copy_from_slice.new.self rest in
    let r = length-drop 13 c.args.part.now in
    let d = length-drop 13 b in
    length-take-le (length b - 13) (drop 13 b) (omega arith) ∙ omega arith
