use Rattle.std.proofs.Common.{◌≡◌, ℕ, List, length, Some, Ok, Err, Option, Result, sym, ap, ◌∙◌, subst}
use Rattle.std.specs.Option.{option_copied}
use Rattle.std.specs.Result.{IsErrAnd}
use Rattle.field.specs.Layouts.{Breaks}
use Rattle.frame.specs.declared.message.Message.{Message}
use Rattle.inspection.specs.Saying.{Understood}
use Rattle.inspection.specs.declared.line.Fault.{Fault}
use Rattle.inspection.specs.declared.line.Fault.TheVariants.{Refused}
use Rattle.layout.specs.Frames.{byte_fields}
use Rattle.values.specs.declared.refusal.Refusal.{Refusal}
use Rattle.inspection.proofs.line.message_in.Goals as goal

refused : (o : Option (List ℕ)) (b : List ℕ) (e : Refusal) (r : Result Message Fault) → o ≡ Some b → Breaks (length b) (byte_fields b) e → IsErrAnd r (λ fault. fault ≡ Refused e) → Understood o r
refused o b e (Ok m) p k h = absurd h
refused o b e (Err fault) p k h = subst (λ (f : Fault). Understood o (Err f)) (sym h) (b, (p, k))

pub returns-in_err-read_frame : goal.returns-in_err-read_frame
returns-in_err-read_frame c =
    refused _ c.in_ok-ok_or.field-0.now c.in_err-read_frame.field-0.0 _ (ap option_copied c.in_ok-ok_or.ensures.ok_part) c.in_err-read_frame.ensures.reads c.from_residual-in_err-read_frame.ensures.1

pub returns : goal.returns
returns c =
    let reads = c.in_ok-read_frame.ensures.reads in
    (ap option_copied c.in_ok-ok_or.ensures.ok_part ∙ ap (λ (b : List ℕ). Some b) reads.1, reads.0)
