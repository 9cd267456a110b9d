use Rattle.std.proofs.Common.{◌≡◌, ℕ, Bool, List, Ok, Err, Option, Result, sym, ap, ◌∙◌, string_bytes}
use Rattle.std.specs.Result.{is_err}
use Rattle.frame.specs.Messages.{value}
use Rattle.frame.specs.declared.message.Message.{Message}
use Rattle.inspection.proofs.Once.{one_answer}
use Rattle.inspection.specs.Saying.{Says, Understood, fault_words}
use Rattle.inspection.specs.Saying.Says.{not_hex, broken, framed}
use Rattle.inspection.specs.Spelling.{unhex}
use Rattle.inspection.specs.declared.line.Fault.{Fault}
use Rattle.inspection.specs.declared.line.Fault.TheVariants.{NotHex, Refused}
use Rattle.wording.specs.Wording.{text}
use Rattle.inspection.proofs.line.line_text.Goals as goal
use Rattle.inspection.proofs.line.line_text.Goals.{in-Ok+in_ok-to_string-in-Ok, in-Err+in_ok-to_string-in-Err}

pub returns-in_err-bytes-clause-law : goal.returns-in_err-bytes-clause-law
returns-in_err-bytes-clause-law c = one_answer

pub returns-in_err-to_string-in-Ok-clause-law : goal.returns-in_err-to_string-in-Ok-clause-law
returns-in_err-to_string-in-Ok-clause-law c = one_answer

pub returns-in_err-to_string-in-Err-clause-law : goal.returns-in_err-to_string-in-Err-clause-law
returns-in_err-to_string-in-Err-clause-law c = one_answer

abbrev words_of : Result Message Fault → List ℕ
words_of (Ok m) = text (value m)
words_of (Err fault) = fault_words fault

said :
    (line words : List ℕ) (refused : Bool) (o : Option (List ℕ)) (r : Result Message Fault) → o ≡ unhex line → Understood o r
    → words ≡ words_of r → refused ≡ is_err r → Says line words refused
said line words refused o (Ok m) e u w f = framed (value m) (sym e ∙ u.0) u.1 w f
said line words refused o (Err NotHex) e u w f = not_hex (sym e ∙ u) w f
said line words refused o (Err (Refused x)) e u w f = broken u.0 x (sym e ∙ u.1.0) u.1.1 w f

pub returns-clause-told : goal.returns-clause-told
returns-clause-told c =
    let t = c.match-message_in.text in
    let r = c.message_in.result in
    let words : string_bytes t.0 ≡ words_of r =
    elim c.match-message_in.branch [
      | in-Ok+in_ok-to_string-in-Ok w ↦ ap (λ p. string_bytes p.0) w.text-is ∙ w.in_ok-to_string-in-Ok.ensures.ok ∙ ap words_of (sym w.in-Ok.is)
      | in-Err+in_ok-to_string-in-Err w ↦ ap (λ p. string_bytes p.0) w.text-is ∙ w.in_ok-to_string-in-Err.ensures.ok ∙ ap words_of (sym w.in-Err.is)
    ] in
    let refused : t.1 ≡ is_err r =
    elim c.match-message_in.branch [
      | in-Ok+in_ok-to_string-in-Ok w ↦ ap (λ p. p.1) w.text-is ∙ ap is_err (sym w.in-Ok.is)
      | in-Err+in_ok-to_string-in-Err w ↦ ap (λ p. p.1) w.text-is ∙ ap is_err (sym w.in-Err.is)
    ] in
    (t.1, (said c.args.line.now (string_bytes t.0) t.1 _ r (c.as_deref.ensures.value ∙ c.in_ok-bytes.ensures.value) c.message_in.ensures words refused, c.count.ensures.after))

pub returns-clause-law : goal.returns-clause-law
returns-clause-law c = one_answer
