-- What a `?` hands on takes two lines in each such answer: a lemma would have to be told the goal, and be no shorter.
use Rattle.std.proofs.Common.{◌≡◌, ℕ, List, [], ◌∷◌, ◌++◌, length, get_or, Option, sym, ap, ◌∙◌, subst, arith}
use Rattle.std.proofs.lemmas.Result.{err_from_is_err_and}
use Rattle.field.specs.declared.Field.{Field}
use Rattle.field.specs.Layouts.{Passes}
use Rattle.field.proofs.Faults.{before, after, pass_both, pass_last, same_breaks, same_passes}
use Rattle.layout.specs.declared.format.Header.{Header}
use Rattle.frame.specs.declared.message.Parts.{Parts}
use Rattle.layout.specs.Values.{Part, Value, size}
use Rattle.layout.specs.Format.{header_fields, part_fields}
use Rattle.layout.specs.Frames.{frame, Lawful, header_in, part_in, value_in, mark_fields, ending, end_field, byte_fields}
use Rattle.frame.specs.Messages.{value, content_of, Ruled, PartsOf}
use Rattle.layout.proofs.Rows.{Bytes}
use Rattle.layout.proofs.Whole.{flag_limit, whole, lawful}
use Rattle.frame.proofs.Read.{content_is, told, ruled}
use Rattle.frame.proofs.reader.read.Goals as goal

ruled_as : {h g : Header} {m n : ℕ} → h ≡ g → m ≡ n → Ruled h m → Ruled g n
ruled_as {h} {g} {m} {n} p q r = subst (λ (y : Header). Ruled y n) p (subst (λ (k : ℕ). Ruled h k) q r)

-- the fields up to the content
abbrev front : List ℕ → List Field
front b = mark_fields b ++ header_fields (header_in b) (get_or b 12 0)

-- the end that is checked is that of the bytes
ended : (b : List ℕ) (o : Option Parts) (e : Field) → Bytes b → PartsOf b o → Passes (length b) (part_fields (get_or b 6 0) (part_in b)) → e ≡ ending (length b) (size (content_of o)) → e ∷ [] ≡ end_field b ∷ []
ended b o e f k q h = ap (λ (e : Field). e ∷ []) (h ∙ ap (λ (p : Option Part). ending (length b) (size p)) (content_is b f o k q))

pub returns-in_err-header : goal.returns-in_err-header
returns-in_err-header c =
    let p = err_from_is_err_and c.from_residual.result c.from_residual.ensures.1 in
    rw (p.1, p.2) (before _ c.in_err-header.ensures)

pub returns-in_err-content : goal.returns-in_err-content
returns-in_err-content c =
    let b = c.args.bytes.now in
    let p = err_from_is_err_and c.from_residual-in_err-content.result c.from_residual-in_err-content.ensures.1 in
    rw (p.1, p.2) (after (front b) c.in_ok-header.ensures.0 (before (end_field b ∷ []) c.in_err-content.ensures))

pub returns-in_err-check : goal.returns-in_err-check
returns-in_err-check c =
    let b = c.args.bytes.now in
    let k = c.in_ok-content.ensures in
    let e = ended b c.in_ok-content.content c.end_field.result (λ i. omega (arith, c.type_inv.bytes i)) k.1 k.0 c.end_field.ensures in
    let p = err_from_is_err_and c.from_residual-in_err-check.result c.from_residual-in_err-check.ensures.1 in
    rw (p.1, p.2) (after (front b) c.in_ok-header.ensures.0 (after (part_fields (get_or b 6 0) (part_in b)) k.0 (same_breaks e c.in_err-check.ensures.verdict)))

pub message_of-requires : goal.message_of-requires
message_of-requires c =
    let b = c.args.bytes.now in
    let n = length b in
    let h = c.in_ok-header.ensures in
    let q = pass_last n (mark_fields b) (header_fields (header_in b) (get_or b 12 0)) h.0 in
    let flag = told b c.in_ok-content.content c.in_ok-content.ensures.1 (flag_limit n (header_in b) (get_or b 12 0) q) in
    ruled_as (sym h.1) flag (ruled n (header_in b) (get_or b 12 0) q)

pub returns : goal.returns
returns c =
    let b = c.args.bytes.now in
    let n = length b in
    let f : Bytes b = λ i. omega (arith, c.type_inv.bytes i) in
    let h = c.in_ok-header.ensures in
    let k = c.in_ok-content.ensures in
    let part = part_fields (get_or b 6 0) (part_in b) in
    let content = content_is b f c.in_ok-content.content k.1 k.0 in
    let e = ended b c.in_ok-content.content c.end_field.result f k.1 k.0 c.end_field.ensures in
    let q : Passes n (byte_fields b) = pass_both n (front b) (part ++ (end_field b ∷ [])) h.0 (pass_both n part (end_field b ∷ []) k.0 (same_passes n e c.in_ok-check.ensures.verdict)) in
    let v : value_in b ≡ value c.message_of.result = sym (λ i. record {
      header = (c.message_of.ensures.means ∙ h.1) i;
      content = (ap content_of c.message_of.ensures.holds ∙ content) i;
    }) in
    (subst (λ (x : Value). Lawful x) v (lawful b f q), whole b f q ∙ ap frame v, subst (λ (o : Option Parts). PartsOf b o) (sym c.message_of.ensures.holds) k.1)
