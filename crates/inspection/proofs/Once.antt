-- Of a line only one thing is said.
use Rattle.std.proofs.Common.{◌≡◌, ℕ, List, length, Some, Option, sym, ap, ◌∙◌, subst}
use Rattle.values.specs.declared.refusal.Refusal.{Refusal}
use Rattle.field.specs.Layouts.{Breaks}
use Rattle.field.proofs.Verdict.{one_verdict}
use Rattle.layout.specs.Frames.{frame, Lawful, byte_fields}
use Rattle.layout.specs.Values.{Value}
use Rattle.layout.proofs.Back.{frame_passes}
use Rattle.frame.proofs.Read.{one_frame}
use Rattle.inspection.specs.Saying.{OneAnswer}
use Rattle.inspection.specs.Saying.Says.{not_hex, broken, framed}
use Rattle.wording.specs.Wording.{text, refusal_text}

same_bytes : (o : Option (List ℕ)) (b c : List ℕ) → o ≡ Some b → o ≡ Some c → b ≡ c
same_bytes o b c p q = cc

-- bytes that are a frame have no fault
apart : (o : Option (List ℕ)) (b : List ℕ) (e : Refusal) (v : Value) → o ≡ Some b → Breaks (length b) (byte_fields b) e → o ≡ Some (frame v) → Lawful v → ⊥
apart o b e v p k q l =
    one_verdict.never_both (length (frame v)) (byte_fields (frame v)) e (frame_passes v l)
    (subst (λ (c : List ℕ). Breaks (length c) (byte_fields c) e) (same_bytes o b (frame v) p q) k)

pub one_answer : OneAnswer
one_answer line w x r s (not_hex a p q) (not_hex b t u) = (p ∙ sym t, q ∙ sym u)
one_answer line w x r s (not_hex a p q) (broken c e b k t u) = cc (sym a ∙ b)
one_answer line w x r s (not_hex a p q) (framed v b l t u) = cc (sym a ∙ b)
one_answer line w x r s (broken c e a k p q) (not_hex b t u) = cc (sym b ∙ a)
one_answer line w x r s (broken c e a k p q) (broken d f b m t u) =
    let m' = subst (λ (y : List ℕ). Breaks (length y) (byte_fields y) f) (same_bytes _ d c b a) m in
    (p ∙ (ap refusal_text (one_verdict.one_place (length c) (byte_fields c) e f k m') ∙ sym t), q ∙ sym u)
one_answer line w x r s (broken c e a k p q) (framed v b l t u) = absurd (apart _ c e v a k b l)
one_answer line w x r s (framed v a l p q) (not_hex b t u) = cc (sym b ∙ a)
one_answer line w x r s (framed v a l p q) (broken c e b k t u) = absurd (apart _ c e v b k a l)
one_answer line w x r s (framed v a l p q) (framed y b m t u) =
    (p ∙ (ap text (one_frame v y l m (same_bytes _ (frame v) (frame y) a b)) ∙ sym t), q ∙ sym u)
