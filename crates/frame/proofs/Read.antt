-- What a reader has checked, put together.
use Rattle.std.proofs.Common.{◌≡◌, ℕ, ◌+◌, ◌*◌, ◌/◌, ◌≤◌, Bool, cond, leb, List, [], length, get_or, take, drop, is_some, Some, None, Ok, Err, Option, Result, sym, refl, ap, ◌∙◌, subst, append-nil, arith, length-drop, length-take-le, drop-drop, eq-eqb, ne_eqb}
use Rattle.std.specs.Option.{option_map_or}
use Rattle.std.proofs.lemmas.Bool.{and_parts}
use Rattle.values.specs.declared.refusal.Refusal.{Refusal}
use Rattle.field.specs.Layouts.{Passes}
use Rattle.field.proofs.Faults.{same_passes}
use Rattle.field.proofs.Verdict.{never_both}
use Rattle.layout.specs.declared.format.Header.{Header}
use Rattle.frame.specs.declared.message.Parts.{Parts}
use Rattle.frame.specs.declared.message.Message.{Message}
use Rattle.layout.specs.Values.{Part, flag, size}
use Rattle.layout.specs.Numbers.{Layout, width, laid, rows_in, reading, writing}
use Rattle.layout.specs.Format.{rules, limits, header_fields, accepted_view_limits, content_limits, part_fields}
use Rattle.layout.specs.Frames.{content_in, part_in, value_in, byte_fields}
use Rattle.frame.specs.Messages.{part_of, content_of, value, PartsIn, PartsOf, Reads, Yields, OneFrame, Ruled}
use Rattle.layout.proofs.Rows.{Bytes, drop_bytes, Exact, exact_read, exact_write, length_rows, laid_rows, rows_laid, rows_fit}
use Rattle.layout.proofs.Whole.{in_limits, whole_part}
use Rattle.layout.proofs.Back.{value_back, frame_passes}

-- whether the flag announces a content
pub announced : (b : List ℕ) → get_or b 12 0 ≡ 1 → part_in b ≡ Some (content_in b)
announced b h = ap (λ (t : Bool). cond t (Some (content_in b)) None) (eq-eqb (get_or b 12 0) 1 h)

pub not_announced : (b : List ℕ) → (get_or b 12 0 ≡ 1 → ⊥) → part_in b ≡ None
not_announced b h = ap (λ (t : Bool). cond t (Some (content_in b)) None) (ne_eqb (get_or b 12 0) 1 h)

-- how long a frame with these parts is
pub size_held : (o : Option Parts) → size (content_of o) ≡ option_map_or (λ (p : Parts). 19 + length p.reads.now + length p.writes.now) o 13
size_held None = refl
size_held (Some p) =
    let lr = length_rows reading (length p.reads.now / 9) p.reads.now in
    let lw = length_rows writing (length p.writes.now / 8) p.writes.now in
    let r = p.whole_reads in
    let w = p.whole_writes in
    omega arith

-- the rows of a part of just their length
pub rows_of_part : {X : Type 0} {l : Layout X} {Fit : X → Type 0} (e : Exact l Fit) (n : ℕ) (b : List ℕ) → width l * n ≤ length b → Bytes b → rows_in l n (take (width l * n) b) ≡ rows_in l n b
rows_of_part {X} {l} e n b h f =
    let rs = rows_in l n b in
    ap (λ (t : List ℕ). rows_in l n t) (sym (laid_rows e n b h f))
    ∙ ((λ i. rows_in l (sym (length_rows l n b) i) (sym (append-nil (laid l rs)) i)) ∙ rows_laid e rs [] (rows_fit e n b f))

module _ (b : List ℕ) (f : Bytes b) where
  -- parts of the bytes hold what stands there
  part_is : (p : Parts) → PartsIn b p → size (Some (content_in b)) ≤ length b → part_of p ≡ content_in b
  part_is p q h =
      let r = get_or b 17 0 in
      let w = get_or b 18 0 in
      let lr = length_rows reading r (drop 19 b) in
      let lw = length_rows writing w (drop (9 * r) (drop 19 b)) in
      let ld = length-drop 19 b in
      let le = length-drop (19 + 9 * r) b in
      let nr : length p.reads.now ≡ 9 * r = ap length q.reads ∙ length-take-le (9 * r) (drop 19 b) (omega arith) in
      let nw : length p.writes.now ≡ 8 * w = ap length q.writes ∙ length-take-le (8 * w) (drop (19 + 9 * r) b) (omega arith) in
      let cr : length p.reads.now / 9 ≡ r = omega arith in
      let cw : length p.writes.now / 8 ≡ w = omega arith in
      let rs = (λ i. rows_in reading (cr i) (q.reads i)) ∙ rows_of_part exact_read r (drop 19 b) (omega arith) (drop_bytes 19 b f) in
      let ws = (λ i. rows_in writing (cw i) (q.writes i)) ∙ (rows_of_part exact_write w (drop (19 + 9 * r) b) (omega arith) (drop_bytes (19 + 9 * r) b f) ∙ ap (λ (t : List ℕ). rows_in writing w t) (sym (drop-drop (9 * r) 19 b))) in
      λ i. record { second = q.second i; reads = rs i; writes = ws i }

  pub content_is : (o : Option Parts) → PartsOf b o → Passes (length b) (part_fields (get_or b 6 0) (part_in b)) → content_of o ≡ part_in b
  content_is None q k = sym (not_announced b q)
  content_is (Some p) q k =
      let a = announced b q.0 in
      let o = whole_part (length b) (get_or b 6 0) (content_in b) (same_passes (length b) (ap (λ (x : Option Part). part_fields (get_or b 6 0) x) a) k) in
      ap Some (part_is p q.1 o.room) ∙ sym a

-- what is held is announced
pub told : (b : List ℕ) (o : Option Parts) → PartsOf b o → get_or b 12 0 ≤ 1 → get_or b 12 0 ≡ flag (content_of o)
told b None q l = omega arith
told b (Some p) q l = q.0

pub ruled : (n : ℕ) (h : Header) (k : ℕ) → Passes n (header_fields h k) → Ruled h k
ruled n h k q = let r = q.1.1.1 in record {
  known = (and_parts (leb 6 n) (is_some (rules h.kind)) q.0).1;
  view = in_limits n 8 h.view (limits h).view r.0;
  code = in_limits n 9 h.code (limits h).code r.1.0;
  accepted = in_limits n 10 h.accepted (limits h).accepted r.1.1.0;
  accepted_view = in_limits n 11 h.accepted_view (accepted_view_limits h) r.1.1.1.0;
  content = in_limits n 12 k (content_limits h) r.1.1.1.1.0;
}

pub one_frame : OneFrame
one_frame v w l k e = sym (value_back v l) ∙ ap value_in e ∙ value_back w k

-- what is read of a lawful message's frame is that message
pub yields : (b : List ℕ) (r : Result Message Refusal) → Reads b r → Yields b r
yields b (Ok m) q v l e = one_frame (value m) v q.0 l (sym q.1 ∙ e)
yields b (Err x) q v l e = never_both (length b) (byte_fields b) x (subst (λ (c : List ℕ). Passes (length c) (byte_fields c)) (sym e) (frame_passes v l)) q
