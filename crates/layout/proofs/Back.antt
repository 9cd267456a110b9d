-- The frame of a lawful message passes, and that message stands in it.
use Rattle.std.proofs.Common.{◌≡◌, ℕ, suc, ◌+◌, ◌*◌, ◌≤◌, true, leb, List, [], ◌∷◌, ◌++◌, length, drop, Some, None, Option, sym, refl, ap, ◌∙◌, subst, append-nil, mul-le-mul_left, mul-suc, arith, le-leb}
use lib.Seq.{drop-append_seam}
use Rattle.values.specs.Times.{timestamp}
use Rattle.values.specs.declared.timestamp.Timestamp.{Timestamp}
use Rattle.field.specs.declared.Field.{Field}
use Rattle.field.specs.Layouts.{Passes}
use Rattle.field.proofs.Faults.{pass_first, pass_last, pass_both, pass_whole, Ends, ends_both}
use Rattle.field.proofs.Rows.{rows_end}
use Rattle.layout.specs.Values.{Part, Value, flag, size}
use Rattle.layout.specs.Numbers.{Layout, width, laid, rows_in, reading, writing}
use Rattle.layout.specs.Format.{header_fields, count_fields, row_fields, table_fields, part_fields}
use Rattle.layout.specs.Frames.{frame, FitsPart, Lawful, part_in, value_in, mark_fields, byte_fields}
use Rattle.layout.proofs.Length.{length_part}
use Rattle.layout.proofs.Rows.{number_big, exact_read, exact_write, rows_laid, length_laid}

-- the message with another content
abbrev with_content : Value → Option Part → Value
with_content v o = record { header = v.header; content = o }

part_back : (v : Value) (o : Option Part) → FitsPart o → part_in (frame (with_content v o)) ≡ o
part_back v None f = refl
part_back v (Some p) f =
    let b = laid reading p.reads in
    let c = laid writing p.writes in
    let n : drop (9 * length p.reads) (b ++ c) ≡ c = ap (λ (k : ℕ). drop k (b ++ c)) (sym (length_laid reading exact_read.long p.reads)) ∙ drop-append_seam b c in
    let writes : rows_in writing (length p.writes) (drop (9 * length p.reads) (b ++ c)) ≡ p.writes =
    ap (λ (t : List ℕ). rows_in writing (length p.writes) t) (n ∙ sym (append-nil c)) ∙ rows_laid exact_write p.writes [] f.1.1 in
    λ i. Some (record { second = number_big p.second f.0 i; reads = rows_laid exact_read p.reads c f.1.0 i; writes = writes i })

-- the message that stands in its frame
pub value_back : (v : Value) → Lawful v → value_in (frame v) ≡ v
value_back v l = λ i. record { header = v.header; content = part_back v v.content l.fits i }

pub frame_length : (v : Value) (o : Option Part) → length (frame (with_content v o)) ≡ size o
frame_length v None = refl
frame_length v (Some p) = let n = length_part p in omega arith

table_ends : {X : Type 0} (l : Layout X) (t : Timestamp) (base : ℕ) (xs : List X) (n : ℕ) → base + width l * length xs ≤ n → Ends n (table_fields l t base xs)
table_ends l t base xs n h =
    rows_end n (row_fields l t base xs) (length xs) (λ i k.
    let s = mul-suc (width l) i in
    let m : width l * suc i ≤ width l * length xs = mul-le-mul_left (width l) k in
    (omega arith, (omega arith, tt)))

part_ends : (t : ℕ) (o : Option Part) → Ends (size o) (part_fields t o)
part_ends t None = tt
part_ends t (Some p) =
    let r = length p.reads in
    let w = length p.writes in
    let n = size (Some p) in
    let at = timestamp p.second t in
    let rs = table_fields reading at 19 p.reads in
    let ws = table_fields writing at (19 + 9 * r) p.writes in
    ends_both n (count_fields r w) (rs ++ ws) (omega arith, (omega arith, (omega arith, tt)))
    (ends_both n rs ws
    (table_ends reading at 19 p.reads n (omega arith)) (table_ends writing at (19 + 9 * r) p.writes n (omega arith)))

long : (o : Option Part) → 13 ≤ size o
long None = omega arith
long (Some p) = omega arith

-- the frame passes
pub frame_passes : (v : Value) → Lawful v → Passes (length (frame v)) (byte_fields (frame v))
frame_passes v l =
    let b = frame v in
    let o = v.content in
    let t = v.header.transaction in
    let n = size o in
    let h = long o in
    let e : part_in b ≡ o = part_back v o l.fits in
    let len : length b ≡ n = frame_length v o in
    let k : List Field = header_fields v.header (flag o) in
    let qh : Passes n k = pass_whole 87 n k (omega arith, (omega arith, (omega arith, (omega arith, (omega arith, (omega arith, (omega arith, (omega arith, tt)))))))) (pass_first 87 k (part_fields t o) l.passes) in
    let qp : Passes n (part_fields t o) = pass_whole 87 n (part_fields t o) (part_ends t o) (pass_last 87 k (part_fields t o) l.passes) in
    let here : leb (n + 0) n ≡ true = le-leb _ _ (omega arith) in
    let room : leb n n ≡ true = le-leb _ _ (omega arith) in
    let three : leb 3 n ≡ true = le-leb _ _ (omega arith) in
    let five : leb 5 n ≡ true = le-leb _ _ (omega arith) in
    let all : Passes n (mark_fields b ++ (k ++ (part_fields t o ++ (record { place = n; width = 0; good = leb n n } ∷ [])))) =
    (rw three refl, (rw five refl, pass_both n k (part_fields t o ++ (record { place = n; width = 0; good = leb n n } ∷ [])) qh (pass_both n (part_fields t o) (record { place = n; width = 0; good = leb n n } ∷ []) qp (rw (here, room) refl, tt)))) in
    let same : Passes n (mark_fields b ++ (k ++ (part_fields t (part_in b) ++ (record { place = size (part_in b); width = 0; good = leb n (size (part_in b)) } ∷ [])))) =
    subst (λ (x : Option Part). Passes n (mark_fields b ++ (k ++ (part_fields t x ++ (record { place = size x; width = 0; good = leb n (size x) } ∷ []))))) (sym e) all in
    subst (λ (m : ℕ). Passes m (mark_fields b ++ (k ++ (part_fields t (part_in b) ++ (record { place = size (part_in b); width = 0; good = leb m (size (part_in b)) } ∷ []))))) (sym len) same
