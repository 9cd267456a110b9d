-- Bytes whose fields all pass are the frame of the message that stands in them.
use Rattle.std.proofs.Common.{◌≡◌, ℕ, zero, suc, ◌+◌, ◌*◌, ◌≤◌, Bool, true, false, cond, ◌||◌, eqb, leb, List, [], ◌∷◌, ◌++◌, length, get_or, take, drop, Some, None, Option, unwrap_or, sym, refl, ap, ◌∙◌, subst, mul-zero, mul-suc, arith, length-drop, take-append-drop, get_or-drop, take_all, drop-drop, eqb-true, leb-true}
use mathlib.Core.Path.{fun_ext}
use Rattle.std.proofs.lemmas.List.{drop_all}
use Rattle.std.proofs.lemmas.Bool.{and_parts, cond_both, eqb-false}
use Rattle.values.specs.Times.{timestamp}
use Rattle.values.specs.declared.timestamp.Timestamp.{Timestamp}
use Rattle.field.specs.Layouts.{holds, Passes, ranged, rows}
use Rattle.field.proofs.Faults.{pass_first, pass_last, pass_both, pass_longer, reach}
use Rattle.layout.specs.declared.format.KindRules.{KindRules}
use Rattle.layout.specs.declared.format.Header.{Header}
use Rattle.layout.specs.Values.{Part, flag, size}
use Rattle.layout.specs.Numbers.{Layout, width, laid, rows_in, reading, writing}
use Rattle.layout.specs.Format.{rules, no_kind, limits, content_limits, header_fields, count_fields, row_fields, table_fields, part_fields}
use Rattle.layout.specs.Frames.{frame, part_bytes, FitsPart, Lawful, header_in, content_in, part_in, value_in, mark_fields, end_field, byte_fields}
use Rattle.layout.proofs.Rows.{Bytes, drop_bytes, listed, firsts, big_number, number_fits, exact_read, exact_write, length_rows, laid_rows, rows_fit}

-- a content's flag is at most 1, whatever the kind
record Flags (o : Option KindRules) : Type 0 where
  plain : (unwrap_or o no_kind).plain.1 ≤ 1
  commit : (unwrap_or o no_kind).commit.1 ≤ 1

flags : (k : ℕ) → Flags (rules k)
flags k =
    let low : (v c a p m : ℕ × ℕ) → p.1 ≤ 1 → m.1 ≤ 1 → Flags (Some (record { view = v; code = c; accepted = a; plain = p; commit = m })) = λ v c a p m x y. record { plain = x; commit = y } in
    kind 80 (low _ _ _ (1, 1) (1, 1) (omega arith) (omega arith)) (kind 86 (low _ _ _ (0, 0) (0, 0) (omega arith) (omega arith))
    (kind 65 (low _ _ _ (0, 0) (1, 1) (omega arith) (omega arith)) (kind 66 (low _ _ _ (0, 0) (0, 0) (omega arith) (omega arith))
    (kind 68 (low _ _ _ (0, 0) (1, 1) (omega arith) (omega arith)) (kind 67 (low _ _ _ (0, 0) (0, 0) (omega arith) (omega arith))
    (kind 82 (low _ _ _ (0, 1) (1, 1) (omega arith) (omega arith)) (record { plain = omega arith; commit = omega arith })))))))
  where
    kind : (l : ℕ) {a b : Option KindRules} → Flags a → Flags b → Flags (cond (eqb k l) a b)
    kind l {a} {b} h g = cond_both (eqb k l) a b Flags (λ _. h) (λ _. g)

pub in_limits : (n p x : ℕ) (l : ℕ × ℕ) → holds n (ranged p x l) ≡ true → (l.0 ≤ x) × (x ≤ l.1)
in_limits n p x l h =
    let q = and_parts (leb l.0 x) (leb x l.1) (and_parts (leb (p + 1) n) _ h).1 in
    (leb-true _ _ q.0, leb-true _ _ q.1)

pub flag_limit : (n : ℕ) (h : Header) (k : ℕ) → Passes n (header_fields h k) → k ≤ 1
flag_limit n h k q =
    let l = (in_limits n 12 k (content_limits h) q.1.1.1.1.1.1.1.0).1 in
    let c : (content_limits h).1 ≤ 1 = cond_both (eqb h.code 2 || eqb h.accepted 2) (limits h).commit (limits h).plain (λ m. m.1 ≤ 1) (λ _. (flags h.kind).commit) (λ _. (flags h.kind).plain) in
    omega arith

-- the next n bytes from place p on, one by one
pub next : (n p : ℕ) (b : List ℕ) → p + n ≤ length b → drop p b ≡ listed (λ i. get_or b (p + i) 0) n ++ drop (p + n) b
next n p b h =
    let l = length-drop p b in
    sym (take-append-drop n (drop p b))
    ∙ (λ i. (firsts n (drop p b) (omega arith) ∙ ap (λ (g : ℕ → ℕ). listed g n) (fun_ext (λ j. get_or-drop p b j 0))) i ++ drop-drop n p b i)

-- the bytes that the rows of a table ask for are there
pub rows_reach : {X : Type 0} (l : Layout X) (n : ℕ) (t : Timestamp) (base : ℕ) (xs : List X) (m : ℕ) → base ≤ n → Passes n (rows (row_fields l t base xs) m) → base + width l * m ≤ n
rows_reach l n t base xs zero h q = rw mul-zero (omega arith)
rows_reach l n t base xs (suc m) h q =
    let s = mul-suc (width l) m in
    let r : base + width l * m + 4 + l.rest ≤ n = reach n _ (pass_last n (rows (row_fields l t base xs) m) (row_fields l t base xs m) q).1.0 in
    omega arith

-- a content that passes: how many rows it has, and how many bytes they take
pub record WholePart (n : ℕ) (p : Part) : Type 0 where
  pub few_reads : length p.reads ≤ 4
  pub few_writes : length p.writes ≤ 4
  pub room : size (Some p) ≤ n

pub whole_part : (n t : ℕ) (p : Part) → Passes n (part_fields t (Some p)) → WholePart n p
whole_part n t p q =
    let r = length p.reads in
    let w = length p.writes in
    let at = timestamp p.second t in
    let rs = table_fields reading at 19 p.reads in
    let ws = table_fields writing at (19 + 9 * r) p.writes in
    let c = pass_first n (count_fields r w) (rs ++ ws) q in
    let rq = pass_last n (count_fields r w) (rs ++ ws) q in
    let far : 19 ≤ n = leb-true _ _ (and_parts (leb 19 n) _ c.1.1.0).0 in
    let a = rows_reach reading n at 19 p.reads r far (pass_first n rs ws rq) in
    record {
      few_reads = leb-true _ _ (and_parts (leb 18 n) (leb r 4) c.1.0).1;
      few_writes = leb-true _ _ (and_parts (leb w 4) _ (and_parts (leb 19 n) _ c.1.1.0).1).0;
      room = rows_reach writing n at (19 + 9 * r) p.writes w a (pass_last n rs ws rq);
    }

module _ (b : List ℕ) (f : Bytes b) where
  -- what follows the header is the content
  tail_is : (t : Bool) → Passes (length b) (part_fields (get_or b 6 0) (cond t (Some (content_in b)) None)) → length b ≤ size (cond t (Some (content_in b)) None) → part_bytes (cond t (Some (content_in b)) None) ≡ drop 13 b
  tail_is false q h = sym (drop_all 13 b h)
  tail_is true q h =
      let r = get_or b 17 0 in
      let w = get_or b 18 0 in
      let rest = drop 19 b in
      let o = whole_part (length b) (get_or b 6 0) (content_in b) q in
      let a = o.room in
      let lr = length_rows reading r rest in
      let lw = length_rows writing w (drop (9 * r) rest) in
      let ld = length-drop 19 b in
      let le = length-drop (9 * r) rest in
      let reads : laid reading (rows_in reading r rest) ≡ take (9 * r) rest = laid_rows exact_read r rest (omega arith) (drop_bytes 19 b f) in
      let all : take (8 * w) (drop (9 * r) rest) ≡ drop (9 * r) rest = take_all (8 * w) (drop (9 * r) rest) (omega arith) in
      let writes = laid_rows exact_write w (drop (9 * r) rest) (omega arith) (drop_bytes (9 * r) rest (drop_bytes 19 b f)) ∙ all in
      (λ i. big_number b 13 f i ++ (lr i ∷ lw i ∷ (reads i ++ writes i)))
      ∙ ap (λ (t : List ℕ). get_or b 13 0 ∷ get_or b 14 0 ∷ get_or b 15 0 ∷ get_or b 16 0 ∷ r ∷ w ∷ t) (take-append-drop (9 * r) rest)
      ∙ sym (next 6 13 b (omega arith))

  flag_is : (t : Bool) → eqb (get_or b 12 0) 1 ≡ t → get_or b 12 0 ≤ 1 → flag (cond t (Some (content_in b)) None) ≡ get_or b 12 0
  flag_is true e h = sym (eqb-true (get_or b 12 0) 1 e)
  flag_is false e h = let n = eqb-false (get_or b 12 0) 1 e in omega arith

  part_fits : (t : Bool) → FitsPart (cond t (Some (content_in b)) None)
  part_fits false = tt
  part_fits true = (number_fits b 13 f, (rows_fit exact_read (get_or b 17 0) (drop 19 b) (drop_bytes 19 b f), rows_fit exact_write (get_or b 18 0) (drop (9 * get_or b 17 0) (drop 19 b)) (drop_bytes (9 * get_or b 17 0) (drop 19 b) (drop_bytes 19 b f))))

  at_most : (t : Bool) → Passes (length b) (part_fields (get_or b 6 0) (cond t (Some (content_in b)) None)) → size (cond t (Some (content_in b)) None) ≤ 87
  at_most false q = omega arith
  at_most true q =
      let o = whole_part (length b) (get_or b 6 0) (content_in b) q in
      let x = o.few_reads in
      let y = o.few_writes in
      omega arith

module _ (b : List ℕ) (f : Bytes b) (q : Passes (length b) (byte_fields b)) where
  mark_passes : Passes (length b) (mark_fields b)
  mark_passes = pass_first (length b) (mark_fields b) (header_fields (header_in b) (get_or b 12 0) ++ (part_fields (get_or b 6 0) (part_in b) ++ (end_field b ∷ []))) q

  after_mark : Passes (length b) (header_fields (header_in b) (get_or b 12 0) ++ (part_fields (get_or b 6 0) (part_in b) ++ (end_field b ∷ [])))
  after_mark = pass_last (length b) (mark_fields b) (header_fields (header_in b) (get_or b 12 0) ++ (part_fields (get_or b 6 0) (part_in b) ++ (end_field b ∷ []))) q

  header_passes : Passes (length b) (header_fields (header_in b) (get_or b 12 0))
  header_passes = pass_first (length b) (header_fields (header_in b) (get_or b 12 0)) (part_fields (get_or b 6 0) (part_in b) ++ (end_field b ∷ [])) after_mark

  after_header : Passes (length b) (part_fields (get_or b 6 0) (part_in b) ++ (end_field b ∷ []))
  after_header = pass_last (length b) (header_fields (header_in b) (get_or b 12 0)) (part_fields (get_or b 6 0) (part_in b) ++ (end_field b ∷ [])) after_mark

  part_passes : Passes (length b) (part_fields (get_or b 6 0) (part_in b))
  part_passes = pass_first (length b) (part_fields (get_or b 6 0) (part_in b)) (end_field b ∷ []) after_header

  ends : length b ≤ size (part_in b)
  ends = leb-true _ _ (and_parts (leb (size (part_in b) + 0) (length b)) (leb (length b) (size (part_in b))) (pass_last (length b) (part_fields (get_or b 6 0) (part_in b)) (end_field b ∷ []) after_header).0).1

  flagged : flag (part_in b) ≡ get_or b 12 0
  flagged = flag_is b f (eqb (get_or b 12 0) 1) refl (flag_limit (length b) (header_in b) (get_or b 12 0) header_passes)

  -- the bytes are the frame of what stands in them
  pub whole : b ≡ frame (value_in b)
  whole =
      let m = mark_passes in
      let x = (and_parts (leb 3 (length b)) _ m.0).1 in
      let y = (and_parts (leb 5 (length b)) _ m.1.0).1 in
      let z = and_parts _ _ x in
      let e0 = eqb-true (get_or b 0 0) 0x54 z.0 in
      let e1 = eqb-true (get_or b 1 0) 0x4B (and_parts _ _ z.1).0 in
      let e2 = eqb-true (get_or b 2 0) 0x41 (and_parts _ _ z.1).1 in
      let e3 = eqb-true (get_or b 3 0) 0 (and_parts _ _ y).0 in
      let e4 = eqb-true (get_or b 4 0) 1 (and_parts _ _ y).1 in
      let far : 13 ≤ length b = reach (length b) (ranged 12 (get_or b 12 0) (content_limits (header_in b))) header_passes.1.1.1.1.1.1.1.0 in
      next 13 0 b (omega arith)
      ∙ (λ i. e0 i ∷ e1 i ∷ e2 i ∷ e3 i ∷ e4 i ∷ get_or b 5 0 ∷ get_or b 6 0 ∷ get_or b 7 0 ∷ get_or b 8 0 ∷ get_or b 9 0 ∷ get_or b 10 0 ∷ get_or b 11 0 ∷ sym flagged i ∷ sym (tail_is b f (eqb (get_or b 12 0) 1) part_passes ends) i)

  -- and that is lawful
  pub lawful : Lawful (value_in b)
  lawful =
      let t = eqb (get_or b 12 0) 1 in
      let n = at_most b f t part_passes in
      let l : length b ≤ 87 = omega (arith, ends) in
      let header = header_fields (header_in b) in
      let part = part_fields (get_or b 6 0) (part_in b) in
      record {
        passes = pass_both 87 (header (flag (part_in b))) part (subst (λ (k : ℕ). Passes 87 (header k)) (sym flagged) (pass_longer (length b) 87 l (header (get_or b 12 0)) header_passes)) (pass_longer (length b) 87 l part part_passes);
        fits = part_fits b f t;
      }
