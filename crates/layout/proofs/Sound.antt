-- The rules of a content, field by field and as one test.
use Rattle.std.proofs.Common.{◌≡◌, ℕ, zero, suc, ◌+◌, ◌*◌, ◌<◌, ◌≤◌, true, ◌&&◌, ◌||◌, leb, List, ◌++◌, length, get_or, refl, mul-suc, arith, le-leb, leb-true}
use Rattle.std.proofs.lemmas.Bool.{and_parts, and_from}
use Rattle.std.proofs.lemmas.Bool.Decides.{nat_tests}
use Rattle.values.specs.Times.{timestamp}
use Rattle.values.specs.declared.timestamp.Timestamp.{Timestamp}
use Rattle.content.specs.declared.rows.Read.{Read}
use Rattle.content.specs.Rules.{unlike, differ, few, reads_before}
use Rattle.content.proofs.Apart.{before_tested}
use Rattle.field.specs.declared.Field.{Field}
use Rattle.field.specs.Layouts.{Passes, holds, rows}
use Rattle.field.proofs.Faults.{pass_first, pass_last, pass_both}
use Rattle.layout.specs.Numbers.{Layout, width, reading, writing}
use Rattle.layout.specs.Format.{count_fields, row_fields, table_fields}
use Rattle.layout.specs.Laws.{ContentRules}

good : (n : ℕ) (f : Field) → holds n f ≡ true → f.good ≡ true
good n f h = (and_parts (leb (f.place + f.width) n) f.good h).1

whole : (n : ℕ) (f : Field) → f.place + f.width ≤ n → f.good ≡ true → holds n f ≡ true
whole n f e g = and_from _ _ (le-leb _ _ e) g

module _ {X : Type 0} (l : Layout X) (n : ℕ) (t : Timestamp) (base : ℕ) (xs : List X) where
  -- rows that pass have keys that differ
  apart : (m : ℕ) → Passes n (rows (row_fields l t base xs) m) → differ (λ j. l.key (get_or xs j l.blank)) m ≡ true
  apart zero q = refl
  apart (suc m) q =
      and_from _ _ (good n _ (pass_last n (rows (row_fields l t base xs) m) (row_fields l t base xs m) q).0)
      (apart m (pass_first n (rows (row_fields l t base xs) m) (row_fields l t base xs m) q))

  obeys : (m : ℕ) → Passes n (rows (row_fields l t base xs) (suc m)) → l.lawful t (get_or xs m l.blank) ≡ true
  obeys m q = good n _ (pass_last n (rows (row_fields l t base xs) m) (row_fields l t base xs m) q).1.0

  -- rows whose keys differ and whose second fields obey their rule pass
  pass : (m : ℕ) → base + width l * m ≤ n → differ (λ j. l.key (get_or xs j l.blank)) m ≡ true → ((i : ℕ) → i < m → l.lawful t (get_or xs i l.blank) ≡ true) → Passes n (rows (row_fields l t base xs) m)
  pass zero e d g = tt
  pass (suc m) e d g =
      let s = mul-suc (width l) m in
      let p = and_parts (unlike (λ j. l.key (get_or xs j l.blank)) (l.key (get_or xs m l.blank)) m) (differ (λ j. l.key (get_or xs j l.blank)) m) d in
      pass_both n (rows (row_fields l t base xs) m) (row_fields l t base xs m) (pass m (omega arith) p.1 (λ i h. g i (omega arith)))
      (whole n _ (omega arith) p.0, (whole n _ (omega arith) (g m (omega arith)), tt))

readable_all : (n : ℕ) (t : Timestamp) (base : ℕ) (rs : List Read) (m : ℕ) → Passes n (rows (row_fields reading t base rs) m) → reads_before t rs m ≡ true
readable_all n t base rs zero q = refl
readable_all n t base rs (suc m) q =
    and_from _ _ (obeys reading n t base rs m q) (readable_all n t base rs m (pass_first n (rows (row_fields reading t base rs) m) (row_fields reading t base rs m) q))

counted : (r w : ℕ) → leb r 4 ≡ true → (leb w 4 && (leb 1 r || leb 1 w)) ≡ true → few r w ≡ true
counted r w h k = grind (arith, nat_tests)

counts : (r w : ℕ) → few r w ≡ true → (leb r 4 ≡ true) × ((leb w 4 && (leb 1 r || leb 1 w)) ≡ true)
counts r w h = (grind (arith, nat_tests), grind (arith, nat_tests))

pub content_rules : ContentRules
content_rules = record {
  only = λ t p nm q.
      let at = timestamp p.second t in
      let r = length p.reads in
      let w = length p.writes in
      let rs = table_fields reading at 19 p.reads in
      let ws = table_fields writing at (19 + 9 * r) p.writes in
      let c = pass_first 87 (count_fields r w) (rs ++ ws) q in
      let k = pass_last 87 (count_fields r w) (rs ++ ws) q in
      let qr = pass_first 87 rs ws k in
      and_from _ _ nm (and_from _ _ (counted r w (and_parts (leb 18 87) (leb r 4) c.1.0).1 (and_parts (leb 19 87) (leb w 4 && (leb 1 r || leb 1 w)) c.1.1.0).1)
      (and_from _ _ (apart reading 87 at 19 p.reads r qr)
      (and_from _ _ (apart writing 87 at (19 + 9 * r) p.writes w (pass_last 87 rs ws k)) (readable_all 87 at 19 p.reads r qr))));
  every = λ t p s.
      let at = timestamp p.second t in
      let r = length p.reads in
      let w = length p.writes in
      let rs = table_fields reading at 19 p.reads in
      let ws = table_fields writing at (19 + 9 * r) p.writes in
      let s1 = (and_parts _ _ s).1 in
      let s2 = and_parts _ _ s1 in
      let s3 = and_parts _ _ s2.1 in
      let s4 = and_parts _ _ s3.1 in
      let c = counts r w s2.0 in
      let fr : r ≤ 4 = leb-true _ _ c.0 in
      let fw : w ≤ 4 = leb-true _ _ (and_parts (leb w 4) _ c.1).0 in
      pass_both 87 (count_fields r w) (rs ++ ws) (refl, (c.0, (c.1, tt)))
      (pass_both 87 rs ws (pass reading 87 at 19 p.reads r (omega arith) s3.0 ((before_tested at p.reads r).0 s4.1))
      (pass writing 87 at (19 + 9 * r) p.writes w (omega arith) s4.0 (λ i h. refl)));
}
