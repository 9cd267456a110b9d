-- Reading a table of rows, and its fields row by row.
use Rattle.std.proofs.Common.{◌≡◌, ℕ, zero, suc, ◌+◌, ◌*◌, ◌<◌, not, eqb, List, [], ◌∷◌, ◌++◌, length, get_or, take, drop, sym, refl, ap, ◌∙◌, append_assoc, mul-zero, mul-suc, add-one, arith, drop-drop, length-append, length-take-le, take-append-drop}
use Rattle.std.proofs.lemmas.List.{take_more}
use Rattle.std.proofs.Math.Seq.{get_or-append_seam, take-append_seam}
use Rattle.std.specs.List.{list_any}
use Rattle.std.proofs.Math.Bool.{not-not}
use Rattle.values.specs.declared.timestamp.Timestamp.{Timestamp}
use Rattle.field.specs.declared.Field.{Field}
use Rattle.content.specs.Rules.{unlike, keys_of}
use Rattle.content.proofs.Apart.{any_unlike}
use Rattle.layout.specs.Numbers.{Layout, width, rows_in}
use Rattle.layout.specs.Format.{row_fields}

module _ {X : Type 0} (l : Layout X) where
  -- one row more
  pub rows_next : (i : ℕ) (b : List ℕ) → rows_in l (suc i) b ≡ rows_in l i b ++ (l.row (drop (width l * i) b) ∷ [])
  rows_next zero b = rw mul-zero refl
  rows_next (suc i) b =
      let s : width l + width l * i ≡ width l * suc i = let m = mul-suc (width l) i in omega arith in
      ap (λ (t : List X). l.row b ∷ t) (rows_next i (drop (width l) b)
      ∙ ap (λ (t : List ℕ). rows_in l i (drop (width l) b) ++ (l.row t ∷ [])) (drop-drop (width l * i) (width l) b ∙ ap (λ (n : ℕ). drop n b) s))

  pub row_next : (i : ℕ) (b rest : List ℕ) (x : X) (xs : List X) → xs ≡ rows_in l i b → rest ≡ drop (width l * i) b → x ≡ l.row rest → xs ++ x ∷ [] ≡ rows_in l (i + 1) b
  row_next i b rest x xs e r k =
      (λ j. e j ++ ((k ∙ ap l.row r) j ∷ [])) ∙ sym (rows_next i b) ∙ ap (λ (n : ℕ). rows_in l n b) (sym (add-one i))

  pub row_passed : (i r : ℕ) (b rest tail : List ℕ) → r ≡ l.rest → rest ≡ drop (width l * i) b → tail ≡ drop (4 + r) rest → tail ≡ drop (width l * (i + 1)) b
  row_passed i r b rest tail w e t =
      let s : width l * i + width l ≡ width l * (i + 1) = let m = mul-suc (width l) i in rw add-one (sym m) in
      t ∙ (λ j. drop (4 + w j) (e j)) ∙ drop-drop (width l) (width l * i) b ∙ ap (λ (n : ℕ). drop n b) s

  -- the fields of a row behind the earlier ones
  abbrev next_fields : Timestamp → ℕ → List X → X → List Field
  next_fields t base earlier x =
      record { place = base + width l * length earlier; width = 4; good = not (list_any (λ e. eqb (l.key e) (l.key x)) earlier) }
      ∷ record { place = base + width l * length earlier + 4; width = l.rest; good = l.lawful t x }
      ∷ []

  -- they are its fields in every list that begins so
  pub next_row : (t : Timestamp) (base : ℕ) (earlier : List X) (x : X) (rest : List X) → next_fields t base earlier x ≡ row_fields l t base (earlier ++ x ∷ rest) (length earlier)
  next_row t base earlier x rest =
      let n = length earlier in
      let xs = earlier ++ x ∷ rest in
      let s = length-append earlier (x ∷ rest) in
      let y : x ≡ get_or xs n l.blank = sym (get_or-append_seam earlier x rest l.blank) in
      let a = ap (λ (ys : List X). list_any (λ e. eqb (l.key e) (l.key x)) ys) (sym (take-append_seam earlier (x ∷ rest))) ∙ any_unlike l.key l.blank xs (l.key x) n (omega arith) in
      let k = ap not a ∙ not-not _ ∙ ap (λ (z : X). unlike (keys_of l.key l.blank xs) (l.key z) n) y in
      λ j.
      record { place = base + width l * n; width = 4; good = k j }
      ∷ record { place = base + width l * n + 4; width = l.rest; good = l.lawful t (y j) }
      ∷ []

  -- what holds of the rows before the i-th, whatever follows it, holds in the whole list
  pub row_at : (t : Timestamp) (base : ℕ) (xs : List X) {i : ℕ} {x : X} {fs : List Field} → i < length xs → x ≡ get_or xs i x
      → ((rest : List X) → fs ≡ row_fields l t base (take i xs ++ x ∷ rest) (length (take i xs))) → fs ≡ row_fields l t base xs i
  row_at t base xs {i} {x} h e f =
      let n = length-take-le i xs (omega arith) in
      let rest = drop (i + 1) xs in
      let s : take i xs ++ x ∷ rest ≡ xs =
      sym (append_assoc (take i xs) (x ∷ []) rest)
      ∙ ap (λ (ys : List X). ys ++ rest) (ap (λ (z : X). take i xs ++ z ∷ []) e ∙ sym (take_more xs i x h))
      ∙ take-append-drop (i + 1) xs in
      f rest ∙ (λ j. row_fields l t base (s j) (n j))
