-- How long laid rows are.
use Rattle.std.proofs.Common.{◌≡◌, ℕ, ◌+◌, ◌*◌, ◌<◌, ◌≤◌, List, [], ◌∷◌, ◌++◌, length, get_or, take, sym, refl, ap, ◌∙◌, arith, append_assoc, length-append, Some, length-take-le, mul-le-mul_left}
use Rattle.std.proofs.lemmas.List.{append-nil, take_more}
use Rattle.layout.specs.Values.{Part}
use Rattle.layout.specs.Numbers.{Layout, width, laid, reading, writing}
use Rattle.layout.specs.Frames.{part_bytes}
use Rattle.layout.proofs.Rows.{exact_read, exact_write, length_laid}

module _ {X : Type 0} (l : Layout X) where
  pub laid_more : (xs ys : List X) → laid l (xs ++ ys) ≡ laid l xs ++ laid l ys
  laid_more [] ys = refl
  laid_more (x ∷ xs) ys = ap (λ (t : List ℕ). l.bytes x ++ t) (laid_more xs ys) ∙ sym (append_assoc (l.bytes x) (laid l xs) (laid l ys))

  -- one row more
  pub laid_next : (xs : List X) (i : ℕ) (x : X) → i < length xs → x ≡ get_or xs i x → laid l (take i xs) ++ l.bytes x ≡ laid l (take (i + 1) xs)
  laid_next xs i x h e =
      ap (λ (t : List ℕ). laid l (take i xs) ++ t) (sym (append-nil (l.bytes x)) ∙ ap (λ (y : X). laid l (y ∷ [])) e)
      ∙ (sym (laid_more (take i xs) (get_or xs i x ∷ [])) ∙ ap (laid l) (sym (take_more xs i x h)))

  -- the first rows are no longer than all
  pub laid_front : ((x : X) → length (l.bytes x) ≡ width l) → (xs : List X) (i : ℕ) → i ≤ length xs → length (laid l (take i xs)) ≤ length (laid l xs)
  laid_front long xs i h =
      let a = length_laid l long (take i xs) in
      let b = length_laid l long xs in
      let c : length (take i xs) ≡ i = length-take-le i xs h in
      let m : width l * i ≤ width l * length xs = mul-le-mul_left (width l) h in
      let d : width l * length (take i xs) ≡ width l * i = ap (λ (k : ℕ). width l * k) c in
      omega arith

-- how long a content's part of a frame is
pub length_part : (p : Part) → length (part_bytes (Some p)) ≡ 6 + 9 * length p.reads + 8 * length p.writes
length_part p =
    let r = length_laid reading exact_read.long p.reads in
    let w = length_laid writing exact_write.long p.writes in
    let a = length-append (laid reading p.reads) (laid writing p.writes) in
    omega arith
