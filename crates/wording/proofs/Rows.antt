-- The rows that a loop has printed.
use Rattle.std.proofs.Common.{◌≡◌, ℕ, ◌+◌, ◌-◌, ◌<◌, ◌≤◌, suc, Ok, Result, codes, decimal, List, [], ◌∷◌, ◌++◌, map, length, get_or, take, drop, Some, None, Option, refl, sym, ap, ◌∙◌, append-nil, arith}
use Rattle.std.proofs.Output.{then_text_assoc, displays_on_IsOk_append, displays_on_ok_of_eq}
use Rattle.std.proofs.lemmas.List.{take_more, take_all}
use Rattle.std.specs.Fmt.{◌++?◌, DisplaysOnOk, WritesOnOk}
use Rattle.std.specs.declared.fmt.Error.{Error}
use Rattle.std.specs.declared.fmt.Formatter.{Formatter}
use Rattle.content.specs.Words.{read_words, write_words}
use Rattle.layout.specs.Values.{Part}
use Rattle.wording.specs.Wording.{tail_text, spaced, listed, spaced_output, listed_output}

none_after : (o : Option (List ℕ)) → o ++? Some [] ≡ o
none_after None = refl
none_after (Some t) = ap (λ (l : List ℕ). Some l) (append-nil t)

none_before : (o : Option (List ℕ)) → Some [] ++? o ≡ o
none_before None = refl
none_before (Some t) = refl

module _ {X : Type 0} (output : X → Option (List ℕ)) where
  abbrev after_space : X → Option (List ℕ)
  after_space x = Some (32 ∷ []) ++? output x

  spaced_cons : (x : X) (xs : List X) → spaced_output output (x ∷ xs) ≡ after_space x ++? spaced_output output xs
  spaced_cons x xs = sym (then_text_assoc (Some (32 ∷ [])) (output x) (spaced_output output xs))

  spaced_push : (xs : List X) (x : X) → spaced_output output (xs ++ x ∷ []) ≡ spaced_output output xs ++? after_space x
  spaced_push [] x = spaced_cons x [] ∙ (none_after (after_space x) ∙ sym (none_before (after_space x)))
  spaced_push (y ∷ xs) x =
      spaced_cons y (xs ++ x ∷ []) ∙ ap (λ (o : Option (List ℕ)). after_space y ++? o) (spaced_push xs x)
      ∙ sym (then_text_assoc (after_space y) (spaced_output output xs) (after_space x))
      ∙ ap (λ (o : Option (List ℕ)). o ++? after_space x) (sym (spaced_cons y xs))

  spaced_more : (xs : List X) (i : ℕ) (x : X) → i < length xs → x ≡ get_or xs i x
      → spaced_output output (take i xs) ++? after_space x ≡ spaced_output output (take (i + 1) xs)
  spaced_more xs i x h e =
      sym (ap (spaced_output output) (take_more xs i x h ∙ ap (λ (y : X). take i xs ++ y ∷ []) (sym e)) ∙ spaced_push (take i xs) x)

  -- the first row, and those behind it
  listed_all : (xs : List X) (i : ℕ) (x : X) → 0 < length xs → length xs ≤ i + 1 → x ≡ get_or xs 0 x
      → output x ++? spaced_output output (take i (take (length xs - 1) (drop 1 xs))) ≡ listed_output output xs
  listed_all [] i x h k e = absurd (omega arith)
  listed_all (y ∷ xs) i x h k e =
      let all : take i (take (suc (length xs) - 1) xs) ≡ xs = ap (take i) (take_all (suc (length xs) - 1) xs (omega arith)) ∙ take_all i xs (omega arith) in
      λ j. output (e j) ++? spaced_output output (all j)

  module _ {W : Type 0} (took : W → List ℕ → W → Type 0) (f g h : Formatter W) where
    -- one more row, after a space
    pub row_printed : (xs : List X) (i : ℕ) (x : X) → i < length xs → x ≡ get_or xs i x
        → DisplaysOnOk took f (Ok tt) (spaced_output output (take i xs)) g → DisplaysOnOk took g (Ok tt) (after_space x) h
        → DisplaysOnOk took f (Ok tt) (spaced_output output (take (i + 1) xs)) h
    row_printed xs i x l e p q =
        displays_on_ok_of_eq took f h (Ok tt) _ _ (spaced_more xs i x l e) (displays_on_IsOk_append took f g h (Ok tt) (Ok tt) _ _ (λ ok. ok) p q)

    -- the first row, and those behind it
    pub all_printed : (xs : List X) (i : ℕ) (x : X) → 0 < length xs → length xs ≤ i + 1 → x ≡ get_or xs 0 x
        → DisplaysOnOk took f (Ok tt) (output x) g → DisplaysOnOk took g (Ok tt) (spaced_output output (take i (take (length xs - 1) (drop 1 xs)))) h
        → DisplaysOnOk took f (Ok tt) (listed_output output xs) h
    all_printed xs i x l k e p q =
        displays_on_ok_of_eq took f h (Ok tt) _ _ (listed_all xs i x l k e) (displays_on_IsOk_append took f g h (Ok tt) (Ok tt) _ _ (λ ok. ok) p q)

-- rows whose texts are known
spaced_known : {X : Type 0} (word : X → List ℕ) (xs : List X) → spaced_output (λ x. Some (word x)) xs ≡ Some (spaced (map word xs))
spaced_known word [] = refl
spaced_known word (x ∷ xs) = ap (λ (o : Option (List ℕ)). Some (32 ∷ []) ++? Some (word x) ++? o) (spaced_known word xs)

pub listed_known : {X : Type 0} (word : X → List ℕ) (xs : List X) → listed_output (λ x. Some (word x)) xs ≡ Some (listed (map word xs))
listed_known word [] = refl
listed_known word (x ∷ xs) = ap (λ (o : Option (List ℕ)). Some (word x) ++? o) (spaced_known word xs)

-- a content, whose rows are printed as lists
pub content_printed : {W : Type 0} (took : W → List ℕ → W → Type 0) (f g : Formatter W) (r : Result (Unit {0}) Error) (p : Part)
    → DisplaysOnOk took f r (Some (codes " second=") ++? Some (decimal p.second) ++? Some (codes " reads=[") ++? listed_output (λ x. Some (read_words x)) p.reads ++? Some (codes "] writes=[") ++? listed_output (λ x. Some (write_words x)) p.writes ++? Some (codes "]")) g
    → WritesOnOk took f r (tail_text (Some p)) g
content_printed took f g r p d =
    displays_on_ok_of_eq took f g r _ _ (λ i. Some (codes " second=") ++? Some (decimal p.second) ++? Some (codes " reads=[") ++? listed_known read_words p.reads i ++? Some (codes "] writes=[") ++? listed_known write_words p.writes i ++? Some (codes "]")) d
