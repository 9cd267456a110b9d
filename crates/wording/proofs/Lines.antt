-- A message can be read back from its line.
use Rattle.std.proofs.Common.{◌≡◌, ℕ, ◌<◌, true, false, List, [], ◌∷◌, ◌++◌, map, Some, None, codes, Option, sym, refl, ap, ◌∙◌, append_assoc, arith}
use Rattle.std.proofs.lemmas.Bool.{true≢false}
use Rattle.std.proofs.lemmas.List.{append_cancel_left}
use Rattle.std.proofs.lemmas.Str.{encode_same}
use Rattle.content.specs.declared.rows.Read.{Read}
use Rattle.content.specs.declared.rows.Write.{Write}
use Rattle.layout.specs.Numbers.{Each}
use Rattle.layout.specs.Values.{Part, flag}
use Rattle.wording.specs.Apart.{SizedRead, SizedWrite, SizedPart, ToldApart}
use Rattle.content.specs.Words.{read_words, write_words}
use Rattle.wording.specs.Wording.{spaced, listed, tail_text}
use Rattle.wording.proofs.Figures.{ends, same_number, number_starts}

module _ {X : Type 0} (word : X → List ℕ) (Fits : X → Type 0) (same : (x y : X) (r s : List ℕ) → Fits x → Fits y → ends r ≡ true → ends s ≡ true → word x ++ r ≡ word y ++ s → (x ≡ y) × (r ≡ s)) (starts : (x : X) (r : List ℕ) → Fits x → ends (word x ++ r) ≡ false) where
  -- a bracket closes a list
  spaced_ends : (xs : List X) (r : List ℕ) → ends (spaced (map word xs) ++ (93 ∷ r)) ≡ true
  spaced_ends [] r = refl
  spaced_ends (x ∷ xs) r = refl

  abbrev Same : List X → List X → List ℕ → List ℕ → Type 0
  Same xs ys r s = (xs ≡ ys) × (r ≡ s)

  -- two rows, and what follows them
  more : (x y : X) (xs ys : List X) (r s : List ℕ) → Fits x → Fits y
      → (spaced (map word xs) ++ (93 ∷ r) ≡ spaced (map word ys) ++ (93 ∷ s) → Same xs ys r s)
      → (word x ++ spaced (map word xs)) ++ (93 ∷ r) ≡ (word y ++ spaced (map word ys)) ++ (93 ∷ s)
      → Same (x ∷ xs) (y ∷ ys) r s
  more x y xs ys r s f g others e =
      let p = same x y (spaced (map word xs) ++ (93 ∷ r)) (spaced (map word ys) ++ (93 ∷ s)) f g (spaced_ends xs r) (spaced_ends ys s) (sym (append_assoc (word x) (spaced (map word xs)) (93 ∷ r)) ∙ (e ∙ append_assoc (word y) (spaced (map word ys)) (93 ∷ s))) in
      let q = others p.1 in
      ((λ i. p.0 i ∷ q.0 i), q.1)

  spaced_same : (xs ys : List X) (r s : List ℕ) → Each Fits xs → Each Fits ys → spaced (map word xs) ++ (93 ∷ r) ≡ spaced (map word ys) ++ (93 ∷ s) → Same xs ys r s
  spaced_same [] [] r s f g e = (refl, append_cancel_left (93 ∷ []) r s e)
  spaced_same [] (y ∷ ys) r s f g e = let z : ◌≡◌ {A = ℕ} 93 32 = cc in absurd (omega arith)
  spaced_same (x ∷ xs) [] r s f g e = let z : ◌≡◌ {A = ℕ} 32 93 = cc in absurd (omega arith)
  spaced_same (x ∷ xs) (y ∷ ys) r s f g e =
      more x y xs ys r s f.0 g.0 (spaced_same xs ys r s f.1 g.1) (append_cancel_left (32 ∷ []) _ _ e)

  -- a list that has a row begins with a digit, and an empty one with its bracket
  not_empty : (x : X) (xs : List X) (r s : List ℕ) → Fits x → 93 ∷ r ≡ (word x ++ spaced (map word xs)) ++ (93 ∷ s) → ⊥
  not_empty x xs r s f e =
      true≢false (ap ends (e ∙ append_assoc (word x) (spaced (map word xs)) (93 ∷ s)) ∙ starts x (spaced (map word xs) ++ (93 ∷ s)) f)

  pub listed_same : (xs ys : List X) (r s : List ℕ) → Each Fits xs → Each Fits ys → listed (map word xs) ++ (93 ∷ r) ≡ listed (map word ys) ++ (93 ∷ s) → Same xs ys r s
  listed_same [] [] r s f g e = (refl, append_cancel_left (93 ∷ []) r s e)
  listed_same [] (y ∷ ys) r s f g e = absurd (not_empty y ys r s g.0 e)
  listed_same (x ∷ xs) [] r s f g e = absurd (not_empty x xs s r f.0 (sym e))
  listed_same (x ∷ xs) (y ∷ ys) r s f g e = more x y xs ys r s f.0 g.0 (spaced_same xs ys r s f.1 g.1) e

read_same : (x y : Read) (r s : List ℕ) → SizedRead x → SizedRead y → ends r ≡ true → ends s ≡ true → read_words x ++ r ≡ read_words y ++ s → (x ≡ y) × (r ≡ s)
read_same x y r s f g h k e =
    let key = same_number [] x.key y.key _ _ f.0 g.0 refl refl (simp append_assoc at e) in
    let second = same_number (codes "@") x.version.second y.version.second _ _ f.1 g.1 refl refl key.1 in
    let transaction = same_number (codes ".") x.version.transaction y.version.transaction r s f.2 g.2 h k second.1 in
    ((λ i. record { key = key.0 i; version = record { second = second.0 i; transaction = transaction.0 i } }), transaction.1)

write_same : (x y : Write) (r s : List ℕ) → SizedWrite x → SizedWrite y → ends r ≡ true → ends s ≡ true → write_words x ++ r ≡ write_words y ++ s → (x ≡ y) × (r ≡ s)
write_same x y r s f g h k e =
    let key = same_number [] x.key y.key _ _ f.0 g.0 refl refl (simp append_assoc at e) in
    let value = same_number (codes "=") x.value y.value r s f.1 g.1 h k key.1 in
    ((λ i. record { key = key.0 i; value = value.0 i }), value.1)

read_starts : (x : Read) (r : List ℕ) → SizedRead x → ends (read_words x ++ r) ≡ false
read_starts x r f = simp append_assoc (number_starts x.key _ f.0)

write_starts : (x : Write) (r : List ℕ) → SizedWrite x → ends (write_words x ++ r) ≡ false
write_starts x r f = simp append_assoc (number_starts x.key _ f.0)

tail_ends : (o : Option Part) → ends (tail_text o) ≡ true
tail_ends None = refl
tail_ends (Some p) = refl

flag_sized : (o : Option Part) → flag o < 2
flag_sized None = omega arith
flag_sized (Some p) = omega arith

tail_same : (o p : Option Part) → SizedPart o → SizedPart p → flag o ≡ flag p → tail_text o ≡ tail_text p → o ≡ p
tail_same None None f g n e = refl
tail_same None (Some q) f g n e = absurd (omega arith)
tail_same (Some p) None f g n e = absurd (omega arith)
tail_same (Some p) (Some q) f g n e =
    let second = same_number (codes " second=") p.second q.second _ _ f.0 g.0 refl refl e in
    let reads = listed_same read_words SizedRead read_same read_starts p.reads q.reads _ _ f.1 g.1 (append_cancel_left (codes " reads=[") _ _ second.1) in
    let writes = listed_same write_words SizedWrite write_same write_starts p.writes q.writes [] [] f.2 g.2 (append_cancel_left (codes " writes=[") _ _ reads.1) in
    λ i. Some (record { second = second.0 i; reads = reads.0 i; writes = writes.0 i })

pub told_apart : ToldApart
told_apart v w f g e =
    let m = v.header in
    let n = w.header in
    let kind = encode_same m.kind n.kind _ _ e in
    let transaction = same_number (codes " filing=") m.transaction n.transaction _ _ f.transaction g.transaction refl refl kind.1 in
    let sender = same_number (codes " sender=") m.sender n.sender _ _ f.sender g.sender refl refl transaction.1 in
    let view = same_number (codes " view=") m.view n.view _ _ f.view g.view refl refl sender.1 in
    let code = same_number (codes " code=") m.code n.code _ _ f.code g.code refl refl view.1 in
    let accepted = same_number (codes " accepted=") m.accepted n.accepted _ _ f.accepted g.accepted refl refl code.1 in
    let accepted_view = same_number (codes " accepted_view=") m.accepted_view n.accepted_view _ _ f.accepted_view g.accepted_view refl refl accepted.1 in
    let h = flag_sized v.content in
    let k = flag_sized w.content in
    let content = same_number (codes " content=") (flag v.content) (flag w.content) (tail_text v.content) (tail_text w.content) (omega arith) (omega arith) (tail_ends v.content) (tail_ends w.content) accepted_view.1 in
    let part = tail_same v.content w.content f.content g.content content.0 content.1 in
    λ i.
    record {
      header = record {
        kind = kind.0 i;
        transaction = transaction.0 i;
        sender = sender.0 i;
        view = view.0 i;
        code = code.0 i;
        accepted = accepted.0 i;
        accepted_view = accepted_view.0 i;
      };
      content = part i;
    }
