use Rattle.std.proofs.Common.{◌≡◌, Bool, true, Ordering, Less, Equal, Greater, refl, ap, sym, ◌∙◌, inl, inr}
use Rattle.std.proofs.lemmas.Cmp.{tied_itself, by_ranked}
use Rattle.std.specs.Cmp as std
use Rattle.std.specs.Ordering.{MatchOrdering, ordering_reverse, is_lt}
use Rattle.order.specs.Extremes.{IsTotalOrder, Compares, precedes}

less : (r : Ordering) → is_lt r ≡ true → r ≡ Less
less Less h = refl
less Equal h = cc
less Greater h = cc

-- A comparison by std's laws that answers Equal of the same alone, and Less where `below` holds.
pub record Ranks {K : Type 0} (below : K → K → Bool) (compare : K → K → Ordering) : Type 0 where
  pub laws : std.IsTotalOrder compare
  pub same : (x y : K) → compare x y ≡ Equal → x ≡ y
  pub tells : (x y : K) → precedes compare x y ≡ below x y

module _ {K : Type 0} {below : K → K → Bool} {compare : K → K → Ordering} (ranks : Ranks below compare) where
  turned : (x y : K) (r : Ordering) → compare x y ≡ r → below y x ≡ is_lt (ordering_reverse r)
  turned x y r e = sym (ranks.tells y x) ∙ ap is_lt (ranks.laws.antisymm y x ∙ ap ordering_reverse e)

  pub compares : Compares below compare
  compares x y = go (compare x y) refl
    where
      go : (r : Ordering) → compare x y ≡ r → MatchOrdering r (below x y ≡ true) (x ≡ y) (below y x ≡ true)
      go Less e = sym (ranks.tells x y) ∙ ap is_lt e
      go Equal e = ranks.same x y e
      go Greater e = turned x y Greater e

  put_before : (x y : K) → below x y ≡ true → compare x y ≡ Less
  put_before x y h = less (compare x y) (ranks.tells x y ∙ h)

  pub ordered : IsTotalOrder below
  ordered = record {
    irreflexive = λ x. sym (ranks.tells x x) ∙ ap is_lt (tied_itself ranks.laws x);
    one_way = λ x y h. turned x y Less (put_before x y h);
    transitive = λ x y z h k. sym (ranks.tells x z) ∙ ap is_lt (ranks.laws.trans x y z (put_before x y h) (put_before y z k));
    total = λ x y. by_ranked _ _ _ (compare x y) (compares x y) (λ _ h. inl h) (λ _ h. inr (inl h)) (λ _ h. inr (inr h));
  }
