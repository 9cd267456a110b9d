use Rattle.std.specs.Prelude.{◌≡◌, ℕ, ◌<◌, Bool, true, false, ◌⊎◌, List, length, Some, None, Option, slice_index_or}
use Rattle.std.specs.declared.cmp.Ordering.{Ordering}
use Rattle.std.specs.Ordering.{MatchOrdering, is_lt}

-- Of any two, exactly one holds: the first lies below the second, they are the same, or the second lies below the first.
pub record IsTotalOrder {K : Type 0} (below : K → K → Bool) : Type 0 where
  pub irreflexive : (x : K) → below x x ≡ false
  pub one_way : (x y : K) → below x y ≡ true → below y x ≡ false
  pub transitive : (x y z : K) → below x y ≡ true → below y z ≡ true → below x z ≡ true
  pub total : (x y : K) → (below x y ≡ true) ⊎ ((x ≡ y) ⊎ (below y x ≡ true))

-- a comparison puts the first before the second
abbrev pub precedes : {K : Type 0} → (K → K → Ordering) → K → K → Bool
precedes cmp x y = is_lt (cmp x y)

-- a comparison answers by `below`, and Equal of the same alone
abbrev pub Compares : {K : Type 0} → (K → K → Bool) → (K → K → Ordering) → Type 0
Compares {K} below cmp = (x y : K) → MatchOrdering (cmp x y) (below x y ≡ true) (x ≡ y) (below y x ≡ true)

-- x is one of xs
abbrev pub OneOf : {K : Type 0} → K → List K → Type 0
OneOf x xs = (k : ℕ) × (k < length xs) × (x ≡ slice_index_or xs k x)

-- m is one of xs, and none of xs beats it
pub record Unbeaten {K : Type 0} (beats : K → K → Bool) (xs : List K) (m : K) : Type 0 where
  pub one : OneOf m xs
  pub best : (x : K) → OneOf x xs → beats x m ≡ false

-- None for no elements, else one of them that none beats
abbrev pub Extreme : {K : Type 0} → (K → K → Bool) → List K → Option K → Type 0
Extreme beats xs None = length xs ≡ 0
Extreme beats xs (Some m) = Unbeaten beats xs m

-- one of xs, and none of xs lies above it
abbrev pub Greatest : {K : Type 0} → (K → K → Bool) → List K → Option K → Type 0
Greatest below xs r = Extreme (λ x m. below m x) xs r

-- one of xs, and none of xs lies below it
abbrev pub Least : {K : Type 0} → (K → K → Bool) → List K → Option K → Type 0
Least below xs r = Extreme below xs r
