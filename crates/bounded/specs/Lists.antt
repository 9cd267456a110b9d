use Rattle.std.specs.Prelude.{◌≡◌, ℕ, ◌+◌, ◌<◌, ◌≤◌, List, [], ◌∷◌, ◌++◌, length, Some, None, Ok, Err, Option, Result}
use Rattle.bounded.specs.declared.Full.{Full}

-- the list itself, or none exactly if it has more than n items
abbrev pub Held : {X : Type 0} → ℕ → List X → Option (List X) → Type 0
Held n xs None = n < length xs
Held n xs (Some ys) = (length xs ≤ n) × (ys ≡ xs)

-- the list with the item behind it, or the item back and the list as it was exactly if it has n items
abbrev pub Pushed : {X : Type 0} → ℕ → X → List X → Result (Unit {0}) X → List X → Type 0
Pushed n x xs (Ok _) xs' = (length xs < n) × (xs' ≡ xs ++ x ∷ [])
Pushed n x xs (Err y) xs' = (length xs ≡ n) × (y ≡ x) × (xs' ≡ xs)

-- the list with the items behind it, or the list as it was exactly if there is no room for all
abbrev pub Extended : {X : Type 0} → ℕ → List X → List X → Result (Unit {0}) Full → List X → Type 0
Extended n ys xs (Ok _) xs' = (length xs + length ys ≤ n) × (xs' ≡ xs ++ ys)
Extended n ys xs (Err _) xs' = (n < length xs + length ys) × (xs' ≡ xs)
