-- What a push and an append leave where there is room.
use Rattle.std.proofs.Common.{◌≡◌, ℕ, ◌+◌, ◌<◌, ◌≤◌, List, [], ◌∷◌, ◌++◌, length, true, false, Some, None, Option, Ok, Err, Result, refl, ap, arith}
use Rattle.std.specs.Option.{is_some}
use Rattle.std.specs.Result.{is_ok}
use Rattle.std.proofs.lemmas.Bool.{true≢false, false≢true}
use Rattle.bounded.specs.declared.Full.{Full}
use Rattle.bounded.specs.Lists.{Held, Pushed, Extended}

pub pushed : {X : Type 0} (n : ℕ) (x : X) (xs xs' : List X) (r : Result (Unit {0}) X) → length xs < n → Pushed n x xs r xs' → xs' ≡ xs ++ x ∷ []
pushed n x xs xs' (Ok u) h p = p.1
pushed n x xs xs' (Err y) h p = let e = p.0 in absurd (omega arith)

pub has_room : {X : Type 0} (n : ℕ) (x : X) (xs xs' : List X) (r : Result (Unit {0}) X) → length xs < n → Pushed n x xs r xs' → is_ok r ≡ true
has_room n x xs xs' (Ok u) h p = refl
has_room n x xs xs' (Err y) h p = let e = p.0 in absurd (omega arith)

module _ {X : Type 0} (n : ℕ) (ys xs xs' : List X) where
  pub extended : (r : Result (Unit {0}) Full) → is_ok r ≡ true → Extended n ys xs r xs' → (length xs + length ys ≤ n) × (xs' ≡ xs ++ ys)
  extended (Ok u) e p = p
  extended (Err f) e p = absurd (false≢true e)

  pub not_extended : (r : Result (Unit {0}) Full) → is_ok r ≡ false → Extended n ys xs r xs' → n < length xs + length ys
  not_extended (Ok u) e p = absurd (true≢false e)
  not_extended (Err f) e p = p.0

  pub appended : (r : Result (Unit {0}) Full) (u : Unit {0}) → r ≡ Ok u → Extended n ys xs r xs' → xs' ≡ xs ++ ys
  appended r u e p = (extended r (ap is_ok e) p).1

-- a list that fits is held
pub held : {X : Type 0} (n : ℕ) (xs : List X) (o : Option (List X)) → length xs ≤ n → Held n xs o → is_some o ≡ true
held n xs None h p = absurd (omega arith)
held n xs (Some ys) h p = refl
