use Rattle.std.specs.Prelude.{ℕ, ◌-◌, List, ◌++◌, length, replicate}

-- the list filled up to n places
abbrev pub filled : {X : Type 0} → ℕ → X → List X → List X
filled n blank xs = xs ++ replicate (n - length xs) blank
