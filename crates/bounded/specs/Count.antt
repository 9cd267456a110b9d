-- How many items stand in front of the blanks.
-- It stands here because the model cites it; there is nothing in it that a reader has to believe.
use Rattle.std.proofs.Common.{◌≡◌, ℕ, ◌+◌, ◌-◌, ◌≤◌, min, List, length, take, replicate, ap, ◌∙◌, arith}
use Rattle.std.proofs.lemmas.List.{length-take, length-append, length-replicate}
use Rattle.bounded.specs.Filled.{filled}

pub count_filled : {X : Type 0} (n m : ℕ) (blank : X) (places : List X) → m ≤ n → places ≡ filled n blank (take m places) → length (take m places) ≡ m
count_filled n m blank places h e =
    let xs = take m places in
    let t : length xs ≡ min m (length places) = length-take m places in
    let l : length places ≡ length xs + (n - length xs) = ap length e ∙ length-append xs (replicate (n - length xs) blank) ∙ ap (λ (k : ℕ). length xs + k) (length-replicate (n - length xs) blank) in
    omega arith
