-- That a hashed table counts the keys that it holds.
-- It stands here because the impl cites it; there is nothing in it that a reader has to believe.
-- Its list of keys goes over places with holes, that of a tree over nodes: one for both would need the place of each entry.
use Rattle.std.specs.Prelude.{◌≡◌, ℕ, suc, true, false, cond, ◌⊎◌, List, [], ◌∷◌, length, is_some, Some, None, refl}
use Rattle.std.proofs.Common.{sym, ◌∙◌, inl, inr, arith}
use Rattle.std.proofs.lemmas.Bool.Decides.{nat_tests}
use Rattle.std.proofs.lemmas.Bool.{cases_Bool, eq-eqb}
use Rattle.store.specs.Table.{Counted, times}
use Rattle.hashed.specs.declared.table.Hashed.{Hashed}
use Rattle.hashed.specs.Places.{Slot, at, keyed, find, taken}
use Rattle.hashed.specs.Means.{hashed_table}

-- the keys that are held, by place
abbrev keys : List Slot → List ℕ
keys [] = []
keys (None ∷ xs) = keys xs
keys (Some e ∷ xs) = e.key ∷ keys xs

length_keys : (xs : List Slot) → taken xs ≡ length (keys xs)
length_keys [] = refl
length_keys (None ∷ xs) = length_keys xs
length_keys (Some e ∷ xs) = let l = length_keys xs in omega arith

no_times : (xs : List Slot) (q : ℕ) → ((i : ℕ) → keyed (at xs i) q ≡ false) → times q (keys xs) ≡ 0
no_times [] q h = refl
no_times (None ∷ xs) q h = no_times xs q (λ i. h (suc i))
no_times (Some x ∷ xs) q h = let other = h 0 in let rest = no_times xs q (λ i. h (suc i)) in grind (arith, nat_tests)

-- a key that is at one place at most is counted once or not at all
once : (xs : List Slot) (q : ℕ) → ((i j : ℕ) → keyed (at xs i) q ≡ true → keyed (at xs j) q ≡ true → i ≡ j)
    → times q (keys xs) ≡ cond (is_some (find xs q)) 1 0
once [] q h = refl
once (None ∷ xs) q h = once xs q (λ i j a b. let e : suc i ≡ suc j = h (suc i) (suc j) a b in omega arith)
once (Some x ∷ xs) q h =
    let alone : x.key ≡ q → times q (keys xs) ≡ 0 = λ e. no_times xs q (λ i. rest e i) in
    let later = once xs q (λ i j a b. let e : suc i ≡ suc j = h (suc i) (suc j) a b in omega arith) in
    grind (arith, nat_tests)
  where
    rest : x.key ≡ q → (i : ℕ) → keyed (at xs i) q ≡ false
    rest e i = ways (cases_Bool (keyed (at xs i) q))
      where
        ways : (keyed (at xs i) q ≡ true) ⊎ (keyed (at xs i) q ≡ false) → keyed (at xs i) q ≡ false
        ways (inl a) = let z : 0 ≡ suc i = h 0 (suc i) (eq-eqb x.key q e) a in absurd (omega arith)
        ways (inr f) = f

pub counts : (h : Hashed) → Counted (hashed_table h)
counts h = record {
  keys = keys h.slots;
  held = h.counts ∙ length_keys h.slots;
  once = λ q. once h.slots q (λ i j s t. sym (h.reached i q s) ∙ h.reached j q t);
  bound = h.bound;
  small = h.capacity.bounds;
}
