-- That a search tree counts the keys that it holds: the descent for a key has one end, so no two nodes have one key.
-- It stands here because the impl cites it; there is nothing in it that a reader has to believe.
-- Its list of keys goes over nodes, that of a hashed table over places with holes: one for both would need the place of each entry.
use Rattle.std.specs.Prelude.{◌≡◌, ℕ, suc, ◌<◌, cond, ◌≢◌, ◌⊎◌, List, [], ◌∷◌, length, is_some, Some, None, refl}
use Rattle.std.proofs.Common.{sym, ap, ◌∙◌, subst, inl, inr, arith}
use Rattle.std.proofs.Math.Logic.{∥∥₁_elim}
use Rattle.std.proofs.Math.Nat.{ℕ_set}
use Rattle.std.proofs.lemmas.Bool.Decides.{nat_tests}
use Rattle.store.specs.Table.{Counted, times}
use Rattle.tree.specs.declared.arena.Tree.{Tree}
use Rattle.tree.specs.declared.node.Node.{Node}
use Rattle.tree.specs.Nodes.{at, next_of, find, Leads, here, lower, higher, Reached}
use Rattle.tree.specs.Means.{tree_table}

-- the three ways on from a node
pub next_lower : (x : Node) (k : ℕ) → k < x.entry.key → next_of x k ≡ x.lower
next_lower x k h = grind (arith, nat_tests)

pub next_higher : (x : Node) (k : ℕ) → x.entry.key < k → next_of x k ≡ x.higher
next_higher x k h = grind (arith, nat_tests)

pub next_own : (x : Node) (k : ℕ) → x.entry.key ≡ k → next_of x k ≡ None
next_own x k e = grind (arith, nat_tests)

module _ (xs : List Node) (k : ℕ) where
  -- the first step of a way, if it has one
  abbrev First : ℕ → ℕ → Type 0
  First i j = (i ≡ j) ⊎ ((c : ℕ) × (next_of (at xs i) k ≡ Some c) × Leads xs k c j)

  first : (i j : ℕ) → Leads xs k i j → First i j
  first i j here = inl refl
  first i j (lower {c = c} h l w) = inr (c, next_lower (at xs i) k h ∙ l, w)
  first i j (higher {c = c} h l w) = inr (c, next_higher (at xs i) k h ∙ l, w)

  -- a way from where the descent ends has no step
  stays : (i j : ℕ) → next_of (at xs i) k ≡ None → Leads xs k i j → i ≡ j
  stays i j e w = go (first i j w)
    where
      go : First i j → i ≡ j
      go (inl s) = s
      go (inr (c, n, v)) = cc

  -- a way to where the descent ends takes the step that there is
  steps : (i c q : ℕ) → next_of (at xs i) k ≡ Some c → next_of (at xs q) k ≡ None → Leads xs k i q → Leads xs k c q
  steps i c q n f v = go (first i q v)
    where
      go : First i q → Leads xs k c q
      go (inl s) = cc
      go (inr (b, m, u)) = let s : b ≡ c = cc in subst (λ (d : ℕ). Leads xs k d q) s u

  -- the descent for a key has one end
  pub one_end : (i p q : ℕ) → Leads xs k i p → next_of (at xs p) k ≡ None → Leads xs k i q → next_of (at xs q) k ≡ None → p ≡ q
  one_end i p q here e v f = stays i q e v
  one_end i p q (lower {c = c} h l w) e v f = one_end c p q w e (steps i c q (next_lower (at xs i) k h ∙ l) f v) f
  one_end i p q (higher {c = c} h l w) e v f = one_end c p q w e (steps i c q (next_higher (at xs i) k h ∙ l) f v) f

-- no two nodes have one key
pub one_node : (xs : List Node) → Reached xs
    → (i j : ℕ) → i < length xs → j < length xs → (at xs i).entry.key ≡ (at xs j).entry.key → i ≡ j
one_node xs r i j a b e = ∥∥₁_elim (r i a) (ℕ_set i j) (λ v. ∥∥₁_elim (r j b) (ℕ_set i j) (λ w. meet v w))
  where
    meet : Leads xs (at xs i).entry.key 0 i → Leads xs (at xs j).entry.key 0 j → i ≡ j
    meet v w =
        let own_i = next_own (at xs i) (at xs j).entry.key e in
        let own_j = next_own (at xs j) (at xs j).entry.key refl in
        one_end xs (at xs j).entry.key 0 i j (subst (λ (k : ℕ). Leads xs k 0 i) e v) own_i w own_j

abbrev keys : List Node → List ℕ
keys [] = []
keys (x ∷ xs) = x.entry.key ∷ keys xs

length_keys : (xs : List Node) → length xs ≡ length (keys xs)
length_keys [] = refl
length_keys (x ∷ xs) = ap suc (length_keys xs)

no_times : (xs : List Node) (q : ℕ) → ((i : ℕ) → i < length xs → (at xs i).entry.key ≢ q) → times q (keys xs) ≡ 0
no_times [] q h = refl
no_times (x ∷ xs) q h =
    let here : x.entry.key ≢ q = h 0 (omega arith) in
    let rest = no_times xs q (λ i l. h (suc i) (omega arith)) in
    grind (arith, nat_tests)

-- a key that one node at most has is counted once or not at all
once : (xs : List Node) (q : ℕ) → ((i j : ℕ) → i < length xs → j < length xs → (at xs i).entry.key ≡ q → (at xs j).entry.key ≡ q → i ≡ j)
    → times q (keys xs) ≡ cond (is_some (find xs q)) 1 0
once [] q h = refl
once (x ∷ xs) q h =
    let alone : x.entry.key ≡ q → times q (keys xs) ≡ 0 = λ e. no_times xs q (λ i a w. let z : 0 ≡ suc i = h 0 (suc i) (omega arith) (omega arith) e w in omega arith) in
    let rest = once xs q (λ i j a b v w. let z : suc i ≡ suc j = h (suc i) (suc j) (omega arith) (omega arith) v w in omega arith) in
    grind (arith, nat_tests)

pub counts : (t : Tree) → Counted (tree_table t)
counts t = record {
  keys = keys t.nodes.items;
  held = length_keys t.nodes.items;
  once = λ q. once t.nodes.items q (λ i j a b e f. one_node t.nodes.items t.reached i j a b (e ∙ sym f));
  bound = t.bound;
  small = t.capacity.bounds;
}
