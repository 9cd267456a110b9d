-- Descents from node to node, and what becomes of them when nodes change.
use Rattle.std.proofs.Common.{◌≡◌, ℕ, zero, suc, ◌+◌, ◌<◌, ◌≤◌, true, ◌&&◌, ltb, ◌⊎◌, List, length, Some, None, Option, refl, sym, ◌∙◌, subst, inl, inr, arith}
use Rattle.std.proofs.Math.Logic.{∥∥₁_elim}
use Rattle.std.proofs.Math.Nat.{ℕ_set}
use Rattle.std.proofs.lemmas.Bool.{cases_order, and_parts, ltb-true}
use Rattle.tree.specs.declared.node.Node.{Node}
use Rattle.tree.specs.Nodes.{at, next_of, Leads, here, lower, higher, Descent, Reached, Linked}
use Rattle.tree.specs.Laws.{Ended, own, lowest, highest}
use Rattle.tree.specs.Counts.{next_lower, next_higher, next_own, one_end}

pub ended : (x : Node) (k : ℕ) → next_of x k ≡ None → Ended x k
ended x k e = go (cases_order x.entry.key k)
  where
    go : (x.entry.key ≡ k) ⊎ ((x.entry.key < k) ⊎ (k < x.entry.key)) → Ended x k
    go (inl h) = own h
    go (inr (inl h)) = highest h (sym (next_higher x k h) ∙ e)
    go (inr (inr h)) = lowest h (sym (next_lower x k h) ∙ e)

module _ (xs : List Node) (k : ℕ) where
  -- one step more, before a way or after it
  pub before : (i c j : ℕ) → next_of (at xs i) k ≡ Some c → Leads xs k c j → Leads xs k i j
  before i c j e w = go (cases_order (at xs i).entry.key k)
    where
      go : ((at xs i).entry.key ≡ k) ⊎ (((at xs i).entry.key < k) ⊎ (k < (at xs i).entry.key)) → Leads xs k i j
      go (inl h) = let f = next_own (at xs i) k h in cc
      go (inr (inl h)) = higher h (sym (next_higher (at xs i) k h) ∙ e) w
      go (inr (inr h)) = lower h (sym (next_lower (at xs i) k h) ∙ e) w

  pub after : (i j c : ℕ) → Leads xs k i j → next_of (at xs j) k ≡ Some c → Leads xs k i c
  after i j c here e = before i c c e here
  after i j c (lower {c = b} h l w) e = lower h l (after b j c w e)
  after i j c (higher {c = b} h l w) e = higher h l (after b j c w e)

module _ (xs : List Node) (l : Linked xs) where
  pub link : (i k c : ℕ) → i < length xs → next_of (at xs i) k ≡ Some c → (i < c) × (c < length xs)
  link i k c a e =
      let b : (ltb i c && ltb c (length xs)) ≡ true = rw e at (l i k a) in
      let d = and_parts (ltb i c) (ltb c (length xs)) b in
      (ltb-true i c d.0, ltb-true c (length xs) d.1)

  -- one step down
  pub follows : (k i c : ℕ) → (i < length xs) × Leads xs k 0 i → next_of (at xs i) k ≡ Some c → (c < length xs) × Leads xs k 0 c
  follows k i c w e = ((link i k c w.0 e).1, after xs k 0 i c w.1 e)

  -- every descent ends, since it goes to later nodes only
  to_end : (k m s : ℕ) → s < length xs → length xs ≤ s + m → (p : ℕ) × (p < length xs) × Leads xs k s p × (next_of (at xs p) k ≡ None)
  to_end k zero s a b = absurd (omega arith)
  to_end k (suc m) s a b = go (λ c x y. to_end k m c x y) (next_of (at xs s) k) refl
    where
      go : ((c : ℕ) → c < length xs → length xs ≤ c + m → (p : ℕ) × (p < length xs) × Leads xs k c p × (next_of (at xs p) k ≡ None))
          → (o : Option ℕ) → next_of (at xs s) k ≡ o → (p : ℕ) × (p < length xs) × Leads xs k s p × (next_of (at xs p) k ≡ None)
      go more None e = (s, a, here, e)
      go more (Some c) e =
          let d = link s k c a e in
          let w = more c d.1 (omega arith) in
          (w.0, w.1, before xs k s c w.0 e w.2, w.3)

  pub descent : (k : ℕ) → 0 < length xs → (p : ℕ) × Descent xs k p
  descent k a = let d = to_end k (length xs) 0 a (omega arith) in (d.0, record { path = d.2; within = d.1; ends = d.3 })

  module _ (r : Reached xs) where
    -- the descent for the key of a node ends there
    pub own_end : (i p : ℕ) → i < length xs → Descent xs (at xs i).entry.key p → p ≡ i
    own_end i p a d = ∥∥₁_elim (r i a) (ℕ_set p i) (λ w. one_end xs (at xs i).entry.key 0 p i d.path d.ends w (next_own (at xs i) (at xs i).entry.key refl))

    pub own_way : (i : ℕ) → i < length xs → Leads xs (at xs i).entry.key 0 i
    own_way i a =
        let d = descent (at xs i).entry.key (omega arith) in
        subst (λ (p : ℕ). Leads xs (at xs i).entry.key 0 p) (own_end i d.0 a d.1) d.1.path

-- from the nodes of xs the descent for k goes on as it did
abbrev pub Still : List Node → List Node → ℕ → Type 0
Still xs xs' k = (i c : ℕ) → i < length xs → next_of (at xs i) k ≡ Some c → next_of (at xs' i) k ≡ Some c

pub still_leads : (xs xs' : List Node) (k i j : ℕ) → Linked xs → Still xs xs' k → i < length xs → Leads xs k i j → Leads xs' k i j
still_leads xs xs' k i j l s a here = here
still_leads xs xs' k i j l s a (lower {c = c} h e w) =
    let f : next_of (at xs i) k ≡ Some c = next_lower (at xs i) k h ∙ e in
    before xs' k i c j (s i c a f) (still_leads xs xs' k c j l s (link xs l i k c a f).1 w)
still_leads xs xs' k i j l s a (higher {c = c} h e w) =
    let f : next_of (at xs i) k ≡ Some c = next_higher (at xs i) k h ∙ e in
    before xs' k i c j (s i c a f) (still_leads xs xs' k c j l s (link xs l i k c a f).1 w)
