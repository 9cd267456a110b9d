-- What a descent finds, and what a put does to the tree.
use Rattle.std.proofs.Common.{◌≡◌, ℕ, zero, suc, ◌+◌, ◌<◌, ◌≤◌, true, ◌≢◌, ◌⊎◌, List, [], ◌∷◌, ◌++◌, length, set, is_some, Some, None, Ok, Err, Option, refl, sym, ap, ◌∙◌, subst, inl, inr, arith, length-append}
use Rattle.std.proofs.Math.Seq.{get_or-append_seam}
use Rattle.std.proofs.lemmas.List.{get_or-set_same, get_or-set_other, get_or_append_left, length-set}
use Rattle.std.proofs.lemmas.Bool.Decides.{nat_tests}
use Rattle.std.proofs.lemmas.Bool.{cases_eq}
use Rattle.values.specs.declared.refusal.Refusal.TheVariants.{StoreFull}
use Rattle.store.specs.declared.Row.{Row}
use Rattle.store.specs.Table.{Table, Put, row_at, null_row}
use Rattle.store.proofs.Puts.{put_again, put_new, put_full}
use Rattle.tree.specs.declared.node.Node.{Node}
use Rattle.tree.specs.Nodes.{at, next_of, linked_to, leaf_of, rowed, changed, grown, find, onward, Leads, here, Descent, Reached, Linked}
use Rattle.tree.proofs.Descents.{after, own_end, own_way, Still, still_leads}

everywhere : (P : ℕ → Type 0) (p : ℕ) → P p → ((i : ℕ) → i ≢ p → P i) → (i : ℕ) → P i
everywhere P p at_p rest i = go (cases_eq i p)
  where
    go : (i ≡ p) ⊎ (i ≢ p) → P i
    go (inl e) = subst P (sym e) at_p
    go (inr d) = rest i d

-- what a look at each node finds
find_none : (xs : List Node) (q : ℕ) → ((i : ℕ) → i < length xs → (at xs i).entry.key ≢ q) → find xs q ≡ None
find_none [] q h = refl
find_none (x ∷ xs) q h =
    let here : x.entry.key ≢ q = h 0 (omega arith) in
    let rest = find_none xs q (λ i l. h (suc i) (omega arith)) in
    grind (arith, nat_tests)

pub find_some : (xs : List Node) (p q : ℕ) → p < length xs → (at xs p).entry.key ≡ q
    → ((i : ℕ) → i < length xs → (at xs i).entry.key ≡ q → i ≡ p) → find xs q ≡ Some (at xs p).entry.row
find_some [] p q l e h = absurd (omega arith)
find_some (x ∷ xs) zero q l e h = grind (arith, nat_tests)
find_some (x ∷ xs) (suc p) q l e h =
    let other : x.entry.key ≢ q = λ s. let z : 0 ≡ suc p = h 0 (omega arith) s in omega arith in
    let rest = find_some xs p q (omega arith) e (λ i a v. let z : suc i ≡ suc p = h (suc i) (omega arith) v in omega arith) in
    grind (arith, nat_tests)

find_same : (xs xs' : List Node) (q : ℕ) → length xs' ≡ length xs → ((i : ℕ) → i < length xs → (at xs' i).entry.key ≡ (at xs i).entry.key)
    → ((i : ℕ) → i < length xs → (at xs i).entry.key ≡ q → (at xs' i).entry.row ≡ (at xs i).entry.row) → find xs' q ≡ find xs q
find_same [] [] q l k r = refl
find_same [] (y ∷ ys) q l k r = absurd (omega arith)
find_same (x ∷ xs) [] q l k r = absurd (omega arith)
find_same (x ∷ xs) (y ∷ ys) q l k r =
    let key : y.entry.key ≡ x.entry.key = k 0 (omega arith) in
    let row : x.entry.key ≡ q → y.entry.row ≡ x.entry.row = r 0 (omega arith) in
    let rest = find_same xs ys q (omega arith) (λ i a. k (suc i) (omega arith)) (λ i a. r (suc i) (omega arith)) in
    grind (arith, nat_tests)

find_front : (xs : List Node) (x : Node) (q : ℕ) → q ≢ x.entry.key → find (xs ++ x ∷ []) q ≡ find xs q
find_front [] x q d = grind (arith, nat_tests)
find_front (y ∷ ys) x q d = let rest = find_front ys x q d in grind (arith, nat_tests)

-- nodes that keep their keys and lead on as they did are reached as they were
still_reached : (xs xs' : List Node) → Linked xs → Reached xs → ((i : ℕ) → i < length xs → (at xs' i).entry.key ≡ (at xs i).entry.key) → ((k : ℕ) → Still xs xs' k)
    → (i : ℕ) → i < length xs → Leads xs' (at xs' i).entry.key 0 i
still_reached xs xs' l r keys still i a =
    subst (λ (k : ℕ). Leads xs' k 0 i) (sym (keys i a)) (still_leads xs xs' (at xs i).entry.key 0 i l (still (at xs i).entry.key) (omega arith) (own_way xs l r i a))

-- a link set on the side of k, where there was none
linked_entry : (x : Node) (k c : ℕ) → (linked_to x k c).entry ≡ x.entry
linked_entry x k c = grind (arith, nat_tests)

linked_own : (x : Node) (k c : ℕ) → x.entry.key ≢ k → next_of (linked_to x k c) k ≡ Some c
linked_own x k c d = grind (arith, nat_tests)

linked_next : (x : Node) (k c j : ℕ) → x.entry.key ≢ k → next_of x k ≡ None
    → (next_of (linked_to x k c) j ≡ next_of x j) ⊎ ((next_of (linked_to x k c) j ≡ Some c) × (next_of x j ≡ None))
linked_next x k c j d e = grind (arith, nat_tests)

next_leaf : (k j : ℕ) (v : Row) → next_of (leaf_of k v) j ≡ None
next_leaf k j v = grind (arith, nat_tests)

onward_some : (i n c : ℕ) → i < c → c < n → onward i n (Some c) ≡ true
onward_some i n c a b = grind (arith, nat_tests)

onward_more : (i n : ℕ) (o : Option ℕ) → onward i n o ≡ true → onward i (n + 1) o ≡ true
onward_more i n None h = refl
onward_more i n (Some c) h = grind (arith, nat_tests)

abbrev pub table : List Node → ℕ → Table
table xs most = record { look = find xs; held = length xs; most = most }

-- a tree after a put that is not refused, with its ghost fields
pub record Written (xs : List Node) (k : ℕ) (v : Row) (most : ℕ) (ys : List Node) : Type 0 where
  pub put : Put (table xs most) k v (Ok tt) (table ys most)
  pub reached : Reached ys
  pub linked : Linked ys
  pub bound : length ys ≤ most

-- the first put
pub begins : (xs : List Node) (k : ℕ) (v : Row) (most : ℕ) {ys : List Node} {z : Node} → length xs ≡ 0 → 0 < most → z ≡ leaf_of k v → ys ≡ xs ++ z ∷ [] → Written xs k v most ys
begins [] k v most o l e f = subst (λ (ys : List Node). Written [] k v most ys) (sym (f ∙ ap (λ z. z ∷ []) e)) (record {
  put = put_new (table [] most) (table (leaf_of k v ∷ []) most) k v (grind (arith, nat_tests)) (λ q n. grind (arith, nat_tests)) refl refl l refl;
  reached = λ i a. let e : 0 ≡ i = omega arith in ∣ subst (λ (j : ℕ). Leads (leaf_of k v ∷ []) (at (leaf_of k v ∷ []) i).entry.key 0 j) e here ∣₁;
  linked = λ i j a. let e : i ≡ 0 = omega arith in ap (onward i 1) (ap (λ m. next_of (at (leaf_of k v ∷ []) m) j) e ∙ next_leaf k j v);
  bound = l;
})
begins (x ∷ xs) k v most o l e f = absurd (omega arith)

-- a put, in a tree where the descent for k ends at p
module _ {xs : List Node} {k p : ℕ} (linked : Linked xs) (reached : Reached xs) (d : Descent xs k p) where
  only : (i : ℕ) → i < length xs → (at xs i).entry.key ≡ k → i ≡ p
  only i a e = sym (own_end xs linked reached i p a (subst (λ (j : ℕ). Descent xs j p) (sym e) d))

  holds_own : (at xs p).entry.key ≡ k → find xs k ≡ Some (at xs p).entry.row
  holds_own e = find_some xs p k d.within e only

  holds_not : (at xs p).entry.key ≢ k → find xs k ≡ None
  holds_not n = find_none xs k (λ i a e. n (subst (λ (j : ℕ). (at xs j).entry.key ≡ k) (only i a e) e))

  -- the descent finds what a look at each node finds
  pub found : row_at (at xs p).entry k ≡ find xs k
  found = grind (arith, nat_tests, holds_own, holds_not)

  module _ (most : ℕ) (v : Row) where
    pub refuses : (at xs p).entry.key ≢ k → most ≤ length xs → Put (table xs most) k v (Err (StoreFull k)) (table xs most)
    refuses n l = put_full (table xs most) k v (ap is_some (holds_not n)) l

    -- the node of the key gets another row
    module _ (own : (at xs p).entry.key ≡ k) where
      abbrev rows : List Node
      rows = changed xs p v

      at_own : at rows p ≡ rowed (at xs p) v
      at_own = get_or-set_same xs p (rowed (at xs p) v) (leaf_of 0 null_row) d.within

      at_others : (i : ℕ) → i ≢ p → at rows i ≡ at xs i
      at_others i n = get_or-set_other xs p i (rowed (at xs p) v) (leaf_of 0 null_row) n

      same_length : length rows ≡ length xs
      same_length = length-set xs p (rowed (at xs p) v)

      same_key : (i : ℕ) → (at rows i).entry.key ≡ (at xs i).entry.key
      same_key = everywhere (λ i. (at rows i).entry.key ≡ (at xs i).entry.key) p (ap (λ x. x.entry.key) at_own) (λ i n. ap (λ x. x.entry.key) (at_others i n))

      same_next : (j i : ℕ) → next_of (at rows i) j ≡ next_of (at xs i) j
      same_next j = everywhere (λ i. next_of (at rows i) j ≡ next_of (at xs i) j) p (ap (λ x. next_of x j) at_own) (λ i n. ap (λ x. next_of x j) (at_others i n))

      look_own : find rows k ≡ Some v
      look_own = find_some rows p k (omega (arith, same_length, d.within)) (same_key p ∙ own) (λ i a e. only i (omega (arith, same_length)) (sym (same_key i) ∙ e)) ∙ ap (λ x. Some x.entry.row) at_own

      look_others : (q : ℕ) → q ≢ k → find rows q ≡ find xs q
      look_others q n = find_same xs rows q same_length (λ i a. same_key i)
          (λ i a e. ap (λ x. x.entry.row) (at_others i (λ s. n (sym e ∙ ap (λ j. (at xs j).entry.key) s ∙ own))))

      pub changes : length xs ≤ most → {ys : List Node} → ys ≡ rows → Written xs k v most ys
      changes l e = subst (λ (ys : List Node). Written xs k v most ys) (sym e) (record {
        put = put_again (table xs most) (table rows most) k v look_own look_others refl (ap is_some (holds_own own)) same_length;
        reached = λ i a. ∣ still_reached xs rows linked reached (λ j b. same_key j) (λ j b c l f. same_next j b ∙ f) i (omega (arith, same_length)) ∣₁;
        linked = λ i j a. ap (onward i (length rows)) (same_next j i) ∙ rw same_length (linked i j (omega (arith, same_length)));
        bound = omega (arith, same_length);
      })

    -- a new leaf gets the key, and the node where the descent ended leads to it
    module _ (new : (at xs p).entry.key ≢ k) (room : length xs < most) where
      abbrev n : ℕ
      n = length xs

      abbrev parent : Node
      parent = linked_to (at xs p) k n

      abbrev more : List Node
      more = grown xs p k v

      same_front : length (set xs p parent) ≡ n
      same_front = length-set xs p parent

      one_more : length more ≡ n + 1
      one_more = length-append (set xs p parent) (leaf_of k v ∷ []) ∙ omega (arith, same_front)

      at_new : at more n ≡ leaf_of k v
      at_new = subst (λ (m : ℕ). at more m ≡ leaf_of k v) same_front (get_or-append_seam (set xs p parent) (leaf_of k v) [] (leaf_of 0 null_row))

      at_old : (i : ℕ) → i < n → at more i ≡ at (set xs p parent) i
      at_old i a = get_or_append_left (set xs p parent) (leaf_of k v ∷ []) (leaf_of 0 null_row) i (omega (arith, same_front))

      at_parent : at more p ≡ parent
      at_parent = at_old p d.within ∙ get_or-set_same xs p parent (leaf_of 0 null_row) d.within

      at_rest : (i : ℕ) → i ≢ p → i < n → at more i ≡ at xs i
      at_rest i m a = at_old i a ∙ get_or-set_other xs p i parent (leaf_of 0 null_row) m

      old_entry : (i : ℕ) → i < n → (at more i).entry ≡ (at xs i).entry
      old_entry = everywhere (λ i. i < n → (at more i).entry ≡ (at xs i).entry) p
          (λ a. ap (λ x. x.entry) at_parent ∙ linked_entry (at xs p) k n) (λ i m a. ap (λ x. x.entry) (at_rest i m a))

      old_key : (i : ℕ) → i < n → (at more i).entry.key ≡ (at xs i).entry.key
      old_key i a = ap (λ e. e.key) (old_entry i a)

      -- a node leads on as it did, or to the leaf if it led nowhere
      abbrev On : ℕ → ℕ → Type 0
      On j i = (next_of (at more i) j ≡ next_of (at xs i) j) ⊎ ((next_of (at more i) j ≡ Some n) × (next_of (at xs i) j ≡ None))

      old_next : (j i : ℕ) → i < n → On j i
      old_next j = everywhere (λ i. i < n → On j i) p
          (λ a. rw at_parent (linked_next (at xs p) k n j new d.ends)) (λ i m a. inl (ap (λ x. next_of x j) (at_rest i m a)))

      old_still : (j : ℕ) → Still xs more j
      old_still j i c a e = go (old_next j i a)
        where
          go : On j i → next_of (at more i) j ≡ Some c
          go (inl s) = s ∙ e
          go (inr (s, f)) = cc

      leads_new : Leads more k 0 n
      leads_new = after more k 0 p n (still_leads xs more k 0 p linked (old_still k) (omega (arith, d.within)) d.path)
          (ap (λ x. next_of x k) at_parent ∙ linked_own (at xs p) k n new)

      more_reached : (i : ℕ) → i < n + 1 → Leads more (at more i).entry.key 0 i
      more_reached = everywhere (λ i. i < n + 1 → Leads more (at more i).entry.key 0 i) n
          (λ a. rw at_new leads_new) (λ i m a. still_reached xs more linked reached old_key old_still i (omega arith))

      more_linked : (j i : ℕ) → i < n + 1 → onward i (n + 1) (next_of (at more i) j) ≡ true
      more_linked j = everywhere (λ i. i < n + 1 → onward i (n + 1) (next_of (at more i) j) ≡ true) n
          (λ a. rw (at_new, next_leaf k j v) refl) (λ i m a. let b : i < n = omega arith in old i b (old_next j i b))
        where
          old : (i : ℕ) → i < n → On j i → onward i (n + 1) (next_of (at more i) j) ≡ true
          old i b (inl s) = rw s (onward_more i n (next_of (at xs i) j) (linked i j b))
          old i b (inr (s, f)) = rw s (onward_some i (n + 1) n b (omega arith))

      -- no other node has the key
      alone : (i : ℕ) → i < length more → (at more i).entry.key ≡ k → i ≡ n
      alone = everywhere (λ i. i < length more → (at more i).entry.key ≡ k → i ≡ n) n (λ a e. refl) (λ i m a e.
          let b : i < n = omega (arith, one_more) in
          let h : (at xs i).entry.key ≡ k = sym (old_key i b) ∙ e in
          absurd (new (subst (λ (j : ℕ). (at xs j).entry.key ≡ k) (only i b h) h)))

      look_new : find more k ≡ Some v
      look_new = find_some more n k (omega (arith, one_more)) (ap (λ x. x.entry.key) at_new) alone ∙ ap (λ x. Some x.entry.row) at_new

      look_old : (q : ℕ) → q ≢ k → find more q ≡ find xs q
      look_old q m = find_front (set xs p parent) (leaf_of k v) q m
          ∙ find_same xs (set xs p parent) q same_front (λ i a. ap (λ x. x.entry.key) (sym (at_old i a)) ∙ old_key i a) (λ i a e. ap (λ x. x.entry.row) (sym (at_old i a)) ∙ ap (λ x. x.row) (old_entry i a))

      pub adds : {ys : List Node} → ys ≡ more → Written xs k v most ys
      adds e = subst (λ (ys : List Node). Written xs k v most ys) (sym e) (record {
        put = put_new (table xs most) (table more most) k v look_new look_old refl (ap is_some (holds_not new)) room one_more;
        reached = λ i a. ∣ more_reached i (omega (arith, one_more)) ∣₁;
        linked = λ i j a. rw one_more (more_linked j i (omega (arith, one_more)));
        bound = omega (arith, one_more);
      })
