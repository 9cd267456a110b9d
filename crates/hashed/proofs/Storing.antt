-- What a search finds, and what a put does to the table.
use Rattle.std.proofs.Common.{◌≡◌, ℕ, zero, suc, ◌+◌, ◌<◌, ◌≤◌, true, false, ◌≢◌, ◌⊎◌, List, length, set, replicate, is_some, Some, None, Option, Ok, Err, refl, sym, ap, subst, ◌∙◌, inl, inr, arith}
use Rattle.std.proofs.lemmas.Bool.Decides.{nat_tests}
use Rattle.std.proofs.lemmas.Bool.{cases_eq, eq-eqb, ne_eqb}
use Rattle.store.specs.declared.Row.{Row}
use Rattle.store.specs.Table.{Table, Put, row_at}
use Rattle.store.proofs.Puts.{put_again, put_new, put_full}
use Rattle.values.specs.declared.refusal.Refusal.TheVariants.{StoreFull}
use Rattle.hashed.specs.declared.table.Hashed.{Hashed}
use Rattle.hashed.specs.Places.{Slot, at, holding, keyed, stops, find, taken, Reached, place_of}
use Rattle.hashed.proofs.Probing.{set_here, set_reached, find_none, find_some, find_other, searched, place_stops, taken_again, taken_new}

-- the row in the slot, if it has key k
abbrev pub row_in : Slot → ℕ → Option Row
row_in None k = None
row_in (Some e) k = row_at e k

-- no place but that where the search ends has the key
elsewhere : (xs : List Slot) (k i : ℕ) → Reached xs → i ≢ place_of xs k → keyed (at xs i) k ≡ false
elsewhere xs k i r ne = let at_end = r i k in grind arith

-- the search finds what a look at every place finds
pub found : (xs : List Slot) (k p : ℕ) → Reached xs → p ≡ place_of xs k → find xs k ≡ row_in (at xs p) k
found xs k p r e = go (at xs p) refl
  where
    only : (i : ℕ) → i ≢ p → keyed (at xs i) k ≡ false
    only i n = elsewhere xs k i r (λ h. n (h ∙ sym e))

    nowhere : keyed (at xs p) k ≡ false → find xs k ≡ None
    nowhere f = find_none xs k (λ i. every i (cases_eq i p))
      where
        every : (i : ℕ) → (i ≡ p) ⊎ (i ≢ p) → keyed (at xs i) k ≡ false
        every i (inl h) = rw h f
        every i (inr n) = only i n

    go : (s : Slot) → at xs p ≡ s → find xs k ≡ row_in s k
    go None h = nowhere (rw h refl)
    go (Some x) h = ways (cases_eq x.key k)
      where
        ways : (x.key ≡ k) ⊎ (x.key ≢ k) → find xs k ≡ row_in (Some x) k
        ways (inl s) = find_some xs p k x.row (h ∙ ap (λ j. holding j x.row) s) (λ i l. only i (omega arith)) ∙ grind (arith, nat_tests)
        ways (inr n) = nowhere (rw h (ne_eqb x.key k n)) ∙ grind (arith, nat_tests)

unkeyed : (s : Slot) (k q : ℕ) → stops s k ≡ true → q ≢ k → keyed s q ≡ false
unkeyed None k q t n = refl
unkeyed (Some x) k q t n = grind (arith, nat_tests)

pub when_vacant : (s : Slot) → is_some s ≡ false → s ≡ None
when_vacant None h = refl
when_vacant (Some x) h = cc

pub when_taken : (s : Slot) (k : ℕ) → is_some s ≡ true → stops s k ≡ true → keyed s k ≡ true
when_taken None k h t = cc
when_taken (Some x) k h t = t

abbrev pub table : List Slot → ℕ → ℕ → Table
table xs n most = record { look = find xs; held = n; most = most }

-- the place p where the search for k ends, in a table that is not full
pub record Spot (xs : List Slot) (k p : ℕ) : Type 0 where
  pub size : length xs ≡ 128
  pub reached : Reached xs
  pub few : taken xs < 128
  pub here : p ≡ place_of xs k
  pub within : p < 128

-- a table after a put that is not refused, with its ghost fields
pub record Written (xs : List Slot) (n k : ℕ) (v : Row) (most : ℕ) (ys : List Slot) (n' : ℕ) : Type 0 where
  pub put : Put (table xs n most) k v (Ok tt) (table ys n' most)
  pub reached : Reached ys
  pub counts : n' ≡ taken ys
  pub bound : n' ≤ most

some : (s : Slot) (k : ℕ) → keyed s k ≡ true → is_some (row_in s k) ≡ true
some None k h = cc
some (Some x) k h = rw h refl

-- what a put does there
module _ {xs : List Slot} {k p : ℕ} (w : Spot xs k p) (n most : ℕ) (v : Row) where
  ends : stops (at xs p) k ≡ true
  ends = rw w.here (place_stops xs k w.few)

  is_found : find xs k ≡ row_in (at xs p) k
  is_found = found xs k p w.reached w.here

  absent : is_some (at xs p) ≡ false → is_some (find xs k) ≡ false
  absent e = rw is_found (ap (λ s. is_some (row_in s k)) (when_vacant (at xs p) e))

  pub refuses : is_some (at xs p) ≡ false → most ≤ n → Put (table xs n most) k v (Err (StoreFull k)) (table xs n most)
  refuses e l = put_full (table xs n most) k v (absent e) l

  -- the count goes on if the place was empty
  abbrev pub Counting : ℕ → Type 0
  Counting n' = ((is_some (at xs p) ≡ false) × (n < most) × (n' ≡ n + 1)) ⊎ ((is_some (at xs p) ≡ true) × (n ≤ most) × (n' ≡ n))

  pub writes : {ys : List Slot} (n' : ℕ) → ys ≡ set xs p (holding k v) → n ≡ taken xs → Counting n' → Written xs n k v most ys n'
  writes {ys} n' written count how = record { put = put how; reached = reached; counts = counts how; bound = bound how }
    where
      reached : Reached ys
      reached = subst Reached (sym written) (set_reached xs p k v (omega arith) ends w.reached (sym w.here))

      at_place : at ys p ≡ holding k v
      at_place = rw written (set_here xs p k v (omega arith) ends)

      at_end : place_of ys k ≡ p
      at_end = reached p k (rw (at_place, eq-eqb k k refl) refl)

      here : find ys k ≡ Some v
      here = find_some ys p k v at_place (λ i l. elsewhere ys k i reached (λ e. absurd (omega (arith, at_end))))

      others : (q : ℕ) → q ≢ k → find ys q ≡ find xs q
      others q n = rw written (find_other xs p k q v n (unkeyed (at xs p) k q ends n))

      put : Counting n' → Put (table xs n most) k v (Ok tt) (table ys n' most)
      put (inl (e, l, more)) = put_new (table xs n most) (table ys n' most) k v here others refl (absent e) l more
      put (inr (e, l, same)) =
          let f : is_some (find xs k) ≡ true = rw is_found (some (at xs p) k (when_taken (at xs p) k e ends)) in
          put_again (table xs n most) (table ys n' most) k v here others refl f same

      counts : Counting n' → n' ≡ taken ys
      counts (inl (e, l, more)) =
          let t : taken ys ≡ taken xs + 1 = rw written (taken_new xs p k v (omega arith) (when_vacant (at xs p) e)) in
          omega arith
      counts (inr (e, l, same)) =
          let t : taken ys ≡ taken xs = rw written (taken_again xs p k v (when_taken (at xs p) k e ends)) in
          omega arith

      bound : Counting n' → n' ≤ most
      bound (inl (e, l, more)) = omega arith
      bound (inr (e, l, same)) = omega arith

-- the spot in a table, whose ghost fields give the rest
pub spot : (s : Hashed) (k p : ℕ) → length s.slots ≡ 128 → p ≡ place_of s.slots k → Spot s.slots k p
spot s k p size here =
    let few : taken s.slots < 128 = omega (arith, s.counts, s.bound, s.capacity.bounds.1) in
    let at_end : place_of s.slots k < 128 = omega (arith, (searched s.slots k few).place) in
    record { size = size; reached = s.reached; few = few; here = here; within = omega arith }

pub none_reached : (i k : ℕ) → keyed (at (replicate 128 None) i) k ≡ true → place_of (replicate 128 None) k ≡ i
none_reached i k h = let f = blank 128 i k in cc
  where
    blank : (n i k : ℕ) → keyed (at (replicate n None) i) k ≡ false
    blank zero i k = refl
    blank (suc n) zero k = refl
    blank (suc n) (suc i) k = blank n i k
