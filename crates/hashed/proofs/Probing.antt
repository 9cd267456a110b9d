-- Searches among the places, one step on and after a slot is set.
use Rattle.std.proofs.Common.{◌≡◌, ℕ, zero, suc, ◌+◌, ◌-◌, ◌%◌, ◌<◌, ◌≤◌, true, false, cond, eqb, ◌≢◌, ◌⊎◌, List, [], ◌∷◌, length, set, is_some, Some, None, refl, sym, ap, ◌∙◌, subst, inl, inr, arith}
use Rattle.std.proofs.lemmas.List.{get_or-set_same, get_or-set_other}
use Rattle.std.proofs.lemmas.Bool.Decides.{nat_tests}
use Rattle.std.proofs.lemmas.Bool.{cases_eq, cases_lt, cases_Bool, eqb-true}
use Rattle.store.specs.declared.Row.{Row}
use Rattle.hashed.specs.Places.{Slot, at, holding, keyed, stops, seek, find, taken, Reached, place_of, home_of}
use Rattle.hashed.specs.Laws.{Search}

pub seek_stop : (xs : List Slot) (k n p : ℕ) → stops (at xs p) k ≡ true → seek xs k (suc n) p ≡ p
unfolding seek
seek_stop xs k n p h = rw h refl

pub seek_go : (xs : List Slot) (k n p : ℕ) → stops (at xs p) k ≡ false → seek xs k (suc n) p ≡ seek xs k n ((p + 1) % 128)
unfolding seek
seek_go xs k n p h = rw h refl

pub seek_end : (xs : List Slot) (k p : ℕ) → seek xs k zero p ≡ p
unfolding seek
seek_end xs k p = refl

-- a search that has come i places round from s
module _ (xs : List Slot) (k s i : ℕ) where
  pub round_stop : i < 128 → stops (at xs ((s + i) % 128)) k ≡ true → seek xs k (128 - i) ((s + i) % 128) ≡ (s + i) % 128
  round_stop h t = let e : 128 - i ≡ suc (127 - i) = omega arith in rw e (seek_stop xs k (127 - i) ((s + i) % 128) t)

  pub round_go : i < 128 → stops (at xs ((s + i) % 128)) k ≡ false → seek xs k (128 - i) ((s + i) % 128) ≡ seek xs k (128 - (i + 1)) ((s + (i + 1)) % 128)
  round_go h f =
      let e : 128 - i ≡ suc (127 - i) = omega arith in
      let d : 128 - (i + 1) ≡ 127 - i = omega arith in
      let on : ((s + i) % 128 + 1) % 128 ≡ (s + (i + 1)) % 128 = omega arith in
      rw (e, d, ← on) (seek_go xs k (127 - i) ((s + i) % 128) f)

  pub round_end : s < 128 → i ≡ 128 → seek xs k (128 - i) ((s + i) % 128) ≡ s
  round_end h q =
      let e : 128 - i ≡ 0 = omega arith in
      let p : (s + i) % 128 ≡ s = omega arith in
      rw (e, p) (seek_end xs k s)

keyed_stops : (s : Slot) (k : ℕ) → keyed s k ≡ true → stops s k ≡ true
keyed_stops None k h = refl
keyed_stops (Some e) k h = h

-- A search that passes no more slots than before ends where it did, if the key is there now.
pub kept : (xs xs' : List Slot) (j : ℕ) → ((s : ℕ) → stops (at xs s) j ≡ false → stops (at xs' s) j ≡ false)
    → (n s i : ℕ) → seek xs j n s ≡ i → keyed (at xs' i) j ≡ true → seek xs' j n s ≡ i
kept xs xs' j still zero s i e h = seek_end xs' j s ∙ sym (seek_end xs j s) ∙ e
kept xs xs' j still (suc n) s i e h = go (λ d. kept xs xs' j still n ((s + 1) % 128) i d h) (cases_Bool (stops (at xs s) j))
  where
    go : (seek xs j n ((s + 1) % 128) ≡ i → seek xs' j n ((s + 1) % 128) ≡ i) → (stops (at xs s) j ≡ true) ⊎ (stops (at xs s) j ≡ false) → seek xs' j (suc n) s ≡ i
    go more (inl t) =
        let same : s ≡ i = sym (seek_stop xs j n s t) ∙ e in
        let there : keyed (at xs' s) j ≡ true = rw same h in
        seek_stop xs' j n s (keyed_stops (at xs' s) j there) ∙ same
    go more (inr f) = seek_go xs' j n s (still s f) ∙ more (sym (seek_go xs j n s f) ∙ e)

-- a slot is set at the place p, that was empty or had key k
module _ (xs : List Slot) (p k : ℕ) (v : Row) (within : p < length xs) (free : stops (at xs p) k ≡ true) where
  pub set_here : at (set xs p (holding k v)) p ≡ holding k v
  set_here = get_or-set_same xs p (holding k v) None within

  pub set_there : (i : ℕ) → i ≢ p → at (set xs p (holding k v)) i ≡ at xs i
  set_there i ne = get_or-set_other xs p i (holding k v) None ne

  -- what the slot at p was
  was : (s : Slot) (j : ℕ) → stops s k ≡ true → stops s j ≡ false → eqb k j ≡ false
  was None j t f = cc
  was (Some x) j t f = grind (arith, nat_tests)

  set_still : (j s : ℕ) → stops (at xs s) j ≡ false → stops (at (set xs p (holding k v)) s) j ≡ false
  set_still j s f = go (cases_eq s p)
    where
      go : (s ≡ p) ⊎ (s ≢ p) → stops (at (set xs p (holding k v)) s) j ≡ false
      go (inl e) = rw (e, set_here) (was (at xs p) j free (rw e at f))
      go (inr ne) = rw (set_there s ne) f

  pub set_reached : Reached xs → place_of xs k ≡ p → Reached (set xs p (holding k v))
  set_reached r e i j h = kept xs (set xs p (holding k v)) j (set_still j) 128 (home_of j) i (go (cases_eq i p)) h
    where
      go : (i ≡ p) ⊎ (i ≢ p) → place_of xs j ≡ i
      go (inl q) = let same : k ≡ j = eqb-true k j (rw (q, set_here) at h) in rw (sym same, q) e
      go (inr ne) = r i j (rw (set_there i ne) at h)

-- what a look at every place finds
pub find_none : (xs : List Slot) (q : ℕ) → ((i : ℕ) → keyed (at xs i) q ≡ false) → find xs q ≡ None
find_none [] q h = refl
find_none (None ∷ xs) q h = find_none xs q (λ i. h (suc i))
find_none (Some x ∷ xs) q h = let other = h 0 in let rest = find_none xs q (λ i. h (suc i)) in grind (arith, nat_tests)

pub find_some : (xs : List Slot) (p q : ℕ) (v : Row) → at xs p ≡ holding q v → ((i : ℕ) → i < p → keyed (at xs i) q ≡ false) → find xs q ≡ Some v
find_some [] p q v e h = cc
find_some (None ∷ xs) zero q v e h = cc
find_some (Some x ∷ xs) zero q v e h = let a : x.key ≡ q = cc in let b : x.row ≡ v = cc in grind (arith, nat_tests)
find_some (None ∷ xs) (suc p) q v e h = find_some xs p q v e (λ i l. h (suc i) (omega arith))
find_some (Some x ∷ xs) (suc p) q v e h =
    let other = h 0 (omega arith) in
    let rest = find_some xs p q v e (λ i l. h (suc i) (omega arith)) in
    grind (arith, nat_tests)

pub find_other : (xs : List Slot) (p k q : ℕ) (v : Row) → q ≢ k → keyed (at xs p) q ≡ false → find (set xs p (holding k v)) q ≡ find xs q
find_other [] p k q v n h = refl
find_other (None ∷ xs) zero k q v n h = grind (arith, nat_tests)
find_other (Some x ∷ xs) zero k q v n h = grind (arith, nat_tests)
find_other (None ∷ xs) (suc p) k q v n h = find_other xs p k q v n h
find_other (Some x ∷ xs) (suc p) k q v n h = ap (λ r. cond (eqb q x.key) (Some x.row) r) (find_other xs p k q v n h)

pub taken_again : (xs : List Slot) (p k : ℕ) (v : Row) → keyed (at xs p) k ≡ true → taken (set xs p (holding k v)) ≡ taken xs
taken_again [] p k v h = refl
taken_again (None ∷ xs) zero k v h = cc
taken_again (Some x ∷ xs) zero k v h = refl
taken_again (None ∷ xs) (suc p) k v h = taken_again xs p k v h
taken_again (Some x ∷ xs) (suc p) k v h = ap (λ n. n + 1) (taken_again xs p k v h)

pub taken_new : (xs : List Slot) (p k : ℕ) (v : Row) → p < length xs → at xs p ≡ None → taken (set xs p (holding k v)) ≡ taken xs + 1
taken_new [] p k v l e = absurd (omega arith)
taken_new (None ∷ xs) zero k v l e = refl
taken_new (Some x ∷ xs) zero k v l e = cc
taken_new (None ∷ xs) (suc p) k v l e = taken_new xs p k v (omega arith) e
taken_new (Some x ∷ xs) (suc p) k v l e = ap (λ n. n + 1) (taken_new xs p k v (omega arith) e)

-- The search for k goes from s past `steps` places that other keys have, n at most, and if fewer then to one where it stops.
record Way (xs : List Slot) (k n s p : ℕ) : Type 0 where
  steps : ℕ
  few : steps ≤ n
  place : p ≡ (s + steps) % 128
  before : (e : ℕ) → e < steps → stops (at xs ((s + e) % 128)) k ≡ false
  ends : steps < n → stops (at xs p) k ≡ true

way : (xs : List Slot) (k n s : ℕ) → s < 128 → Way xs k n s (seek xs k n s)
way xs k zero s l = record { steps = 0; few = omega arith; place = seek_end xs k s ∙ omega arith; before = λ e m. absurd (omega arith); ends = λ m. absurd (omega arith) }
way xs k (suc n) s l = go (way xs k n ((s + 1) % 128) (omega arith)) (cases_Bool (stops (at xs s) k))
  where
    go : Way xs k n ((s + 1) % 128) (seek xs k n ((s + 1) % 128)) → (stops (at xs s) k ≡ true) ⊎ (stops (at xs s) k ≡ false) → Way xs k (suc n) s (seek xs k (suc n) s)
    go w (inl t) = record {
      steps = 0;
      few = omega arith;
      place = seek_stop xs k n s t ∙ omega arith;
      before = λ e m. absurd (omega arith);
      ends = λ m. rw (seek_stop xs k n s t) t;
    }
    go w (inr f) = record {
      steps = w.steps + 1;
      few = omega (arith, w.few);
      place = seek_go xs k n s f ∙ w.place ∙ omega arith;
      before = λ e m. each e m (cases_eq e 0);
      ends = λ m. rw (seek_go xs k n s f) (w.ends (omega arith));
    }
      where
        each : (e : ℕ) → e < w.steps + 1 → (e ≡ 0) ⊎ (e ≢ 0) → stops (at xs ((s + e) % 128)) k ≡ false
        each e m (inl z) = let q : (s + e) % 128 ≡ s = omega arith in rw q f
        each e m (inr z) = let q : (s + e) % 128 ≡ ((s + 1) % 128 + (e - 1)) % 128 = omega arith in rw q (w.before (e - 1) (omega arith))

-- n places that other keys have are taken
all_taken : (xs : List Slot) (k n : ℕ) → ((i : ℕ) → i < n → stops (at xs i) k ≡ false) → n ≤ taken xs
all_taken xs k zero h = omega arith
all_taken [] k (suc n) h = let here = h 0 (omega arith) in cc
all_taken (None ∷ xs) k (suc n) h = let here = h 0 (omega arith) in cc
all_taken (Some x ∷ xs) k (suc n) h = let rest = all_taken xs k n (λ i l. h (suc i) (omega arith)) in omega arith

free_slot : (s : Slot) (k : ℕ) → stops s k ≡ true → (s ≡ None) ⊎ (keyed s k ≡ true)
free_slot None k h = inl refl
free_slot (Some x) k h = inr h

other_key : (s : Slot) (k : ℕ) → stops s k ≡ false → (is_some s ≡ true) × (keyed s k ≡ false)
other_key None k h = cc
other_key (Some x) k h = (refl, h)

-- while a place is empty, the search ends at the key or at the first empty place
pub searched : (xs : List Slot) (k : ℕ) → taken xs < 128 → Search xs k (place_of xs k)
searched xs k l =
    let less = fewer (cases_lt w.steps 128) in
    record {
      steps = w.steps;
      few = less;
      place = w.place;
      ends = free_slot (at xs (place_of xs k)) k (w.ends less);
      past = λ e m. other_key (at xs ((home_of k + e) % 128)) k (w.before e m);
    }
  where
    w : Way xs k 128 (home_of k) (place_of xs k)
    w = way xs k 128 (home_of k) (omega arith)

    every : 128 ≤ w.steps → (i : ℕ) → i < 128 → stops (at xs i) k ≡ false
    every f i m =
        let e : (home_of k + (i + 128 - home_of k) % 128) % 128 ≡ i = omega arith in
        subst (λ (x : ℕ). stops (at xs x) k ≡ false) e (w.before ((i + 128 - home_of k) % 128) (omega arith))

    fewer : (w.steps < 128) ⊎ (128 ≤ w.steps) → w.steps < 128
    fewer (inl m) = m
    fewer (inr m) = let n = all_taken xs k 128 (every m) in absurd (omega arith)

pub place_stops : (xs : List Slot) (k : ℕ) → taken xs < 128 → stops (at xs (place_of xs k)) k ≡ true
place_stops xs k l = go (at xs (place_of xs k)) (searched xs k l).ends
  where
    go : (s : Slot) → (s ≡ None) ⊎ (keyed s k ≡ true) → stops s k ≡ true
    go s (inl e) = rw e refl
    go s (inr h) = keyed_stops s k h
