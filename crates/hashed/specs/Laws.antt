-- How a hashed table places its rows.
use Rattle.std.specs.Prelude.{◌≡◌, ℕ, ◌+◌, ◌%◌, ◌^◌, ◌<◌, true, false, ◌⊎◌, List, Some, None, is_some, ◌≢◌}
use Rattle.store.specs.declared.Row.{Row}
use Rattle.hashed.specs.declared.table.Hashed.{Hashed}
use Rattle.hashed.specs.Places.{Slot, at, holding, keyed, home_of, place_of}
use Rattle.hashed.specs.Means.{hashed_table}

-- The search for k goes round the places from its first one, past those that other keys have, and ends at p, which has k or is empty.
pub record Search (xs : List Slot) (k p : ℕ) : Type 0 where
  pub steps : ℕ
  pub few : steps < 128
  pub place : p ≡ (home_of k + steps) % 128
  pub ends : (at xs p ≡ None) ⊎ (keyed (at xs p) k ≡ true)
  pub past : (d : ℕ) → d < steps → (is_some (at xs ((home_of k + d) % 128)) ≡ true) × (keyed (at xs ((home_of k + d) % 128)) k ≡ false)

pub record HashedLaws : Type 0 where
  -- each of a key's 32 bits counts: keys that differ in one bit have different first places
  pub all_bits : (k b : ℕ) → b < 32 → home_of (k + 2 ^ b) ≢ home_of k
  pub first : (k : ℕ) → home_of k < 128
  pub search : (h : Hashed) (k : ℕ) → Search h.slots k (place_of h.slots k)
  -- a key has a row exactly if some place holds it, and then at the place where its search ends
  pub holds : (h : Hashed) (i k : ℕ) (v : Row) → at h.slots i ≡ holding k v → ((hashed_table h).look k ≡ Some v) × (i ≡ place_of h.slots k)
  pub held : (h : Hashed) (k : ℕ) (v : Row) → (hashed_table h).look k ≡ Some v → at h.slots (place_of h.slots k) ≡ holding k v
