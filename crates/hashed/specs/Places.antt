-- The places of a hashed table, and the search for a key among them.
use Rattle.std.specs.Prelude.{◌≡◌, ℕ, zero, suc, ◌+◌, ◌*◌, ◌/◌, ◌%◌, Bool, true, false, cond, List, [], ◌∷◌, Some, None, Option, ◌==◌, slice_index_or}
use Rattle.store.specs.declared.Entry.{Entry}
use Rattle.store.specs.declared.Row.{Row}

-- what stands at one place
abbrev pub Slot : Type 0
Slot = Option Entry

-- the place where the search for a key begins
abbrev pub home_of : ℕ → ℕ
home_of k = k * 2654435761 % 4294967296 / 33554432

abbrev pub at : List Slot → ℕ → Slot
at xs i = slice_index_or xs i None

abbrev pub holding : ℕ → Row → Slot
holding k v = Some (record { key = k; row = v })

-- the slot has key k
abbrev pub keyed : Slot → ℕ → Bool
keyed None k = false
keyed (Some e) k = e.key == k

-- the search for k ends at the slot
abbrev pub stops : Slot → ℕ → Bool
stops None k = true
stops (Some e) k = e.key == k

-- where the search for k ends that goes on at p with n places left
unfoldable pub seek : List Slot → ℕ → ℕ → ℕ → ℕ
seek xs k zero p = p
seek xs k (suc n) p = cond (stops (at xs p) k) p (seek xs k n ((p + 1) % 128))

-- where the search for k ends
abbrev pub place_of : List Slot → ℕ → ℕ
place_of xs k = seek xs k 128 (home_of k)

-- the row of key k, by a look at every place
abbrev pub find : List Slot → ℕ → Option Row
find [] k = None
find (None ∷ xs) k = find xs k
find (Some e ∷ xs) k = cond (k == e.key) (Some e.row) (find xs k)

-- how many places are taken
abbrev pub taken : List Slot → ℕ
taken [] = 0
taken (None ∷ xs) = taken xs
taken (Some e ∷ xs) = taken xs + 1

-- the search for each key that is held ends where it is held
abbrev pub Reached : List Slot → Type 0
Reached xs = (i k : ℕ) → keyed (at xs i) k ≡ true → place_of xs k ≡ i
