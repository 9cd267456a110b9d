-- What a store means: which row each key has, how many rows are held, and how many may be.
use Rattle.std.specs.Prelude.{◌≡◌, ℕ, ◌+◌, ◌≤◌, Bool, cond, not, ◌&&◌, List, [], ◌∷◌, length, is_some, Some, None, Ok, Err, Option, unwrap_or, Result, ◌==◌, nat_le}
use Rattle.values.specs.declared.refusal.Refusal.{Refusal}
use Rattle.values.specs.declared.refusal.Refusal.TheVariants.{StoreFull, BadCapacity}
use Rattle.values.specs.Times.{null}
use Rattle.store.specs.declared.Entry.{Entry}
use Rattle.store.specs.declared.Row.{Row}

pub record Table : Type 0 where
  pub look : ℕ → Option Row
  pub held : ℕ
  pub most : ℕ

abbrev pub none : ℕ → Option Row
none q = None

-- the rows with v at key k
abbrev pub with_row : (ℕ → Option Row) → ℕ → Row → ℕ → Option Row
with_row f k v q = cond (q == k) (Some v) (f q)

abbrev pub empty : ℕ → Table
empty n = record { look = none; held = 0; most = n }

abbrev pub has : Table → ℕ → Bool
has t k = is_some (t.look k)

-- what no transaction wrote and none read
abbrev pub null_row : Row
null_row = record { value = None; version = null; reader = null }

-- the row of the entry, if it has key k
abbrev pub row_at : Entry → ℕ → Option Row
row_at e k = cond (e.key == k) (Some e.row) None

-- the row of key k, the null row where none is held
abbrev pub row_of : Table → ℕ → Row
row_of t k = unwrap_or (t.look k) null_row

-- no place for a new key
abbrev pub full_for : Table → ℕ → Bool
full_for t k = not (has t k) && nat_le t.most t.held

abbrev pub stored : Table → ℕ → Row → Table
stored t k v = record { look = with_row t.look k v; held = t.held + cond (has t k) 0 1; most = t.most }

-- What a put does: it is refused exactly where the store is full for the key, and then changes nothing.
pub record Put (t : Table) (k : ℕ) (v : Row) (r : Result Unit Refusal) (t' : Table) : Type 0 where
  pub answer : r ≡ cond (full_for t k) (Err (StoreFull k)) (Ok tt)
  pub after : t' ≡ cond (full_for t k) t (stored t k v)

-- What is made for n keys, with property P: refused exactly where n is not 1 to 64.
abbrev pub Admitted : {S : Type 0} → (S → ℕ → Type 0) → ℕ → Result S Refusal → Type 0
Admitted P n (Ok s) = (1 ≤ n) × (n ≤ 64) × P s n
Admitted P n (Err e) = (1 ≤ n → n ≤ 64 → ⊥) × (e ≡ BadCapacity)

-- What a new store is: empty, with room for n keys.
abbrev pub Made : {S : Type 0} → (S → Table) → ℕ → Result S Refusal → Type 0
Made table = Admitted (λ s n. table s ≡ empty n)

-- how many of the keys in the list are k
abbrev pub times : ℕ → List ℕ → ℕ
times k [] = 0
times k (x ∷ xs) = cond (k == x) 1 0 + times k xs

-- the keys that have a row, each once, are as many as are held
pub record Counted (t : Table) : Type 0 where
  pub keys : List ℕ
  pub held : t.held ≡ length keys
  pub once : (k : ℕ) → times k keys ≡ cond (has t k) 1 0
  pub bound : t.held ≤ t.most
  pub small : (1 ≤ t.most) × (t.most ≤ 64)
