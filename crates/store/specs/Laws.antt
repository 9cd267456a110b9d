-- What layers above may know of a store, whatever it is made of.
use Rattle.std.specs.Prelude.{◌≡◌, ℕ, ◌+◌, ◌<◌, ◌≤◌, true, false, Some, Ok, Err, Result, ◌≢◌}
use Rattle.values.specs.declared.refusal.Refusal.{Refusal}
use Rattle.values.specs.declared.refusal.Refusal.TheVariants.{StoreFull}
use Rattle.store.specs.declared.Row.{Row}
use Rattle.store.specs.Table.{Table, Put, Counted, empty, has, row_of, null_row}

-- What holds after a put that is not refused.
pub record PutDone (t : Table) (k : ℕ) (v : Row) (t' : Table) : Type 0 where
  -- there was a place: the key was held, or fewer than may be were
  pub room : has t k ≡ false → t.held < t.most
  -- the key's row is the one put, and every other key's row is as it was
  pub here : t'.look k ≡ Some v
  pub others : (q : ℕ) → (q ≢ k) → t'.look q ≡ t.look q
  -- one more is held if the key is new
  pub again : has t k ≡ true → t'.held ≡ t.held
  pub new : has t k ≡ false → t'.held ≡ t.held + 1
  pub capacity : t'.most ≡ t.most

-- What holds after a put that is refused with e.
pub record PutRefused (t : Table) (k : ℕ) (e : Refusal) (t' : Table) : Type 0 where
  pub names : e ≡ StoreFull k
  pub missing : has t k ≡ false
  pub full : t.most ≤ t.held
  pub unchanged : t' ≡ t

pub record StoreLaws : Type 0 where
  pub done : (t t' : Table) (k : ℕ) (v : Row) → Put t k v (Ok tt) t' → PutDone t k v t'
  pub refused : (t t' : Table) (k : ℕ) (v : Row) (e : Refusal) → Put t k v (Err e) t' → PutRefused t k e t'
  -- one answer and one table after, whatever the store
  pub one_answer : (t t' u' : Table) (k : ℕ) (v : Row) (r s : Result Unit Refusal) → Put t k v r t' → Put t k v s u' → (r ≡ s) × (t' ≡ u')
  -- a put keeps the count of the keys
  pub counted : (t t' : Table) (k : ℕ) (v : Row) (r : Result Unit Refusal) → Counted t → Put t k v r t' → Counted t'
  -- a key that is not held reads as the null row, one that is held as its row
  pub absent : (t : Table) (k : ℕ) → has t k ≡ false → row_of t k ≡ null_row
  pub present : (t : Table) (k : ℕ) → has t k ≡ true → t.look k ≡ Some (row_of t k)
  -- an empty store holds no key
  pub bare : (n k : ℕ) → has (empty n) k ≡ false
