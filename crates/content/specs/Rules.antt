use Rattle.std.specs.Prelude.{◌≡◌, ℕ, zero, suc, ◌+◌, ◌<◌, ◌≤◌, Bool, true, not, ◌&&◌, List, length, ◌==◌, ◌≢◌, nat_le, slice_index_or}
use Rattle.values.specs.declared.timestamp.Timestamp.{Timestamp}
use Rattle.values.specs.Times.{null, named, version, before}
use Rattle.content.specs.declared.rows.Read.{Read}
use Rattle.content.specs.declared.rows.Write.{Write}

-- k is none of f 0 .. f (n - 1)
abbrev pub unlike : (ℕ → ℕ) → ℕ → ℕ → Bool
unlike f k zero = true
unlike f k (suc n) = not (f n == k) && unlike f k n

-- f 0 .. f (n - 1) differ
abbrev pub differ : (ℕ → ℕ) → ℕ → Bool
differ f zero = true
differ f (suc n) = unlike f (f n) n && differ f n

-- the key of the i-th row, and that of the blank past the end
abbrev pub keys_of : {X : Type 0} → (X → ℕ) → X → List X → ℕ → ℕ
keys_of key blank xs i = key (slice_index_or xs i blank)

abbrev pub no_read : Read
no_read = record { key = 0; version = null }

abbrev pub no_write : Write
no_write = record { key = 0; value = 0 }

abbrev pub read_keys : List Read → ℕ → ℕ
read_keys rs i = (slice_index_or rs i no_read).key

abbrev pub write_keys : List Write → ℕ → ℕ
write_keys ws i = (slice_index_or ws i no_write).key

-- a transaction at t can have read it: a version, from before t
abbrev pub readable : Timestamp → Read → Bool
readable t r = version r.version && before r.version t

-- a transaction at t can have read the first n
abbrev pub reads_before : Timestamp → List Read → ℕ → Bool
reads_before t rs zero = true
reads_before t rs (suc n) = readable t (slice_index_or rs n no_read) && reads_before t rs n

-- what a content says
pub record Body : Type 0 where
  pub timestamp : Timestamp
  pub reads : List Read
  pub writes : List Write

abbrev pub body_of : Timestamp → List Read → List Write → Body
body_of t rs ws = record { timestamp = t; reads = rs; writes = ws }

-- at most four rows of each kind, and one at least
abbrev pub few : ℕ → ℕ → Bool
few r w = nat_le r 4 && (nat_le w 4 && nat_le 1 (r + w))

-- the body is that of a transaction, as one test
abbrev pub sound : Body → Bool
sound b =
    named b.timestamp
    && (few (length b.reads) (length b.writes)
    && (differ (read_keys b.reads) (length b.reads)
    && (differ (write_keys b.writes) (length b.writes)
    && reads_before b.timestamp b.reads (length b.reads))))

-- no two of the first n are equal
abbrev pub Apart : (ℕ → ℕ) → ℕ → Type 0
Apart f n = (i j : ℕ) → i < j → j < n → f i ≢ f j

-- what makes a body that of a transaction
pub record Sound (b : Body) : Type 0 where
  pub names : named b.timestamp ≡ true
  pub few_reads : length b.reads ≤ 4
  pub few_writes : length b.writes ≤ 4
  pub some : 1 ≤ length b.reads + length b.writes
  pub reads_apart : Apart (read_keys b.reads) (length b.reads)
  pub writes_apart : Apart (write_keys b.writes) (length b.writes)
  pub are_versions : (i : ℕ) → i < length b.reads → version (slice_index_or b.reads i no_read).version ≡ true
  pub are_before : (i : ℕ) → i < length b.reads → before (slice_index_or b.reads i no_read).version b.timestamp ≡ true

-- the test finds just the bodies of transactions
pub record SoundTested : Type 0 where
  pub only : (b : Body) → sound b ≡ true → Sound b
  pub every : (b : Body) → Sound b → sound b ≡ true
