use Rattle.std.specs.Prelude.{◌≡◌, ℕ, Bool, true, ◌&&◌, ◌||◌, ◌⊎◌, Decides, ◌==◌, ◌≢◌, nat_le, nat_lt}
use Rattle.order.specs.Extremes.{IsTotalOrder}
use Rattle.values.specs.declared.timestamp.Timestamp.{Timestamp}

abbrev pub timestamp : ℕ → ℕ → Timestamp
timestamp s t = record { second = s; transaction = t }

-- the version of what no transaction wrote
abbrev pub null : Timestamp
null = timestamp 0 0

-- the lower second comes first, and for equal seconds the lower transaction
abbrev pub before : Timestamp → Timestamp → Bool
before s t = nat_lt s.second t.second || (s.second == t.second && nat_lt s.transaction t.transaction)

-- the timestamp names a transaction
abbrev pub named : Timestamp → Bool
named t = nat_le 1 t.transaction && nat_le t.transaction 32

-- the null one, or one that names a transaction
abbrev pub version : Timestamp → Bool
version t = (t.second == 0 && t.transaction == 0) || named t

-- What layers above may know of timestamps.
pub record TimestampLaws : Type 0 where
  -- of two different ones exactly one is before the other
  pub ordered : IsTotalOrder before
  pub null_first : (t : Timestamp) → (t ≢ null) → before null t ≡ true
  -- a timestamp is its second and the transaction that it names
  pub whole : (t : Timestamp) → timestamp t.second t.transaction ≡ t
  pub names : (s t : Timestamp) → (s.transaction ≢ t.transaction) → s ≢ t
  pub versions : (t : Timestamp) → Decides (version t) ((t ≡ null) ⊎ (named t ≡ true))
  -- what a transaction wrote is later than what none wrote
  pub null_before : (t : Timestamp) → named t ≡ true → before null t ≡ true
