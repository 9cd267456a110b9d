-- Numbers and rows as bytes, the greatest byte first.
use Rattle.std.specs.Prelude.{ℕ, zero, suc, ◌+◌, ◌*◌, ◌/◌, ◌%◌, Bool, true, List, [], ◌∷◌, ◌++◌, drop, slice_index}
use Rattle.values.specs.Times.{timestamp}
use Rattle.values.specs.declared.timestamp.Timestamp.{Timestamp}
use Rattle.content.specs.Rules.{readable, no_read, no_write}
use Rattle.content.specs.declared.rows.Read.{Read}
use Rattle.content.specs.declared.rows.Write.{Write}

-- a number of 32 bits as four bytes
abbrev pub big : ℕ → List ℕ
big n = n / 16777216 % 256 ∷ n / 65536 % 256 ∷ n / 256 % 256 ∷ n % 256 ∷ []

-- the number in the four bytes from place p on; what is cut off counts as 0
abbrev pub number : List ℕ → ℕ → ℕ
number b p = slice_index b p * 16777216 + slice_index b (p + 1) * 65536 + slice_index b (p + 2) * 256 + slice_index b (p + 3)

-- a kind of row: a key of four bytes, and a second field
pub record Layout (X : Type 0) : Type 0 where
  -- the bytes of the second field
  pub rest : ℕ
  pub bytes : X → List ℕ
  -- the row at the front of bytes
  pub row : List ℕ → X
  pub key : X → ℕ
  -- the rule of the second field in a transaction with this timestamp
  pub lawful : Timestamp → X → Bool
  -- what stands for a row that is not there
  pub blank : X

abbrev pub width : {X : Type 0} → Layout X → ℕ
width l = 4 + l.rest

-- a read: key, and version as second and transaction
abbrev pub reading : Layout Read
reading =
    record {
      rest = 5;
      bytes = λ r. big r.key ++ (big r.version.second ++ (r.version.transaction % 256 ∷ []));
      row = λ b. record { key = number b 0; version = timestamp (number b 4) (slice_index b 8) };
      key = λ r. r.key;
      lawful = readable;
      blank = no_read;
    }

-- a write: key, and a value of which any is lawful
abbrev pub writing : Layout Write
writing =
    record {
      rest = 4;
      bytes = λ w. big w.key ++ big w.value;
      row = λ b. record { key = number b 0; value = number b 4 };
      key = λ w. w.key;
      lawful = λ t w. true;
      blank = no_write;
    }

-- rows, one after another
abbrev pub laid : {X : Type 0} → Layout X → List X → List ℕ
laid l [] = []
laid l (x ∷ xs) = l.bytes x ++ laid l xs

-- the first n rows of bytes
abbrev pub rows_in : {X : Type 0} → Layout X → ℕ → List ℕ → List X
rows_in l zero b = []
rows_in l (suc n) b = l.row b ∷ rows_in l n (drop (width l) b)

abbrev pub Each : {X : Type 0} → (X → Type 0) → List X → Type 0
Each P [] = Unit {0}
Each P (x ∷ xs) = P x × Each P xs
