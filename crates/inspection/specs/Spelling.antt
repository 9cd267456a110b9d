use Rattle.std.specs.Prelude.{◌≡◌, ℕ, ◌+◌, ◌-◌, ◌*◌, ◌%◌, ◌<◌, Bool, cond, ◌&&◌, ◌⊎◌, List, [], ◌∷◌, length, Some, None, codes, Option, nat_le, slice_index}

abbrev pub between : ℕ → ℕ → ℕ → Bool
between low high c = nat_le low c && nat_le c high

-- the value of a hex digit in either case
abbrev pub digit : ℕ → Option ℕ
digit c =
    cond (between 48 57 c) (Some (c - 48))
    (cond (between 97 102 c) (Some (c - 97 + 10))
    (cond (between 65 70 c) (Some (c - 65 + 10)) None))

abbrev pub paired : Option ℕ → Option ℕ → Option ℕ
paired None l = None
paired (Some h) None = None
paired (Some h) (Some l) = Some (16 * h + l)

-- the byte of two hex digits
abbrev pub byte : ℕ → ℕ → Option ℕ
byte high low = paired (digit high) (digit low)

abbrev pub onto : Option ℕ → Option (List ℕ) → Option (List ℕ)
onto None o = None
onto (Some b) None = None
onto (Some b) (Some bs) = Some (b ∷ bs)

-- the bytes that hex digits spell
abbrev pub unhex : List ℕ → Option (List ℕ)
unhex [] = Some []
unhex (c ∷ []) = None
unhex (c ∷ d ∷ cs) = onto (byte c d) (unhex cs)

-- c is a hex digit and stands for n
pub record Stands (c n : ℕ) : Type 0 where
  pub small : n < 16
  pub letter : (c ≡ slice_index (codes "0123456789abcdef") n) ⊎ (c ≡ slice_index (codes "0123456789ABCDEF") n)

-- the characters 2 * i and 2 * i + 1 spell the byte i
abbrev pub Pair : List ℕ → List ℕ → ℕ → Type 0
Pair cs bs i =
    (h : ℕ)
    × ((l : ℕ)
    × (Stands (slice_index cs (2 * i)) h × Stands (slice_index cs (2 * i + 1)) l × (slice_index bs i ≡ 16 * h + l)))

-- each byte is spelled by its pair, and no character is left
pub record Spells (cs bs : List ℕ) : Type 0 where
  pub count : length cs ≡ 2 * length bs
  pub each : (i : ℕ) → i < length bs → Pair cs bs i

-- one character of a pair is missing, or some character is no hex digit
abbrev pub Unspelled : List ℕ → Type 0
Unspelled cs = (length cs % 2 ≡ 1) ⊎ ((i : ℕ) × ((i < length cs) × ((n : ℕ) → Stands (slice_index cs i) n → ⊥)))

-- what a reader of hex digits answers
abbrev pub Hex : List ℕ → Option (List ℕ) → Type 0
Hex cs (Some bs) = Spells cs bs
Hex cs None = Unspelled cs
