-- Where searches begin.
use Rattle.std.proofs.Common.{◌≡◌, ℕ, ◌+◌, ◌-◌, ◌*◌, ◌/◌, ◌%◌, ◌^◌, ◌<◌, ◌≤◌, Bool, true, ◌&&◌, leb, ◌⊎◌, refl, inl, inr, arith}
use Rattle.std.proofs.lemmas.Bool.{agree_below_at, and_parts, cases_lt, leb-true}
use Rattle.hashed.specs.Places.{home_of}

-- how far bit b of the key moves the product: by a place at least, and not all the way round
abbrev move : ℕ → ℕ
move b = 2 ^ b * 2654435761 % 4294967296

abbrev far : ℕ → Bool
far b = leb 33554432 (move b) && leb (move b) 4261412864

-- a move round that far ends at another place
moves : (r e : ℕ) → r < 4294967296 → 33554432 ≤ e → e ≤ 4261412864 → (r + e) % 4294967296 / 33554432 ≡ r / 33554432 → ⊥
moves r e small low high same = go (cases_lt (r + e) 4294967296)
  where
    go : (r + e < 4294967296) ⊎ (4294967296 ≤ r + e) → ⊥
    go (inl l) =
        let a : (r + e) % 4294967296 ≡ r + e = omega arith in
        let b : (r + e) / 33554432 ≡ r / 33554432 = rw a at same in
        omega arith
    go (inr l) =
        let a : (r + e) % 4294967296 ≡ r + e - 4294967296 = omega arith in
        let b : (r + e - 4294967296) / 33554432 ≡ r / 33554432 = rw a at same in
        omega arith

moved : (k p : ℕ) → 33554432 ≤ p * 2654435761 % 4294967296 → p * 2654435761 % 4294967296 ≤ 4261412864 → home_of (k + p) ≡ home_of k → ⊥
moved k p low high same =
    let a : (k + p) * 2654435761 % 4294967296 ≡ (k * 2654435761 % 4294967296 + p * 2654435761 % 4294967296) % 4294967296 = omega arith in
    moves (k * 2654435761 % 4294967296) (p * 2654435761 % 4294967296) (omega arith) low high (rw a at same)

pub all_bits : (k b : ℕ) → b < 32 → home_of (k + 2 ^ b) ≡ home_of k → ⊥
all_bits k b l = go (and_parts (leb 33554432 (move b)) (leb (move b) 4261412864) (agree_below_at far (λ i. true) 32 b refl l))
  where
    go : (leb 33554432 (move b) ≡ true) × (leb (move b) 4261412864 ≡ true) → home_of (k + 2 ^ b) ≡ home_of k → ⊥
    go (low, high) = moved k (2 ^ b) (leb-true 33554432 (move b) low) (leb-true (move b) 4261412864 high)
