-- The search for the oldest frame for an address, and what a put and a take do to the packets.
use Rattle.std.proofs.Common.{◌≡◌, ℕ, zero, suc, ◌<◌, ◌≤◌, Bool, true, false, eqb, ltb, ◌⊎◌, List, [], ◌∷◌, map, length, get_or, Some, None, Option, sym, refl, ap, ◌∙◌, inl, inr, arith}
use Rattle.std.specs.List.{remove, position, position_or_len}
use Rattle.std.proofs.lemmas.List.Sums.{fails_before_first}
use Rattle.std.proofs.lemmas.List.Quantifiers.{position-Some}
use Rattle.std.proofs.lemmas.Bool.{cases_lt, lt-ltb}
use Rattle.link.specs.declared.packet.Packet.{Packet}
use Rattle.link.specs.Frames.{Frame}
use Rattle.link.specs.Packets.{frame_of}
use Rattle.fifo.specs.Queues.{fifo_take}

-- an answer and the frames that wait after it
abbrev pub Outcome : Type 0
Outcome = Option (List ℕ) × List Frame

abbrev pub is_for : ℕ → Packet → Bool
is_for a x = eqb (frame_of x).0 a

-- the first frame is for another address, so that the outcome is that of the others
later : (f : Frame) (w v : List Frame) (a : ℕ) (o : Option (List ℕ)) → eqb f.0 a ≡ false → ◌≡◌ {A = Outcome} (o, v) (fifo_take w a) → ◌≡◌ {A = Outcome} (o, f ∷ v) (fifo_take (f ∷ w) a)
later f w v a o n e = rw n (λ i. ((e i).0, f ∷ (e i).1))

-- no packet is for the address
none_for : (xs : List Packet) (a : ℕ) → ((k : ℕ) (d : Packet) → k < length xs → is_for a (get_or xs k d) ≡ false) → ◌≡◌ {A = Outcome} (None, map frame_of xs) (fifo_take (map frame_of xs) a)
none_for [] a past = refl
none_for (x ∷ xs) a past = later (frame_of x) (map frame_of xs) (map frame_of xs) a None (past 0 x (omega arith)) (none_for xs a (λ k d l. past (suc k) d (omega arith)))

-- x, at the place i, is the oldest packet for the address
some_for : (xs : List Packet) (a i : ℕ) (x : Packet) → i < length xs → x ≡ get_or xs i x → is_for a x ≡ true → ((k : ℕ) → k < i → is_for a (get_or xs k x) ≡ false)
    → ◌≡◌ {A = Outcome} (Some (frame_of x).1, map frame_of (remove xs i)) (fifo_take (map frame_of xs) a)
some_for [] a i x l is here past = absurd (omega arith)
some_for (y ∷ xs) a zero x l is here past = let t : is_for a y ≡ true = ap (is_for a) (sym is) ∙ here in rw t (λ i. (Some (frame_of (is i)).1, map frame_of xs))
some_for (y ∷ xs) a (suc i) x l is here past =
    later (frame_of y) (map frame_of xs) (map frame_of (remove xs i)) a (Some (frame_of x).1) (past 0 (omega arith)) (some_for xs a i x (omega arith) is here (λ k h. past (suc k) (omega arith)))

-- a take that searched the packets
module _ (xs : List Packet) (a : ℕ) where
  pub took_none : position (is_for a) xs ≡ None → ◌≡◌ {A = Outcome} (None, map frame_of xs) (fifo_take (map frame_of xs) a)
  took_none e = go (cases_lt (position_or_len (is_for a) xs) (length xs))
    where
      go : (position_or_len (is_for a) xs < length xs) ⊎ (length xs ≤ position_or_len (is_for a) xs) → ◌≡◌ {A = Outcome} (None, map frame_of xs) (fifo_take (map frame_of xs) a)
      go (inl l) = let t : ltb (position_or_len (is_for a) xs) (length xs) ≡ true = lt-ltb (position_or_len (is_for a) xs) (length xs) l in let q : Some (position_or_len (is_for a) xs) ≡ None = rw t at e in absurd cc
      go (inr l) = none_for xs a (λ k d h. fails_before_first (is_for a) xs k d (omega arith))

  pub took_some : (i : ℕ) (xs' : List Packet) (x : Packet) (b : List ℕ) → position (is_for a) xs ≡ Some i → x ≡ get_or xs i x → xs' ≡ remove xs i → b ≡ (frame_of x).1
      → ◌≡◌ {A = Outcome} (Some b, map frame_of xs') (fifo_take (map frame_of xs) a)
  took_some i xs' x b e is r q =
      let p = position-Some (is_for a) xs i x e in
      (λ k. (Some (q k), map frame_of (r k))) ∙ some_for xs a i x p.0 is (ap (is_for a) is ∙ p.1) p.2
