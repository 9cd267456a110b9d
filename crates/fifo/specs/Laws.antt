-- How a queue hands out its frames.
use Rattle.std.specs.Prelude.{◌≡◌, ℕ, ◌<◌, ◌≤◌, List, [], ◌∷◌, ◌++◌, length, Some, None, Option}
use Rattle.link.specs.Frames.{Frame, NoneFor}
use Rattle.fifo.specs.declared.queue.Fifo.{Fifo}
use Rattle.fifo.specs.Means.{fifo_waiting, FifoPuts, FifoTakes}

-- The frame with bytes b is the oldest for the address, and w' is w without it.
pub record OldestOf (w : List Frame) (a : ℕ) (b : List ℕ) (w' : List Frame) : Type 0 where
  pub before : List Frame
  pub after : List Frame
  pub split : w ≡ before ++ (a, b) ∷ after
  pub first : NoneFor a before
  pub others : w' ≡ before ++ after

pub record FifoLaws : Type 0 where
  -- a take hands out the oldest frame for the address and removes it; the others keep their order
  pub oldest : (l l' : Fifo) (a : ℕ) (b : List ℕ) → FifoTakes l a (Some b) l' → OldestOf (fifo_waiting l) a b (fifo_waiting l')
  -- it hands out nothing exactly if no frame waits for the address, and then nothing changes
  pub nothing : (l l' : Fifo) (a : ℕ) → FifoTakes l a None l' → NoneFor a (fifo_waiting l) × (fifo_waiting l' ≡ fifo_waiting l)
  pub none_waits : (l l' : Fifo) (a : ℕ) (o : Option (List ℕ)) → NoneFor a (fifo_waiting l) → FifoTakes l a o l' → o ≡ None
  -- a put with room appends, one without room or of over 128 bytes changes nothing
  pub appended : (l l' : Fifo) (a : ℕ) (b : List ℕ) → FifoPuts l a b l' → length b ≤ 128 → length (fifo_waiting l) < 64 → fifo_waiting l' ≡ fifo_waiting l ++ (a, b) ∷ []
  pub full : (l l' : Fifo) (a : ℕ) (b : List ℕ) → FifoPuts l a b l' → length (fifo_waiting l) ≡ 64 → fifo_waiting l' ≡ fifo_waiting l
  pub too_long : (l l' : Fifo) (a : ℕ) (b : List ℕ) → FifoPuts l a b l' → 128 < length b → fifo_waiting l' ≡ fifo_waiting l
  pub bound : (l : Fifo) → length (fifo_waiting l) ≤ 64
  -- one answer, and one queue after a call
  pub one_take : (l l' m' : Fifo) (a : ℕ) (o p : Option (List ℕ)) → FifoTakes l a o l' → FifoTakes l a p m' → (o ≡ p) × (fifo_waiting l' ≡ fifo_waiting m')
  pub one_put : (l l' m' : Fifo) (a : ℕ) (b : List ℕ) → FifoPuts l a b l' → FifoPuts l a b m' → fifo_waiting l' ≡ fifo_waiting m'
