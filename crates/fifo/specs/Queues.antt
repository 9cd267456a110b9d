-- The frames that wait, the oldest first: what a put and a take do to them.
use Rattle.std.specs.Prelude.{ℕ, cond, ◌||◌, List, [], ◌∷◌, ◌++◌, length, Some, None, Option, ◌==◌, nat_le, nat_lt}
use Rattle.link.specs.Frames.{Frame}

-- a frame of over 128 bytes, or that comes when 64 wait, is lost
abbrev pub fifo_put : List Frame → ℕ → List ℕ → List Frame
fifo_put w a b = cond (nat_lt 128 (length b) || nat_le 64 (length w)) w (w ++ (a, b) ∷ [])

-- the bytes of the oldest frame for the address, and the other frames
abbrev pub fifo_take : List Frame → ℕ → Option (List ℕ) × List Frame
fifo_take [] a = (None, [])
fifo_take (f ∷ w) a = cond (f.0 == a) (Some f.1, w) ((fifo_take w a).0, f ∷ (fifo_take w a).1)
