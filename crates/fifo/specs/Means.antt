-- What a queue means as a link.
use Rattle.std.specs.Prelude.{◌≡◌, ℕ, List, map, vec_items, Option}
use Rattle.link.specs.Frames.{Frame}
use Rattle.link.specs.Packets.{frame_of}
use Rattle.fifo.specs.declared.queue.Fifo.{Fifo}
use Rattle.fifo.specs.Queues.{fifo_put, fifo_take}

-- the frames that wait, the oldest first
abbrev pub fifo_waiting : Fifo → List Frame
fifo_waiting l = map frame_of (vec_items l.frames)

abbrev pub FifoPuts : Fifo → ℕ → List ℕ → Fifo → Type 0
FifoPuts l a b l' = fifo_waiting l' ≡ fifo_put (fifo_waiting l) a b

abbrev pub FifoTakes : Fifo → ℕ → Option (List ℕ) → Fifo → Type 0
FifoTakes l a o l' = (o, fifo_waiting l') ≡ fifo_take (fifo_waiting l) a
