-- What the frames at 16 places mean as a link.
use Rattle.std.specs.Prelude.{◌≡◌, ℕ, List, map, vec_items, Option}
use Rattle.link.specs.Frames.{Frame}
use Rattle.link.specs.Packets.{frame_of}
use Rattle.round_robin.specs.declared.rotation.RoundRobin.{RoundRobin}
use Rattle.round_robin.specs.Places.{Places, round_put, round_take}

abbrev pub places_of : RoundRobin → Places
places_of l = record { frames = map frame_of (vec_items l.frames); oldest = l.oldest; next = l.next }

abbrev pub round_waiting : RoundRobin → List Frame
round_waiting l = (places_of l).frames

abbrev pub RoundPuts : RoundRobin → ℕ → List ℕ → RoundRobin → Type 0
RoundPuts l a b l' = places_of l' ≡ round_put (places_of l) a b

abbrev pub RoundTakes : RoundRobin → ℕ → Option (List ℕ) → RoundRobin → Type 0
RoundTakes l a o l' = (o, places_of l') ≡ round_take (places_of l) a
