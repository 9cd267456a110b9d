-- How frames are handed out in turn, and which are replaced.
use Rattle.std.specs.Prelude.{◌≡◌, ℕ, ◌+◌, ◌-◌, ◌%◌, ◌<◌, ◌≤◌, min, List, length, Some, None, Option, ◌≢◌}
use Rattle.link.specs.Frames.{Frame, NoneFor}
use Rattle.link.specs.Laws.{Call, frames_put, Run}
use Rattle.round_robin.specs.declared.rotation.RoundRobin.{RoundRobin}
use Rattle.round_robin.specs.Places.{Places, new_places, at, moved}
use Rattle.round_robin.specs.Means.{places_of, round_waiting, RoundPuts, RoundTakes}

-- The round comes to the frame with bytes b as the first for the address; all frames stay, and the next round begins after it.
pub record Turn (m : Places) (a : ℕ) (b : List ℕ) (m' : Places) : Type 0 where
  pub steps : ℕ
  pub few : steps < 16
  pub taken : (m.next + steps) % 16 < length m.frames
  pub here : at m.frames ((m.next + steps) % 16) ≡ (a, b)
  pub past : (d : ℕ) → d < steps → (m.next + d) % 16 < length m.frames → (at m.frames ((m.next + d) % 16)).0 ≢ a
  pub after : m' ≡ moved m ((m.next + steps) % 16)

-- The places hold the last 16 of the frames h, each at its index modulo 16, and the oldest is the first of these.
pub record LastOf (h : List Frame) (m : Places) : Type 0 where
  pub count : length m.frames ≡ min (length h) 16
  pub kept : (k : ℕ) → k < length h → length h ≤ k + 16 → at m.frames (k % 16) ≡ at h k
  pub oldest : m.oldest ≡ (length h - 16) % 16

pub record RoundRobinLaws : Type 0 where
  pub turn : (l l' : RoundRobin) (a : ℕ) (b : List ℕ) → RoundTakes l a (Some b) l' → Turn (places_of l) a b (places_of l')
  -- nothing is handed out exactly if no place has a frame for the address, and then nothing changes
  pub nothing : (l l' : RoundRobin) (a : ℕ) → RoundTakes l a None l' → NoneFor a (round_waiting l) × (places_of l' ≡ places_of l)
  pub none_waits : (l l' : RoundRobin) (a : ℕ) (o : Option (List ℕ)) → NoneFor a (round_waiting l) → RoundTakes l a o l' → o ≡ None
  -- whatever the calls on a new one, the places hold the last 16 frames put: a put replaces the oldest
  pub last : (l l' : RoundRobin) (cs : List Call) → places_of l ≡ new_places → Run round_waiting RoundPuts RoundTakes l cs l' → LastOf (frames_put cs) (places_of l')
  -- a put does not move the round, and one of over 128 bytes changes nothing
  pub unmoved : (l l' : RoundRobin) (a : ℕ) (b : List ℕ) → RoundPuts l a b l' → l'.next ≡ l.next
  pub too_long : (l l' : RoundRobin) (a : ℕ) (b : List ℕ) → RoundPuts l a b l' → 128 < length b → places_of l' ≡ places_of l
  -- one answer, and the same places after a call
  pub one_take : (l l' m' : RoundRobin) (a : ℕ) (o p : Option (List ℕ)) → RoundTakes l a o l' → RoundTakes l a p m' → (o ≡ p) × (places_of l' ≡ places_of m')
  pub one_put : (l l' m' : RoundRobin) (a : ℕ) (b : List ℕ) → RoundPuts l a b l' → RoundPuts l a b m' → places_of l' ≡ places_of m'
