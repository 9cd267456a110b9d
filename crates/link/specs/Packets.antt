-- The frame that a packet holds.
use Rattle.std.specs.Prelude.{◌≡◌, ℕ, Bool, Decides, ◌<◌, ◌≤◌, min, List, length, take, drop, Some, None, Option}
use Rattle.link.specs.declared.packet.Packet.{Packet}
use Rattle.link.specs.Frames.{Frame}

abbrev pub frame_of : Packet → Frame
frame_of p = (p.to, p.bytes)

-- a packet of that frame, none exactly if it has over 128 bytes
abbrev pub Packed : ℕ → List ℕ → Option Packet → Type 0
Packed a b None = 128 < length b
Packed a b (Some p) = (length b ≤ 128) × (frame_of p ≡ (a, b))

-- as many of the bytes as the buffer has room for stand at its front, and the rest of it is as before
pub record Filled (bytes buf : List ℕ) (n : ℕ) (buf' : List ℕ) : Type 0 where
  pub size : n ≡ min (length bytes) (length buf)
  pub front : take n buf' ≡ take n bytes
  pub rest : drop n buf' ≡ drop n buf

-- over the `==` of packets
pub record PacketLaws (eq : Packet → Packet → Bool) : Type 0 where
  pub small : (p : Packet) → length (frame_of p).1 ≤ 128
  -- 128 bytes have room for every packet
  pub whole : (p : Packet) (buf buf' : List ℕ) (n : ℕ) → 128 ≤ length buf → Filled (frame_of p).1 buf n buf' → take n buf' ≡ (frame_of p).1
  -- two are equal exactly if they hold the same frame, address included
  pub same : (p q : Packet) → Decides (eq p q) (frame_of p ≡ frame_of q)
