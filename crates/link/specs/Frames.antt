-- What a link means: the frames that wait in it, and what a put and a take leave.
use Rattle.std.specs.Prelude.{◌≡◌, ℕ, ◌<◌, ◌≤◌, ◌⊎◌, List, length, take, drop, Some, None, Ok, Err, Option, Result}
use Rattle.std.specs.List.{Contains}
use Rattle.values.specs.declared.refusal.Refusal.{Refusal}
use Rattle.values.specs.declared.refusal.Refusal.TheVariants.{ShortBuffer}

-- an address and the bytes
abbrev pub Frame : Type 0
Frame = ℕ × List ℕ

-- no frame is for the address
abbrev pub NoneFor : ℕ → List Frame → Type 0
NoneFor a w = (b : List ℕ) → Contains w (a, b) → ⊥

-- every frame that waits after a put waited before or is the one put, which has at most 128 bytes
abbrev pub AfterPut : List Frame → ℕ → List ℕ → List Frame → Type 0
AfterPut w a b w' = (f : Frame) → Contains w' f → Contains w f ⊎ ((f ≡ (a, b)) × (length b ≤ 128))

-- What holds after a take that answered o.
pub record AfterTake (w : List Frame) (a : ℕ) (o : Option (List ℕ)) (w' : List Frame) : Type 0 where
  -- what is taken waited for that address
  pub waited : (b : List ℕ) → o ≡ Some b → Contains w (a, b)
  -- every frame that waits waited before
  pub still : (f : Frame) → Contains w' f → Contains w f

-- What a call of take does, over the relation `takes` of the link: a buffer below 128 bytes is refused and nothing changes;
-- else the bytes that are taken fill the front of the buffer, and the rest of it stays.
abbrev pub Taken : {L : Type 0} → (L → ℕ → Option (List ℕ) → L → Type 0) → L → ℕ → List ℕ → Result (Option ℕ) Refusal → List ℕ → L → Type 0
Taken takes l a buf (Err e) buf' l' = (length buf < 128) × (e ≡ ShortBuffer) × (l' ≡ l) × (buf' ≡ buf)
Taken takes l a buf (Ok None) buf' l' = (128 ≤ length buf) × takes l a None l' × (buf' ≡ buf)
Taken takes l a buf (Ok (Some n)) buf' l' = (128 ≤ length buf) × (n ≤ 128) × takes l a (Some (take n buf')) l' × (drop n buf' ≡ drop n buf)
