-- What layers above may rest on, whatever the link is made of.
use Rattle.std.specs.Prelude.{◌≡◌, ℕ, ◌<◌, ◌≤◌, true, cond, ◌⊎◌, List, [], ◌∷◌, ◌++◌, length, is_ok, Some, None, Err, Option, Result, nat_le}
use Rattle.std.specs.List.{Contains}
use Rattle.values.specs.declared.refusal.Refusal.{Refusal}
use Rattle.values.specs.declared.refusal.Refusal.TheVariants.{ShortBuffer}
use Rattle.link.specs.Frames.{Frame, Taken}

-- a call that is not refused, with its answer
pub data Call : Type 0 where
  Put : ℕ → List ℕ → Call
  Take : ℕ → Option (List ℕ) → Call

-- the frames of at most 128 bytes that the calls put
abbrev pub frames_put : List Call → List Frame
frames_put [] = []
frames_put (Put a b ∷ cs) = cond (nat_le (length b) 128) ((a, b) ∷ frames_put cs) (frames_put cs)
frames_put (Take a o ∷ cs) = frames_put cs

-- the frames that the calls took
abbrev pub frames_taken : List Call → List Frame
frames_taken [] = []
frames_taken (Put a b ∷ cs) = frames_taken cs
frames_taken (Take a None ∷ cs) = frames_taken cs
frames_taken (Take a (Some b) ∷ cs) = (a, b) ∷ frames_taken cs

module _ {L : Type 0} (waiting : L → List Frame) (puts : L → ℕ → List ℕ → L → Type 0) (takes : L → ℕ → Option (List ℕ) → L → Type 0) where
  -- the calls, one after another, bring the link from l to l'
  abbrev pub Run : L → List Call → L → Type 0
  Run l [] l' = l ≡ l'
  Run l (Put a b ∷ cs) l' = (m : L) × puts l a b m × Run m cs l'
  Run l (Take a o ∷ cs) l' = (m : L) × takes l a o m × Run m cs l'

  pub record LinkLaws : Type 0 where
    -- a take is refused exactly if the buffer is too short, and then nothing changes
    pub short : (l l' : L) (a : ℕ) (buf buf' : List ℕ) (r : Result (Option ℕ) Refusal) → Taken takes l a buf r buf' l' → length buf < 128
        → (r ≡ Err ShortBuffer) × (l' ≡ l) × (buf' ≡ buf)
    pub ample : (l l' : L) (a : ℕ) (buf buf' : List ℕ) (r : Result (Option ℕ) Refusal) → Taken takes l a buf r buf' l' → 128 ≤ length buf → is_ok r ≡ true
    -- whatever the calls, no frame waits that did not wait at first and was not put
    pub waits : (l l' : L) (cs : List Call) → Run l cs l' → (f : Frame) → Contains (waiting l') f → Contains (waiting l) f ⊎ Contains (frames_put cs) f
    -- what a call hands out waited at first or was put before
    pub origin : (l l' : L) (cs ds : List Call) (a : ℕ) (b : List ℕ) → Run l (cs ++ Take a (Some b) ∷ ds) l' → Contains (waiting l) (a, b) ⊎ Contains (frames_put cs) (a, b)
