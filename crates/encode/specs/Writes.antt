-- What writing a frame into a longer buffer promises.
use Rattle.std.specs.Prelude.{◌≡◌, ℕ, ◌+◌, ◌<◌, ◌≤◌, ◌⊎◌, List, ◌++◌, length, take, drop, Ok, Err, Result}
use Rattle.values.specs.declared.refusal.Refusal.{Refusal}
use Rattle.values.specs.declared.refusal.Refusal.TheVariants.{ShortBuffer}
use Rattle.field.specs.Layouts.{Passes, Breaks}
use Rattle.layout.specs.Values.{Value}
use Rattle.layout.specs.Format.{value_fields}
use Rattle.layout.specs.Frames.{frame}

-- the frame stands at the place, n bytes long, and all around it is as it was
pub record Written (v : Value) (at n : ℕ) (b b' : List ℕ) : Type 0 where
  pub lawful : Passes 87 (value_fields v)
  pub long : n ≡ length (frame v)
  pub room : at + n ≤ length b
  pub bytes : b' ≡ take at b ++ (frame v ++ drop (at + n) b)

-- a lawful frame for which there is no room from the place on
pub record Short (v : Value) (at : ℕ) (b : List ℕ) (e : Refusal) : Type 0 where
  pub lawful : Passes 87 (value_fields v)
  pub refusal : e ≡ ShortBuffer
  pub room : length b < at + length (frame v)

-- why nothing is written: the first field that breaks its rule, by its place in the frame, and only then the want of room
abbrev pub Declined : Value → ℕ → List ℕ → Refusal → Type 0
Declined v at b e = Breaks 87 (value_fields v) e ⊎ Short v at b e

-- what writing the frame of v at a place of the buffer b answers and leaves; a refusal leaves the buffer as it was
abbrev pub Writes : Value → ℕ → List ℕ → Result ℕ Refusal → List ℕ → Type 0
Writes v at b (Ok n) b' = Written v at n b b'
Writes v at b (Err e) b' = (b' ≡ b) × Declined v at b e
