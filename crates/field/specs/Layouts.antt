use Rattle.std.specs.Prelude.{◌≡◌, ℕ, zero, suc, ◌+◌, Bool, true, false, ◌&&◌, List, [], ◌∷◌, ◌++◌, Ok, Err, Result, nat_le}
use Rattle.values.specs.declared.refusal.Refusal.{Refusal}
use Rattle.values.specs.declared.refusal.Refusal.TheVariants.{NotAFrame}
use Rattle.field.specs.declared.Field.{Field}

-- one byte, from the first limit to the second
abbrev pub ranged : ℕ → ℕ → ℕ × ℕ → Field
ranged p x l = record { place = p; width = 1; good = nat_le l.0 x && nat_le x l.1 }

-- of a layout with n bytes, the field is there, and obeys its rule
abbrev pub holds : ℕ → Field → Bool
holds n f = nat_le (f.place + f.width) n && f.good

-- every field is there, and obeys its rule
abbrev pub Passes : ℕ → List Field → Type 0
Passes n [] = Unit {0}
Passes n (f ∷ fs) = (holds n f ≡ true) × Passes n fs

-- e names the place of the first field that is cut or breaks its rule
pub data Breaks (n : ℕ) : List Field → Refusal → Type 0 where
  here : {f : Field} {fs : List Field} {e : Refusal} → holds n f ≡ false → e ≡ NotAFrame f.place → Breaks n (f ∷ fs) e
  there : {f : Field} {fs : List Field} {e : Refusal} → holds n f ≡ true → Breaks n fs e → Breaks n (f ∷ fs) e

-- what a check of these fields answers, with P of the value that it gives
abbrev pub Checking : {X : Type 0} → ℕ → List Field → (X → Type 0) → Result X Refusal → Type 0
Checking n fs P (Ok x) = Passes n fs × P x
Checking n fs P (Err e) = Breaks n fs e

abbrev pub Checked : {X : Type 0} → ℕ → List Field → Result X Refusal → Type 0
Checked n fs (Ok x) = Passes n fs
Checked n fs (Err e) = Breaks n fs e

-- the fields of the first n rows
abbrev pub rows : (ℕ → List Field) → ℕ → List Field
rows row zero = []
rows row (suc n) = rows row n ++ row n
