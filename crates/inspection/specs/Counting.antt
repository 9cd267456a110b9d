use Rattle.std.specs.Prelude.{◌≡◌, ℕ, ◌+◌, ◌-◌, ◌^◌, min, Bool, true, cond, List, [], ◌∷◌, ◌++◌, length, codes, decimal, count_by}
use Rattle.inspection.specs.declared.tally.Tally.{Tally}

abbrev pub tally : ℕ → ℕ → Tally
tally n m = record { frames = n; refused = m }

abbrev pub none : Tally
none = tally 0 0

-- a count stops here
abbrev pub top : ℕ
top = 2 ^ 64 - 1

abbrev pub raised : ℕ → Bool → ℕ
raised n more = cond more (min (n + 1) top) n

-- one more line
abbrev pub counted : Tally → Bool → Tally
counted t refused = tally (raised t.frames true) (raised t.refused refused)

-- the lines in their order; true stands for one that is refused
abbrev pub counted_all : Tally → List Bool → Tally
counted_all t [] = t
counted_all t (b ∷ bs) = counted_all (counted t b) bs

-- counted from none, a tally has the number of lines and the number of those that are refused, as far as these do not pass the top
abbrev pub Counts : Type 0
Counts = (lines : List Bool) → counted_all none lines ≡ tally (min (length lines) top) (min (count_by (λ b. b) lines) top)

-- the last line of a report
abbrev pub summary : Tally → List ℕ
summary t = decimal t.frames ++ (codes " frames, " ++ (decimal t.refused ++ codes " refused"))
