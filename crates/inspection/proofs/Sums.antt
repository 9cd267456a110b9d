use Rattle.std.proofs.Common.{◌≡◌, ℕ, ◌+◌, min, Bool, true, false, cond, List, [], ◌∷◌, length, count_by, refl, ap, ◌∙◌, arith}
use Rattle.std.proofs.lemmas.List.Sums.{sum_by-cons}
use Rattle.inspection.specs.Counting.{tally, top, counted_all, Counts}
use Rattle.inspection.specs.declared.tally.Tally.{Tally}

abbrev one : Bool → ℕ
one b = cond b 1 0

up : (n : ℕ) → min (min n top + 1) top ≡ min (n + 1) top
up n = omega arith

same : {a b c d : ℕ} → a ≡ b → c ≡ d → tally a c ≡ tally b d
same p q = λ i. tally (p i) (q i)

-- a tally that stands at n and m
from : (n m : ℕ) (lines : List Bool) → counted_all (tally (min n top) (min m top)) lines ≡ tally (min (n + length lines) top) (min (m + count_by (λ b. b) lines) top)
from n m [] = same (omega arith) (omega arith)
from n m (true ∷ lines) =
    let e = sum_by-cons one true lines in
    ap (λ (t : Tally). counted_all t lines) (same (up n) (up m)) ∙ (from (n + 1) (m + 1) lines ∙ same (omega arith) (omega arith))
from n m (false ∷ lines) =
    let e = sum_by-cons one false lines in
    ap (λ (t : Tally). counted_all t lines) (same (up n) refl) ∙ (from (n + 1) m lines ∙ same (omega arith) (omega arith))

pub counts : Counts
counts lines = from 0 0 lines ∙ same (omega arith) (omega arith)
