-- That a filter over a link obeys the laws of a link.
-- It stands here because the impl cites it; there is nothing in it that a reader has to believe.
use Rattle.std.specs.Prelude.{◌≡◌, ℕ, true, false, ◌⊎◌, List, Some, None, Option}
use Rattle.std.proofs.Common.{ap, subst, sym, inl, inr}
use Rattle.std.proofs.lemmas.Bool.{cases_Bool}
use Rattle.link.specs.Frames.{Frame, AfterTake}
use Rattle.duplicate_filter.specs.Repeats.{seen, filtered}

-- what is handed out is what the inner link handed out
handed_on : (rs rs' : List Frame) (a : ℕ) (b : List ℕ) (i : Option (List ℕ))
    → (Some b, rs') ≡ filtered rs a i → i ≡ Some b
handed_on rs rs' a b None e = absurd (let q : Some b ≡ None = ap (λ r. r.0) e in cc)
handed_on rs rs' a b (Some d) e = go (cases_Bool (seen (a, d) rs))
  where
    go : (seen (a, d) rs ≡ true) ⊎ (seen (a, d) rs ≡ false) → Some d ≡ Some b
    go (inl t) = absurd (let q : Some b ≡ None = ap (λ r. r.0) (rw t at e) in cc)
    go (inr n) = sym (ap (λ r. r.0) (rw n at e))

-- so a filter leaves waiting what the inner link leaves
pub after_take : {w w' : List Frame} (rs rs' : List Frame) (a : ℕ) (o i : Option (List ℕ))
    → AfterTake w a i w' → (o, rs') ≡ filtered rs a i → AfterTake w a o w'
after_take rs rs' a o i k e = record {
  waited = λ b h. k.waited b (handed_on rs rs' a b i (subst (λ (p : Option (List ℕ)). (p, rs') ≡ filtered rs a i) h e));
  still = k.still;
}
