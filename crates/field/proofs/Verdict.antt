use Rattle.std.proofs.Common.{◌≡◌, ℕ, Bool, true, false, ◌⊎◌, List, [], ◌∷◌, sym, refl, ◌∙◌, inl, inr}
use Rattle.std.proofs.lemmas.Bool.{both_ways}
use Rattle.values.specs.declared.refusal.Refusal.{Refusal}
use Rattle.values.specs.declared.refusal.Refusal.TheVariants.{NotAFrame}
use Rattle.field.specs.declared.Field.{Field}
use Rattle.field.specs.Layouts.{holds, Passes, Breaks}
use Rattle.field.specs.Layouts.Breaks.{here, there}
use Rattle.field.specs.Laws.{OneVerdict}

some_verdict : (n : ℕ) (fs : List Field) → Passes n fs ⊎ ((e : Refusal) × Breaks n fs e)
some_verdict n [] = inl tt
some_verdict n (f ∷ fs) = go (holds n f) refl (some_verdict n fs)
  where
    go : (t : Bool) → holds n f ≡ t → Passes n fs ⊎ ((e : Refusal) × Breaks n fs e) → Passes n (f ∷ fs) ⊎ ((e : Refusal) × Breaks n (f ∷ fs) e)
    go true h (inl q) = inl (h, q)
    go true h (inr k) = inr (k.0, there h k.1)
    go false h r = inr (NotAFrame f.place, here h refl)

pub never_both : (n : ℕ) (fs : List Field) (e : Refusal) → Passes n fs → Breaks n fs e → ⊥
never_both n [] e q x = elim x [ ]
never_both n (f ∷ fs) e q (here h k) = both_ways _ h q.0
never_both n (f ∷ fs) e q (there h k) = never_both n fs e q.1 k

one_place : (n : ℕ) (fs : List Field) (d e : Refusal) → Breaks n fs d → Breaks n fs e → d ≡ e
one_place n [] d e x y = elim x [ ]
one_place n (f ∷ fs) d e (here h k) (here i l) = k ∙ sym l
one_place n (f ∷ fs) d e (here h k) (there i l) = absurd (both_ways _ h i)
one_place n (f ∷ fs) d e (there h k) (here i l) = absurd (both_ways _ i h)
one_place n (f ∷ fs) d e (there h k) (there i l) = one_place n fs d e k l

pub one_verdict : OneVerdict
one_verdict = record { some = some_verdict; never_both = never_both; one_place = one_place }
