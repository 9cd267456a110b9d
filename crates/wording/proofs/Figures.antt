-- A number can be read back from the front of a text.
use Rattle.std.proofs.Common.{◌≡◌, ℕ, ◌<◌, Bool, true, false, ◌||◌, ltb, List, [], ◌∷◌, ◌++◌, length, decimal, sym, refl, subst, arith}
use Rattle.std.proofs.lemmas.Fmt.{decimal_is_IsNumeral, decimal_injective}
use Rattle.std.proofs.lemmas.Bool.Decides.{nat_tests}
use Rattle.std.proofs.lemmas.List.{append_cancel_left}
use Rattle.std.specs.Char.{digit_value}
use Rattle.std.specs.Str.Parse.{AllDigits}
use Rattle.wording.specs.Apart.{Sized}

-- no digit comes first
abbrev pub ends : List ℕ → Bool
ends [] = true
ends (c ∷ cs) = ltb c 48 || ltb 57 c

no_end : (d : ℕ) → digit_value d < 10 → (ltb d 48 || ltb 57 d) ≡ true → ⊥
no_end d f e = grind (arith, nat_tests)

-- where the digits of one text end, those of an equal text do
cut : (p q r s : List ℕ) → AllDigits 10 p → AllDigits 10 q → ends r ≡ true → ends s ≡ true → p ++ r ≡ q ++ s → (p ≡ q) × (r ≡ s)
cut [] [] r s f g h k e = (refl, e)
cut [] (d ∷ q) r s f g h k e = absurd (no_end d g.0 (subst (λ (l : List ℕ). ends l ≡ true) e h))
cut (c ∷ p) [] r s f g h k e = absurd (no_end c f.0 (subst (λ (l : List ℕ). ends l ≡ true) (sym e) k))
cut (c ∷ p) (d ∷ q) r s f g h k e =
    let first : c ≡ d = cc in
    let others : p ++ r ≡ q ++ s = cc in
    let both = cut p q r s f.1 g.1 h k others in
    ((λ i. first i ∷ both.0 i), both.1)

-- a word and a number after it
pub same_number : (w : List ℕ) (m n : ℕ) (r s : List ℕ) → Sized m → Sized n → ends r ≡ true → ends s ≡ true → w ++ (decimal m ++ r) ≡ w ++ (decimal n ++ s) → (m ≡ n) × (r ≡ s)
same_number w m n r s h k x y e =
    let both = cut (decimal m) (decimal n) r s (decimal_is_IsNumeral m h).0.1 (decimal_is_IsNumeral n k).0.1 x y (append_cancel_left w _ _ e) in
    (decimal_injective m n h k both.0, both.1)

-- a number begins with a digit
starts : (ds r : List ℕ) → AllDigits 10 ds → 0 < length ds → ends (ds ++ r) ≡ false
starts [] r f h = absurd (omega arith)
starts (d ∷ ds) r f h = grind (arith, nat_tests)

pub number_starts : (n : ℕ) (r : List ℕ) → Sized n → ends (decimal n ++ r) ≡ false
number_starts n r h = let digits = (decimal_is_IsNumeral n h).0 in starts (decimal n) r digits.1 digits.0
