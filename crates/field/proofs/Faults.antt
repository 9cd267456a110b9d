-- How verdicts on lists of fields join.
use Rattle.std.proofs.Common.{◌≡◌, ℕ, zero, suc, ◌+◌, ◌<◌, ◌≤◌, true, false, leb, List, [], ◌∷◌, ◌++◌, length, get_or, take, Ok, Err, Result, refl, subst, arith, le-leb, leb-true}
use Rattle.std.proofs.lemmas.List.{take_more}
use Rattle.std.proofs.lemmas.Bool.{and_parts}
use Rattle.values.specs.declared.refusal.Refusal.{Refusal}
use Rattle.values.specs.declared.refusal.Refusal.TheVariants.{NotAFrame}
use Rattle.field.specs.declared.Field.{Field}
use Rattle.field.specs.Layouts.{holds, Passes, Breaks, Checked}

-- the first fields pass, and a later one breaks
pub after : {n : ℕ} {ys : List Field} {e : Refusal} (xs : List Field) → Passes n xs → Breaks n ys e → Breaks n (xs ++ ys) e
after [] h k = k
after (x ∷ xs) h k = Breaks.there h.0 (after xs h.1 k)

-- one of the first fields breaks
pub before : {n : ℕ} {xs : List Field} {e : Refusal} (ys : List Field) → Breaks n xs e → Breaks n (xs ++ ys) e
before ys (Breaks.here h e) = Breaks.here h e
before ys (Breaks.there h k) = Breaks.there h (before ys k)

pub pass_both : (n : ℕ) (xs ys : List Field) → Passes n xs → Passes n ys → Passes n (xs ++ ys)
pass_both n [] ys h k = k
pass_both n (x ∷ xs) ys h k = (h.0, pass_both n xs ys h.1 k)

pub pass_first : (n : ℕ) (xs ys : List Field) → Passes n (xs ++ ys) → Passes n xs
pass_first n [] ys q = tt
pass_first n (x ∷ xs) ys q = (q.0, pass_first n xs ys q.1)

pub pass_last : (n : ℕ) (xs ys : List Field) → Passes n (xs ++ ys) → Passes n ys
pass_last n [] ys q = q
pass_last n (x ∷ xs) ys q = pass_last n xs ys q.1

-- the bytes that a field asks for are there
pub reach : (n : ℕ) (f : Field) → holds n f ≡ true → f.place + f.width ≤ n
reach n f h = leb-true _ _ (and_parts _ _ h).0

-- one field more passes
pub pass_more : (n : ℕ) (fs : List Field) (i : ℕ) (d : Field) → i < length fs → Passes n (take i fs) → holds n (get_or fs i d) ≡ true → Passes n (take (i + 1) fs)
pass_more n fs i d h q k = rw (take_more fs i d h) (pass_both n (take i fs) (get_or fs i d ∷ []) q (k, tt))

-- the fields before the i-th pass, and that one does not hold
pub break_at : (n : ℕ) (fs : List Field) (i : ℕ) (d : Field) → i < length fs → Passes n (take i fs) → holds n (get_or fs i d) ≡ false → Breaks n fs (NotAFrame (get_or fs i d).place)
break_at n [] i d h q k = absurd (omega arith)
break_at n (f ∷ fs) zero d h q k = Breaks.here k refl
break_at n (f ∷ fs) (suc i) d h q k = Breaks.there q.0 (break_at n fs i d (omega arith) q.1 k)

-- every field ends within n bytes
abbrev pub Ends : ℕ → List Field → Type 0
Ends n [] = Unit {0}
Ends n (f ∷ fs) = (f.place + f.width ≤ n) × Ends n fs

pub ends_both : (n : ℕ) (xs ys : List Field) → Ends n xs → Ends n ys → Ends n (xs ++ ys)
ends_both n [] ys h k = k
ends_both n (x ∷ xs) ys h k = (h.0, ends_both n xs ys h.1 k)

-- fields that pass in some layout pass in every one that holds them whole
pub pass_whole : (m n : ℕ) (fs : List Field) → Ends n fs → Passes m fs → Passes n fs
pass_whole m n [] h q = tt
pass_whole m n (f ∷ fs) h q =
    let g : f.good ≡ true = (and_parts (leb (f.place + f.width) m) f.good q.0).1 in
    let e : leb (f.place + f.width) n ≡ true = le-leb _ _ h.0 in
    (rw e g, pass_whole m n fs h.1 q.1)

pub pass_ends : (n : ℕ) (fs : List Field) → Passes n fs → Ends n fs
pass_ends n [] q = tt
pass_ends n (f ∷ fs) q = (reach n f q.0, pass_ends n fs q.1)

pub ends_longer : (m n : ℕ) → m ≤ n → (fs : List Field) → Ends m fs → Ends n fs
ends_longer m n l [] h = tt
ends_longer m n l (f ∷ fs) h = (let e = h.0 in omega arith, ends_longer m n l fs h.1)

-- fields that pass in a layout pass in a longer one
pub pass_longer : (m n : ℕ) → m ≤ n → (fs : List Field) → Passes m fs → Passes n fs
pass_longer m n l fs q = pass_whole m n fs (ends_longer m n l fs (pass_ends m fs q)) q

-- the same fields, computed in another way
pub same_breaks : {n : ℕ} {e : Refusal} {xs ys : List Field} → xs ≡ ys → Breaks n xs e → Breaks n ys e
same_breaks {n} {e} p k = subst (λ (fs : List Field). Breaks n fs e) p k

pub same_passes : (n : ℕ) {xs ys : List Field} → xs ≡ ys → Passes n xs → Passes n ys
same_passes n p q = subst (λ (fs : List Field). Passes n fs) p q

pub same_checked : {X : Type 0} (n : ℕ) (r : Result X Refusal) {xs ys : List Field} → xs ≡ ys → Checked n xs r → Checked n ys r
same_checked n r p k = subst (λ (fs : List Field). Checked n fs r) p k

-- the first fields pass, and the verdict on the later ones is the answer
pub checked_after : {X : Type 0} (n : ℕ) (xs ys : List Field) (r : Result X Refusal) → Passes n xs → Checked n ys r → Checked n (xs ++ ys) r
checked_after n xs ys (Ok x) q k = pass_both n xs ys q k
checked_after n xs ys (Err e) q k = after xs q k
