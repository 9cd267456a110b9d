use Rattle.std.proofs.Common.{◌≡◌, ◌≢◌, ℕ, zero, suc, ◌+◌, ◌<◌, ◌≤◌, Bool, true, false, not, ◌&&◌, ◌||◌, eqb, List, length, get_or, take, refl, ap, ◌∙◌, add-one, arith}
use Rattle.std.proofs.lemmas.List.{get_or_read}
use Rattle.std.proofs.lemmas.List.Folds.{list_any_more}
use Rattle.std.specs.List.{list_any}
use Rattle.std.specs.Bool.{Decides}
use Rattle.std.proofs.lemmas.Bool.{and_from, both_ways, false_from_ne_true}
use Rattle.std.proofs.lemmas.Bool.Decides.{Decides-below_and, Decides-eqb, Decides-not}
use Rattle.values.specs.declared.timestamp.Timestamp.{Timestamp}
use Rattle.content.specs.declared.rows.Read.{Read}
use Rattle.content.specs.Rules.{unlike, differ, keys_of, readable, reads_before, no_read, Apart}

-- what each test decides
unlike_tested : (f : ℕ → ℕ) (k n : ℕ) → Decides (unlike f k n) ((i : ℕ) → i < n → f i ≢ k)
unlike_tested f k n = Decides-below_and (λ i. not (eqb (f i) k)) (λ i. f i ≢ k) (unlike f k) (λ i. Decides-not _ (Decides-eqb (f i) k)) refl (λ _. refl) n

differ_tested : (f : ℕ → ℕ) (n : ℕ) → Decides (differ f n) ((i : ℕ) → i < n → unlike f (f i) i ≡ true)
differ_tested f n = Decides-below_and (λ i. unlike f (f i) i) (λ i. unlike f (f i) i ≡ true) (differ f) (λ _. (λ h. h, λ h. h)) refl (λ _. refl) n

pub before_tested : (t : Timestamp) (rs : List Read) (n : ℕ) → Decides (reads_before t rs n) ((i : ℕ) → i < n → readable t (get_or rs i no_read) ≡ true)
before_tested t rs n =
    let p = λ (i : ℕ). readable t (get_or rs i no_read) in
    Decides-below_and p (λ i. p i ≡ true) (reads_before t rs) (λ _. (λ h. h, λ h. h)) refl (λ _. refl) n

pub differ_more : (f : ℕ → ℕ) (i : ℕ) → unlike f (f i) i ≡ true → differ f i ≡ true → differ f (i + 1) ≡ true
differ_more f i h g = rw add-one (and_from _ _ h g)

-- one repeated key is enough
pub differ_not : (f : ℕ → ℕ) (i n : ℕ) → i < n → unlike f (f i) i ≡ false → differ f n ≡ false
differ_not f i n h e = false_from_ne_true _ (λ d. both_ways _ e ((differ_tested f n).0 d i h))

-- the test finds just what differs
pub differ_apart : (f : ℕ → ℕ) (n : ℕ) → differ f n ≡ true → Apart f n
differ_apart f n h i j l m = (unlike_tested f (f j) j).0 ((differ_tested f n).0 h j m) i l

pub apart_differ : (f : ℕ → ℕ) (n : ℕ) → Apart f n → differ f n ≡ true
apart_differ f n h = (differ_tested f n).1 (λ j m. (unlike_tested f (f j) j).1 (λ i l. h i j l m))

either : (a b : Bool) → (not b || a) ≡ not (not a && b)
either true true = refl
either true false = refl
either false true = refl
either false false = refl

-- to look for a key among the first rows is to look for it at each of their places
pub any_unlike : {X : Type 0} (key : X → ℕ) (blank : X) (xs : List X) (k i : ℕ) → i ≤ length xs
    → list_any (λ x. eqb (key x) k) (take i xs) ≡ not (unlike (keys_of key blank xs) k i)
any_unlike key blank xs k zero h = refl
any_unlike {X} key blank xs k (suc i) h =
    ap (λ (n : ℕ). list_any (λ (x : X). eqb (key x) k) (take n xs)) (let e : suc i ≡ i + 1 = omega arith in e) ∙ list_any_more (λ x. eqb (key x) k) xs i blank (omega arith)
    ∙ ap (λ (b : Bool). b || eqb (key (get_or xs i blank)) k) (any_unlike key blank xs k i (omega arith))
    ∙ either (eqb (key (get_or xs i blank)) k) (unlike (keys_of key blank xs) k i)

-- and to look among those before a row for its own key is to look whether the key is new
pub has_earlier : {X : Type 0} (key : X → ℕ) (blank : X) (xs : List X) {i : ℕ} {x : X} {k : ℕ} {b : Bool} → i < length xs → x ≡ get_or xs i x → k ≡ key x
    → b ≡ list_any (λ y. eqb (key y) k) (take i xs) → b ≡ not (unlike (keys_of key blank xs) (keys_of key blank xs i) i)
has_earlier key blank xs {i} {x} {k} h e q l =
    l ∙ any_unlike key blank xs k i (omega arith) ∙ ap (λ (m : ℕ). not (unlike (keys_of key blank xs) m i)) (q ∙ ap key (get_or_read xs i x h e blank))

-- a read that no transaction at t can have made
pub before_met : (t : Timestamp) (rs : List Read) (n i : ℕ) → i < n → readable t (get_or rs i no_read) ≡ false → reads_before t rs n ≡ false
before_met t rs n i h e = false_from_ne_true _ (λ d. both_ways _ e ((before_tested t rs n).0 d i h))

pub before_more : (t : Timestamp) (rs : List Read) (i : ℕ) → readable t (get_or rs i no_read) ≡ true → reads_before t rs i ≡ true → reads_before t rs (i + 1) ≡ true
before_more t rs i h g = rw add-one (and_from _ _ h g)
