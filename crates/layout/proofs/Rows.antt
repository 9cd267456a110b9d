-- Rows and their bytes determine each other.
use Rattle.std.proofs.Common.{◌≡◌, ℕ, zero, suc, ◌+◌, ◌*◌, ◌/◌, ◌%◌, ◌^◌, ◌<◌, ◌≤◌, List, [], ◌∷◌, ◌++◌, length, get_or, take, drop, sym, refl, ap, ◌∙◌, append_assoc, mul-zero, mul-suc, arith, length-append, length-drop, get_or-drop}
use Rattle.std.proofs.Math.Seq.{take-add}
use native.Mathlib.Nat.{div-div-eq-div-mul}
use Rattle.values.specs.Times.{timestamp}
use Rattle.layout.specs.Numbers.{big, number, Layout, width, reading, writing, laid, rows_in, Each}
use Rattle.layout.specs.Frames.{FitRead, FitWrite}

abbrev pub Bytes : List ℕ → Type 0
Bytes b = (i : ℕ) → get_or b i 0 < 256

pub drop_bytes : (n : ℕ) (b : List ℕ) → Bytes b → Bytes (drop n b)
drop_bytes n b f i = let h = f (n + i) in rw get_or-drop h

-- f 0, f 1, .. f (n - 1)
abbrev pub listed : (ℕ → ℕ) → ℕ → List ℕ
listed f zero = []
listed f (suc n) = f 0 ∷ listed (λ i. f (suc i)) n

-- the first bytes one by one
pub firsts : (n : ℕ) (b : List ℕ) → n ≤ length b → take n b ≡ listed (λ i. get_or b i 0) n
firsts zero b h = refl
firsts (suc n) [] h = absurd (omega arith)
firsts (suc n) (x ∷ b) h = ap (λ (t : List ℕ). x ∷ t) (firsts n b (omega arith))

-- four bytes as a number, and back
pub big_number : (b : List ℕ) (p : ℕ) → Bytes b → big (number b p) ≡ get_or b p 0 ∷ get_or b (p + 1) 0 ∷ get_or b (p + 2) 0 ∷ get_or b (p + 3) 0 ∷ []
big_number b p f =
    let h0 = f p in
    let h1 = f (p + 1) in
    let h2 = f (p + 2) in
    let h3 = f (p + 3) in
    let e0 : number b p / 16777216 % 256 ≡ get_or b p 0 = omega arith in
    let e1 : number b p / 65536 % 256 ≡ get_or b (p + 1) 0 = omega arith in
    let e2 : number b p / 256 % 256 ≡ get_or b (p + 2) 0 = omega arith in
    let e3 : number b p % 256 ≡ get_or b (p + 3) 0 = omega arith in
    λ i. e0 i ∷ e1 i ∷ e2 i ∷ e3 i ∷ []

pub number_fits : (b : List ℕ) (p : ℕ) → Bytes b → number b p < 2 ^ 32
number_fits b p f =
    let h0 = f p in
    let h1 = f (p + 1) in
    let h2 = f (p + 2) in
    let h3 = f (p + 3) in
    omega arith

pub number_big : (n : ℕ) → n < 2 ^ 32 → n / 16777216 % 256 * 16777216 + n / 65536 % 256 * 65536 + n / 256 % 256 * 256 + n % 256 ≡ n
number_big n h =
    let a : n / 256 / 256 ≡ n / 65536 = div-div-eq-div-mul n 256 256 in
    let b : n / 65536 / 256 ≡ n / 16777216 = div-div-eq-div-mul n 65536 256 in
    let s0 : n ≡ n / 256 * 256 + n % 256 = omega arith in
    let s1 : n / 256 ≡ n / 256 / 256 * 256 + n / 256 % 256 = omega arith in
    let s2 : n / 65536 ≡ n / 65536 / 256 * 256 + n / 65536 % 256 = omega arith in
    let s3 : n / 16777216 % 256 ≡ n / 16777216 = omega arith in
    omega arith

pub small : (n : ℕ) → n < 256 → n % 256 ≡ n
small n h = omega arith

-- a row and its bytes determine each other
pub record Exact {X : Type 0} (l : Layout X) (Fit : X → Type 0) : Type 0 where
  pub back : (x : X) (rest : List ℕ) → Fit x → l.row (l.bytes x ++ rest) ≡ x
  pub skip : (x : X) (rest : List ℕ) → drop (width l) (l.bytes x ++ rest) ≡ rest
  pub long : (x : X) → length (l.bytes x) ≡ width l
  pub front : (b : List ℕ) → width l ≤ length b → Bytes b → l.bytes (l.row b) ≡ take (width l) b
  pub fit : (b : List ℕ) → Bytes b → Fit (l.row b)

pub exact_read : Exact reading FitRead
exact_read =
    record {
      back = λ r rest f. λ i. record { key = number_big r.key f.0 i; version = timestamp (number_big r.version.second f.1 i) (small r.version.transaction f.2 i) };
      skip = λ r rest. refl;
      long = λ r. refl;
      front = λ b h f. (λ i. big_number b 0 f i ++ (big_number b 4 f i ++ (small (get_or b 8 0) (f 8) i ∷ []))) ∙ sym (firsts 9 b h);
      fit = λ b f. (number_fits b 0 f, number_fits b 4 f, f 8);
    }

pub exact_write : Exact writing FitWrite
exact_write =
    record {
      back = λ w rest f. λ i. record { key = number_big w.key f.0 i; value = number_big w.value f.1 i };
      skip = λ w rest. refl;
      long = λ w. refl;
      front = λ b h f. (λ i. big_number b 0 f i ++ big_number b 4 f i) ∙ sym (firsts 8 b h);
      fit = λ b f. (number_fits b 0 f, number_fits b 4 f);
    }

pub length_rows : {X : Type 0} (l : Layout X) (n : ℕ) (b : List ℕ) → length (rows_in l n b) ≡ n
length_rows l zero b = refl
length_rows l (suc n) b = ap suc (length_rows l n (drop (width l) b))

pub length_laid : {X : Type 0} (l : Layout X) → ((x : X) → length (l.bytes x) ≡ width l) → (xs : List X) → length (laid l xs) ≡ width l * length xs
length_laid l long [] = sym (mul-zero (width l))
length_laid l long (x ∷ xs) =
    let a = long x in
    let t = length_laid l long xs in
    let m = mul-suc (width l) (length xs) in
    length-append (l.bytes x) (laid l xs) ∙ omega arith

module _ {X : Type 0} {l : Layout X} {Fit : X → Type 0} (e : Exact l Fit) where
  pub rows_laid : (xs : List X) (rest : List ℕ) → Each Fit xs → rows_in l (length xs) (laid l xs ++ rest) ≡ xs
  rows_laid [] rest f = refl
  rows_laid (x ∷ xs) rest f =
      let a = append_assoc (l.bytes x) (laid l xs) rest in
      ap (λ (t : List ℕ). l.row t ∷ rows_in l (length xs) (drop (width l) t)) a
      ∙ (λ i. e.back x (laid l xs ++ rest) f.0 i ∷ rows_in l (length xs) (e.skip x (laid l xs ++ rest) i))
      ∙ ap (λ (ys : List X). x ∷ ys) (rows_laid xs rest f.1)

  pub laid_rows : (n : ℕ) (b : List ℕ) → width l * n ≤ length b → Bytes b → laid l (rows_in l n b) ≡ take (width l * n) b
  laid_rows zero b h f = rw mul-zero refl
  laid_rows (suc n) b h f =
      let m = mul-suc (width l) n in
      let d = length-drop (width l) b in
      let sum : width l + width l * n ≡ width l * suc n = omega arith in
      (λ i. e.front b (omega arith) f i ++ laid_rows n (drop (width l) b) (omega arith) (drop_bytes (width l) b f) i)
      ∙ (sym (take-add (width l) (width l * n) b) ∙ ap (λ (k : ℕ). take k b) sum)

  pub rows_fit : (n : ℕ) (b : List ℕ) → Bytes b → Each Fit (rows_in l n b)
  rows_fit zero b f = tt
  rows_fit (suc n) b f = (e.fit b f, rows_fit n (drop (width l) b) (drop_bytes (width l) b f))
