use Rattle.std.proofs.Common.{◌≡◌, ℕ, suc, ◌+◌, ◌-◌, ◌<◌, ◌≤◌, List, [], ◌∷◌, ◌++◌, length, take, drop, set, replicate, sym, refl, ap, ◌∙◌, arith}
use Rattle.std.proofs.lemmas.List.{take_at, drop_at, drop-replicate, set_at, append_assoc, length-append}
use Rattle.std.proofs.lemmas.Slice.{take-put_mid}
use borrow.Rule.Slice.PartMut.{put_mid}
use Rattle.bounded.specs.Count.{count_filled}
use Rattle.bounded.specs.Filled.{filled}

-- copied over the front of blank places, the list fills them up
pub filled_front : {X : Type 0} (n : ℕ) (blank : X) (xs ys : List X) → ys ≡ xs → ys ++ drop (length xs) (replicate n blank) ≡ filled n blank xs
filled_front n blank xs ys e = ap (λ t. t ++ drop (length xs) (replicate n blank)) e ∙ ap (λ t. xs ++ t) (drop-replicate (length xs) n blank)

-- the list stands in front
pub front_filled : {X : Type 0} (n : ℕ) (blank : X) (xs places : List X) → places ≡ filled n blank xs → take (length xs) places ≡ xs
front_filled n blank xs places e = ap (take (length xs)) e ∙ take_at xs (replicate (n - length xs) blank) (length xs) refl

pub still_filled : {X : Type 0} (n : ℕ) (blank : X) (xs places : List X) → places ≡ filled n blank xs → places ≡ filled n blank (take (length xs) places)
still_filled n blank xs places e = e ∙ ap (filled n blank) (sym (front_filled n blank xs places e))

-- an item written over the first blank place is the next of the list
pub filled_push : {X : Type 0} (n m : ℕ) (blank x : X) (xs places : List X) → n ≡ length xs + suc m → places ≡ filled n blank xs
    → set places (length xs) x ≡ filled n blank (xs ++ x ∷ [])
filled_push {X} n m blank x xs places e p =
    ap (λ (t : List X). set t (length xs) x) (p ∙ ap (λ (k : ℕ). xs ++ replicate k blank) (let q : n - length xs ≡ suc m = omega arith in q))
    ∙ set_at xs blank (replicate m blank) x (length xs) refl
    ∙ sym (append_assoc xs (x ∷ []) (replicate m blank))
    ∙ ap (λ (k : ℕ). (xs ++ x ∷ []) ++ replicate k blank) (let l : length (xs ++ x ∷ []) ≡ length xs + 1 = length-append xs (x ∷ []) in let q : m ≡ n - length (xs ++ x ∷ []) = omega arith in q)

-- one item more, and the places behind it still blank
pub push_filled : {X : Type 0} (n len : ℕ) (blank x : X) (places : List X) → len < n → places ≡ filled n blank (take len places)
    → (len + 1 ≤ n) × (set places len x ≡ filled n blank (take (len + 1) (set places len x)))
push_filled {X} n len blank x places h e =
    let xs = take len places in
    let c : length xs ≡ len = count_filled n len blank places (omega arith) e in
    let q : set places len x ≡ filled n blank (xs ++ x ∷ []) =
    ap (λ (k : ℕ). set places k x) (sym c) ∙ filled_push n (n - length xs - 1) blank x xs places (omega arith) e
    in
    let l : length (xs ++ x ∷ []) ≡ len + 1 = length-append xs (x ∷ []) ∙ ap (λ (k : ℕ). k + 1) c in
    (omega arith, still_filled n blank (xs ++ x ∷ []) (set places len x) q ∙ ap (λ (k : ℕ). filled n blank (take k (set places len x))) l)

-- more items written behind the list up to a place
module _ {X : Type 0} (n len end : ℕ) (blank : X) (ys zs places : List X) (whole : length places ≡ n) (fits : end ≤ n) (ends : end ≡ len + length ys) (same : zs ≡ ys) where
  -- they stand behind those before
  pub extended_front : take end (put_mid len (end - len) places zs) ≡ take len places ++ ys
  extended_front =
      let y : length zs ≡ length ys = ap length same in
      take-put_mid len (end - len) places zs end (omega arith) (omega arith) ∙ ap (λ (t : List X). take len places ++ t) same

  -- and the places behind them are still blank
  pub extend_filled : places ≡ filled n blank (take len places)
      → (end ≤ n) × (put_mid len (end - len) places zs ≡ filled n blank (take end (put_mid len (end - len) places zs)))
  extend_filled e =
      let xs = take len places in
      let c : length xs ≡ len = count_filled n len blank places (omega arith) e in
      let behind : drop (end - len) (drop len places) ≡ replicate (n - end) blank =
      ap (λ (t : List X). drop (end - len) (drop len t)) e
      ∙ ap (drop (end - len)) (drop_at xs (replicate (n - length xs) blank) len c)
      ∙ drop-replicate (end - len) (n - length xs) blank
      ∙ ap (λ (m : ℕ). replicate m blank) (omega arith)
      in
      let l : length (xs ++ ys) ≡ end = length-append xs ys ∙ omega arith in (
        fits,
        ap (λ (t : List X). xs ++ (zs ++ t)) behind
            ∙ ap (λ (t : List X). xs ++ (t ++ replicate (n - end) blank)) same
            ∙ sym (append_assoc xs ys (replicate (n - end) blank))
            ∙ ap (λ (m : ℕ). (xs ++ ys) ++ replicate (n - m) blank) (sym l)
            ∙ ap (filled n blank) (sym extended_front),
      )
