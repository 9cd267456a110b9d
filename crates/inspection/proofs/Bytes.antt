-- Hex digits, and the bytes that they spell.
use Rattle.std.proofs.Common.{◌≡◌, ℕ, zero, suc, ◌+◌, ◌-◌, ◌*◌, ◌%◌, ◌<◌, ◌≤◌, true, cond, eqb, ltb, List, [], ◌∷◌, ◌++◌, length, get_or, take, drop, Some, None, Ok, codes, Option, Result, sym, refl, ap, ◌∙◌, subst, inl, inr, ⊎_elim, arith, eqb-true, append_assoc, append-nil}
use Rattle.std.proofs.lemmas.List.{take_all}
use Rattle.std.proofs.lemmas.Bool.{agree_below_at}
use Rattle.std.proofs.lemmas.Bool.Decides.{nat_tests}
use Rattle.std.specs.Option.{option_map}
use Rattle.std.specs.Result.{result_ok}
use Rattle.hex.proofs.HexLemmas.{decode_of-even, decode_sized-twice}
use Rattle.hex.specs.Hex.{hex_digit_value, digit_or_error, decode_pairs, decode_sized, ◌>>=◌}
use Rattle.hex.specs.declared.error.FromHexError.{FromHexError}
use Rattle.inspection.specs.Spelling.{digit, paired, byte, onto, unhex, Stands, Pair, Hex}

-- the digits are those that the crate `hex` reads
same_digit : (c : ℕ) → hex_digit_value c ≡ digit c
same_digit c = grind (arith, nat_tests)

-- what the crate `hex` reads of two characters
pair_read :
    (c d i : ℕ) (p q : Option ℕ)
    → result_ok ((digit_or_error c i p >>= (λ h. digit_or_error d (i + 1) q >>= (λ l. Ok (h * 16 + l)))) >>= (λ b. Ok (b ∷ []))) ≡ option_map (λ b. b ∷ []) (paired p q)
pair_read c d i None q = refl
pair_read c d i (Some x) None = refl
pair_read c d i (Some x) (Some y) = let e : x * 16 + y ≡ 16 * x + y = omega arith in ap (λ (n : ℕ). Some (n ∷ [])) e

pairs_read : (c d : ℕ) → result_ok (decode_pairs 0 (c ∷ d ∷ [])) ≡ option_map (λ b. b ∷ []) (byte c d)
unfolding decode_pairs
pairs_read c d =
    subst (λ (o : Option ℕ). result_ok (decode_pairs 0 (c ∷ d ∷ [])) ≡ option_map (λ b. b ∷ []) o) (λ j. paired (same_digit c j) (same_digit d j))
    (pair_read c d 0 (hex_digit_value c) (hex_digit_value d))

byte_read : (c d : ℕ) → result_ok (decode_sized (c ∷ d ∷ []) 1) ≡ option_map (λ b. b ∷ []) (byte c d)
byte_read c d = ap result_ok (decode_sized-twice (c ∷ d ∷ []) 1 refl ∙ decode_of-even (c ∷ d ∷ []) refl) ∙ pairs_read c d

-- so an answer of `hex` about two characters has their byte, if there is one
module _ (c d : ℕ) (r : Result (List ℕ) FromHexError) (read : r ≡ decode_sized (c ∷ d ∷ []) 1) where
  as_byte : option_map (λ b. b ∷ []) (byte c d) ≡ result_ok r
  as_byte = sym (byte_read c d) ∙ ap result_ok (sym read)

  pub byte_there : (bs : List ℕ) → result_ok r ≡ Some bs → Some (get_or bs 0 0) ≡ byte c d
  byte_there bs e = one (byte c d) (as_byte ∙ e)
    where
      one : (o : Option ℕ) → option_map (λ b. b ∷ []) o ≡ Some bs → Some (get_or bs 0 0) ≡ o
      one None e = cc
      one (Some x) e = let g : x ∷ [] ≡ bs = cc in ap (λ (l : List ℕ). Some (get_or l 0 0)) (sym g)

  pub no_byte : result_ok r ≡ None → None ≡ byte c d
  no_byte e = none (byte c d) (as_byte ∙ e)
    where
      none : (o : Option ℕ) → option_map (λ b. b ∷ []) o ≡ None → None ≡ o
      none None e = refl
      none (Some x) e = cc

-- bs before what is still to be read
abbrev pub after : List ℕ → Option (List ℕ) → Option (List ℕ)
after bs None = None
after bs (Some ds) = Some (bs ++ ds)

pub after_none : (o : Option (List ℕ)) → o ≡ after [] o
after_none None = refl
after_none (Some ds) = refl

after_one : (bs : List ℕ) (x : ℕ) (o : Option (List ℕ)) → after bs (onto (Some x) o) ≡ after (bs ++ x ∷ []) o
after_one bs x None = refl
after_one bs x (Some ds) = ap (λ (l : List ℕ). Some l) (sym (append_assoc bs (x ∷ []) ds))

-- what is behind the two characters in front
abbrev pub behind_two : List ℕ → List ℕ
behind_two cs = take (length cs - 2) (drop 2 cs)

two_in_front : (cs : List ℕ) → 2 ≤ length cs → cs ≡ get_or cs 0 0 ∷ get_or cs 1 0 ∷ behind_two cs
two_in_front [] h = absurd (omega arith)
two_in_front (c ∷ []) h = absurd (omega arith)
two_in_front (c ∷ d ∷ cs) h = ap (λ (t : List ℕ). c ∷ d ∷ t) (sym (take_all (length (c ∷ d ∷ cs) - 2) cs (omega arith)))

pub still_even : (cs : List ℕ) → 2 ≤ length cs → length cs % 2 ≡ 0 → length (behind_two cs) % 2 ≡ 0
still_even cs h e = let l = ap length (two_in_front cs h) in omega (arith, l)

-- the two characters in front are read next
module _ (cs bs rest : List ℕ) (two : 2 ≤ length rest) (so_far : unhex cs ≡ after bs (unhex rest)) where
  read_next : unhex cs ≡ after bs (onto (byte (get_or rest 0 0) (get_or rest 1 0)) (unhex (behind_two rest)))
  read_next = so_far ∙ ap (λ (t : List ℕ). after bs (unhex t)) (two_in_front rest two)

  pub after_more : (x : ℕ) → Some x ≡ byte (get_or rest 0 0) (get_or rest 1 0) → unhex cs ≡ after (bs ++ x ∷ []) (unhex (behind_two rest))
  after_more x e = read_next ∙ ap (λ (o : Option ℕ). after bs (onto o (unhex (behind_two rest)))) (sym e) ∙ after_one bs x (unhex (behind_two rest))

  pub after_broken : None ≡ byte (get_or rest 0 0) (get_or rest 1 0) → None ≡ unhex cs
  after_broken e = sym (read_next ∙ ap (λ (o : Option ℕ). after bs (onto o (unhex (behind_two rest)))) (sym e))

pub after_all : (cs bs rest : List ℕ) → length rest ≡ 0 → unhex cs ≡ after bs (unhex rest) → Some bs ≡ unhex cs
after_all cs bs [] e k = sym (k ∙ ap (λ (l : List ℕ). Some l) (append-nil bs))
after_all cs bs (c ∷ rest) e k = absurd (omega arith)

pub unhex_odd : (cs : List ℕ) → length cs % 2 ≡ 1 → unhex cs ≡ None
unhex_odd [] h = absurd (omega arith)
unhex_odd (c ∷ []) h = refl
unhex_odd (c ∷ d ∷ cs) h = ap (onto (byte c d)) (unhex_odd cs (omega arith)) ∙ onto_none (byte c d)
  where
    onto_none : (o : Option ℕ) → onto o None ≡ None
    onto_none None = refl
    onto_none (Some x) = refl

-- the digits by their order in a text
lower : (n : ℕ) → n < 16 → get_or (codes "0123456789abcdef") n 0 ≡ cond (ltb n 10) (48 + n) (87 + n)
lower n h = eqb-true _ _ (agree_below_at (λ k. eqb (get_or (codes "0123456789abcdef") k 0) (cond (ltb k 10) (48 + k) (87 + k))) (λ _. true) 16 n refl h)

upper : (n : ℕ) → n < 16 → get_or (codes "0123456789ABCDEF") n 0 ≡ cond (ltb n 10) (48 + n) (55 + n)
upper n h = eqb-true _ _ (agree_below_at (λ k. eqb (get_or (codes "0123456789ABCDEF") k 0) (cond (ltb k 10) (48 + k) (55 + k))) (λ _. true) 16 n refl h)

stands : (c n : ℕ) → digit c ≡ Some n → Stands c n
stands c n e =
    let small : n < 16 = grind (arith, nat_tests) in
    let low = lower n small in
    let high = upper n small in
    record { small = small; letter = grind (arith, nat_tests) }

stands_not : (c n : ℕ) → digit c ≡ None → Stands c n → ⊥
stands_not c n e s =
    let low = lower n s.small in
    let high = upper n s.small in
    grind (arith, nat_tests)

-- two more characters in front
step : (c d : ℕ) (cs : List ℕ) (p q : Option ℕ) (o : Option (List ℕ)) → digit c ≡ p → digit d ≡ q → Hex cs o → Hex (c ∷ d ∷ cs) (onto (paired p q) o)
step c d cs None q o e f h = inr (0, (omega arith, λ n s. stands_not c n e s))
step c d cs (Some x) None o e f h = inr (1, (omega arith, λ n s. stands_not d n f s))
step c d cs (Some x) (Some y) None e f h = ⊎_elim (λ odd. inl (omega arith)) (λ w. inr (suc (suc w.0), (omega (arith, w.1.0), w.1.1))) h
step c d cs (Some x) (Some y) (Some bs) e f h =
    record {
      count = omega (arith, h.count);
      each = each;
    }
  where
    each : (i : ℕ) → i < suc (length bs) → Pair (c ∷ d ∷ cs) ((16 * x + y) ∷ bs) i
    each zero l = (x, (y, (stands c x e, stands d y f, refl)))
    each (suc i) l =
        let at : 2 * suc i ≡ suc (suc (2 * i)) = omega arith in
        let next : suc (suc (2 * i)) + 1 ≡ suc (suc (2 * i + 1)) = omega arith in
        rw (at, next) (h.each i (omega arith))

hex : (cs : List ℕ) → Hex cs (unhex cs)
hex [] = record { count = refl; each = λ i l. absurd (omega arith) }
hex (c ∷ []) = inl refl
hex (c ∷ d ∷ cs) = step c d cs (digit c) (digit d) (unhex cs) refl refl (hex cs)

pub read_as : (cs : List ℕ) (o : Option (List ℕ)) → o ≡ unhex cs → Hex cs o
read_as cs o e = subst (Hex cs) (sym e) (hex cs)
