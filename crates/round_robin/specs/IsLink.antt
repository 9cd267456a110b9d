-- That frames at 16 places obey the laws of a link.
-- It stands here because the impl cites it; there is nothing in it that a reader has to believe.
use Rattle.std.specs.Prelude.{◌≡◌, ℕ, ◌+◌, ◌%◌, ◌<◌, ◌≤◌, Bool, true, false, ◌⊎◌, List, [], ◌∷◌, ◌++◌, length, Some, None, Option, find, ◌==◌, nat_lt, ◌≢◌, slice_index_or, slice_set, refl}
use Rattle.std.proofs.Common.{sym, ap, ◌∙◌, subst, inl, inr, arith}
use Rattle.std.proofs.lemmas.Bool.{cases_eq, cases_lt, eqb-true, ltb-true, lt-ltb, le-ltb, and_parts}
use Rattle.std.specs.List.{Contains, slice_get, position_or_len}
use Rattle.std.proofs.lemmas.Option.{slice_get_within, get_or_from_slice_get}
use Rattle.std.proofs.lemmas.List.{get_or-set_same, get_or-set_other, length-set}
use Rattle.std.proofs.lemmas.List.Elements.{Contains-get_or, Contains-push_cases}
use Rattle.std.proofs.lemmas.List.Folds.{find_at}
use Rattle.std.proofs.lemmas.List.Sums.{passes_at_first}
use Rattle.link.specs.Frames.{Frame, AfterPut, AfterTake}
use Rattle.link.proofs.Frames.{put_lost, put_kept}
use Rattle.round_robin.specs.Places.{Places, no_frame, at, round_put, is_to, round_from, round, handed, round_take}

contains_set : (f x : Frame) (w : List Frame) (i : ℕ) → Contains (slice_set w i x) f → Contains w f ⊎ (x ≡ f)
contains_set f x w i (k, l, e) = go (cases_eq k i)
  where
    go : (k ≡ i) ⊎ (k ≢ i) → Contains w f ⊎ (x ≡ f)
    go (inl h) = inr (sym (get_or-set_same w i x f (omega (arith, length-set w i x))) ∙ ap (λ j. slice_index_or (slice_set w i x) j f) (sym h) ∙ e)
    go (inr n) = inl (k, omega (arith, length-set w i x), sym (get_or-set_other w i k x f n) ∙ e)

-- the three ways of a put
pub data Puts (m : Places) (a : ℕ) (b : List ℕ) (m' : Places) : Type 0 where
  lost : 128 < length b → m' ≡ m → Puts m a b m'
  added : length b ≤ 128 → length m.frames < 16 → m'.frames ≡ m.frames ++ (a, b) ∷ [] → m'.oldest ≡ m.oldest → m'.next ≡ m.next → Puts m a b m'
  replaced : length b ≤ 128 → 16 ≤ length m.frames → m'.frames ≡ slice_set m.frames m.oldest (a, b) → m'.oldest ≡ (m.oldest + 1) % 16 → m'.next ≡ m.next → Puts m a b m'

pub puts : (m m' : Places) (a : ℕ) (b : List ℕ) → m' ≡ round_put m a b → Puts m a b m'
puts m m' a b e = go (cases_lt 128 (length b)) (cases_lt (length m.frames) 16)
  where
    go : (128 < length b) ⊎ (length b ≤ 128) → (length m.frames < 16) ⊎ (16 ≤ length m.frames) → Puts m a b m'
    go (inl l) h = let t : nat_lt 128 (length b) ≡ true = lt-ltb 128 (length b) l in lost l (rw t at e)
    go (inr l) (inl h) =
        let t : nat_lt 128 (length b) ≡ false = le-ltb 128 (length b) l in
        let u : nat_lt (length m.frames) 16 ≡ true = lt-ltb (length m.frames) 16 h in
        let q : m' ≡ record { frames = m.frames ++ (a, b) ∷ []; oldest = m.oldest; next = m.next } = rw (t, u) at e in
        added l h (ap (λ x. x.frames) q) (ap (λ x. x.oldest) q) (ap (λ x. x.next) q)
    go (inr l) (inr h) =
        let t : nat_lt 128 (length b) ≡ false = le-ltb 128 (length b) l in
        let u : nat_lt (length m.frames) 16 ≡ false = le-ltb (length m.frames) 16 h in
        let q : m' ≡ record { frames = slice_set m.frames m.oldest (a, b); oldest = (m.oldest + 1) % 16; next = m.next } = rw (t, u) at e in
        replaced l h (ap (λ x. x.frames) q) (ap (λ x. x.oldest) q) (ap (λ x. x.next) q)

pub after_put : (m m' : Places) (a : ℕ) (b : List ℕ) → m' ≡ round_put m a b → AfterPut m.frames a b m'.frames
after_put m m' a b e = go (puts m m' a b e)
  where
    go : Puts m a b m' → AfterPut m.frames a b m'.frames
    go (lost l h) = put_lost m.frames m'.frames a b (ap (λ x. x.frames) h)
    go (added l h s o n) = put_kept m.frames m'.frames a b l (λ f k. Contains-push_cases m.frames (a, b) f (subst (λ (v : List Frame). Contains v f) s k))
    go (replaced l h s o n) = put_kept m.frames m'.frames a b l (λ f k. contains_set f (a, b) m.frames m.oldest (subst (λ (v : List Frame). Contains v f) s k))

-- what a search finds, at the first place that passes the test
pub at_first : {X : Type 0} (test : X → Bool) (xs : List X) (x : X) → find test xs ≡ Some x → slice_get xs (position_or_len test xs) ≡ Some x
at_first test xs x e = sym (find_at test xs) ∙ e

pub found : {X : Type 0} (test : X → Bool) (xs : List X) (x : X) → find test xs ≡ Some x → test x ≡ true
found test xs x e =
    let n = position_or_len test xs in
    let s = at_first test xs x e in
    ap test (sym (get_or_from_slice_get xs n x x s)) ∙ passes_at_first test xs x (slice_get_within xs n x s)

pub is_taken : (w : List Frame) (a p : ℕ) → is_to w a p ≡ true → (p < length w) × ((at w p).0 ≡ a)
is_taken w a p t = let q = and_parts (nat_lt p (length w)) ((at w p).0 == a) t in (ltb-true p (length w) q.0, eqb-true (at w p).0 a q.1)

after : (m : Places) (a : ℕ) (r : Option ℕ) → ((p : ℕ) → r ≡ Some p → is_to m.frames a p ≡ true) → AfterTake m.frames a (handed m r).0 (handed m r).1.frames
after m a None h = record { waited = λ b e. absurd cc; still = λ f k. k }
after m a (Some p) h = record { waited = λ b e. subst (λ (f : Frame). Contains m.frames f) (here b cc) (Contains-get_or m.frames p no_frame q.0); still = λ f k. k }
  where
    q : (p < length m.frames) × ((at m.frames p).0 ≡ a)
    q = is_taken m.frames a p (h p refl)

    here : (b : List ℕ) → (at m.frames p).1 ≡ b → at m.frames p ≡ (a, b)
    here b e = λ i. (q.1 i, e i)

pub after_take : (m m' : Places) (a : ℕ) (o : Option (List ℕ)) → (o, m') ≡ round_take m a → AfterTake m.frames a o m'.frames
after_take m m' a o e =
    subst (λ (r : Option (List ℕ) × Places). AfterTake m.frames a r.0 r.1.frames) (sym e) (after m a (round m.frames a m.next) (found (is_to m.frames a) (round_from m.next)))
