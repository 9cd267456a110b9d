-- Which frame a take hands out, and what stays.
use Rattle.std.proofs.Common.{◌≡◌, ℕ, ◌+◌, ◌-◌, ◌%◌, ◌<◌, ◌≤◌, Bool, false, ltb, ◌⊎◌, List, length, get_or, Some, None, Option, eqb, ◌≢◌, find, refl, sym, ap, ◌∙◌, subst, inl, inr, arith}
use Rattle.std.specs.List.{Contains, range_with_len, slice_get, position_or_len}
use Rattle.std.proofs.lemmas.Option.{slice_get_within, slice_get_cases, get_or_from_slice_get}
use Rattle.std.proofs.lemmas.List.Elements.{Contains-get_or, at_from_Contains}
use Rattle.std.proofs.lemmas.List.Folds.{find_at}
use Rattle.std.proofs.lemmas.List.Sums.{fails_before_first}
use Rattle.std.proofs.lemmas.List.{length-append, get_or_append_left, get_or-append_right}
use Rattle.std.proofs.lemmas.List.FromFn.{length-range_with_len, get_or-range_with_len}
use Rattle.std.proofs.lemmas.Bool.{both_ways, cases_lt, eq-eqb, lt-ltb, and_from}
use Rattle.link.specs.Frames.{Frame, NoneFor}
use Rattle.round_robin.specs.IsLink.{at_first, found, is_taken}
use Rattle.round_robin.specs.Places.{Places, no_frame, at, is_to, round_from, round, moved, handed, round_take}
use Rattle.round_robin.specs.Laws.{Turn}

-- a search that comes to nothing passes every element
search_lost : (test : ℕ → Bool) (xs : List ℕ) → find test xs ≡ None → (k : ℕ) → k < length xs → test (get_or xs k 0) ≡ false
search_lost test xs e k l = go (slice_get_cases xs (position_or_len test xs)).1
  where
    n : ℕ
    n = position_or_len test xs

    go : ((x : ℕ) × (n < length xs) × (slice_get xs n ≡ Some x) × (get_or xs n x ≡ x)) ⊎ ((length xs ≤ n) × (slice_get xs n ≡ None)) → test (get_or xs k 0) ≡ false
    go (inl h) = let s : Some h.0 ≡ None = sym h.2 ∙ sym (find_at test xs) ∙ e in absurd cc
    go (inr h) = fails_before_first test xs k 0 (omega (arith, h.0))

-- the places of a round, one after another
module _ (p : ℕ) (begin : p < 16) where
  count : length (round_from p) ≡ 16
  count = omega (arith, length-append (range_with_len p (16 - p)) (range_with_len 0 p), length-range_with_len p (16 - p), length-range_with_len 0 p)

  step : (i : ℕ) → i < 16 → get_or (round_from p) i 0 ≡ (p + i) % 16
  step i l = go (cases_lt i (16 - p))
    where
      go : (i < 16 - p) ⊎ (16 - p ≤ i) → get_or (round_from p) i 0 ≡ (p + i) % 16
      go (inl m) =
          get_or_append_left (range_with_len p (16 - p)) (range_with_len 0 p) 0 i (omega (arith, length-range_with_len p (16 - p)))
          ∙ get_or-range_with_len p (16 - p) i 0 m ∙ omega arith
      go (inr m) =
          get_or-append_right (range_with_len p (16 - p)) (range_with_len 0 p) (16 - p) i 0 (length-range_with_len p (16 - p)) m
          ∙ get_or-range_with_len 0 p (i - (16 - p)) 0 (omega arith) ∙ omega arith

is_not : (w : List Frame) (a p : ℕ) → is_to w a p ≡ false → p < length w → (at w p).0 ≢ a
is_not w a p f l e = both_ways (is_to w a p) f (and_from (ltb p (length w)) (eqb (at w p).0 a) (lt-ltb p (length w) l) (eq-eqb (at w p).0 a e))

-- a round over all places passes every one
none_at : (w : List Frame) (a n : ℕ) → length w ≤ 16 → n < 16 → ((d : ℕ) → d < 16 → is_to w a ((n + d) % 16) ≡ false) → NoneFor a w
none_at w a n size l past b m =
    let q = at_from_Contains w (a, b) m in
    let e : (n + (q.0 + 16 - n) % 16) % 16 ≡ q.0 = omega (arith, q.1) in
    is_not w a q.0 (rw e at (past ((q.0 + 16 - n) % 16) (omega arith))) q.1 (ap (λ f. f.0) (q.2 no_frame))

-- what a take that answered o means
abbrev pub Means : Places → ℕ → Option (List ℕ) → Places → Type 0
Means m a None m' = NoneFor a m.frames × (m' ≡ m)
Means m a (Some b) m' = Turn m a b m'

waited : (m m' : Places) (a : ℕ) (b : List ℕ) → Turn m a b m' → Contains m.frames (a, b)
waited m m' a b s = subst (λ (f : Frame). Contains m.frames f) s.here (Contains-get_or m.frames ((m.next + s.steps) % 16) no_frame s.taken)

pub same_frames : (m m' : Places) (a : ℕ) (o : Option (List ℕ)) → Means m a o m' → (m'.frames ≡ m.frames) × (m'.oldest ≡ m.oldest)
same_frames m m' a None (none, e) = (ap (λ x. x.frames) e, ap (λ x. x.oldest) e)
same_frames m m' a (Some b) s = (ap (λ x. x.frames) s.after, ap (λ x. x.oldest) s.after)

-- the places are 16, and a round begins at one of them
module _ (m : Places) (size : length m.frames ≤ 16) (begin : m.next < 16) where
  means : (a : ℕ) → Means m a (round_take m a).0 (round_take m a).1
  means a = go (round m.frames a m.next) refl
    where
      go : (r : Option ℕ) → round m.frames a m.next ≡ r → Means m a (handed m r).0 (handed m r).1
      go None e =
          let past = search_lost (is_to m.frames a) (round_from m.next) e in
          (none_at m.frames a m.next size begin (λ d h. ap (is_to m.frames a) (sym (step m.next begin d h)) ∙ past d (omega (arith, count m.next begin))), refl)
      go (Some p) e =
          let n = position_or_len (is_to m.frames a) (round_from m.next) in
          let s = at_first (is_to m.frames a) (round_from m.next) p e in
          let few : n < 16 = omega (arith, slice_get_within (round_from m.next) n p s, count m.next begin) in
          let place : p ≡ (m.next + n) % 16 = sym (get_or_from_slice_get (round_from m.next) n p 0 s) ∙ step m.next begin n few in
          let q = is_taken m.frames a p (found (is_to m.frames a) (round_from m.next) p e) in
          let whole : ◌≡◌ {A = Frame} (at m.frames p) (a, (at m.frames p).1) = λ i. (q.1 i, (at m.frames p).1) in
          record {
            steps = n;
            few = few;
            taken = omega (arith, place, q.0);
            here = ap (at m.frames) (sym place) ∙ whole;
            past = λ d h. is_not m.frames a ((m.next + d) % 16) (ap (is_to m.frames a) (sym (step m.next begin d (omega arith))) ∙ fails_before_first (is_to m.frames a) (round_from m.next) d 0 h);
            after = ap (moved m) place;
          }

  module _ (m' : Places) (a : ℕ) (o : Option (List ℕ)) (e : (o, m') ≡ round_take m a) where
    pub took : Means m a o m'
    took = subst (λ (r : Option (List ℕ) × Places). Means m a r.0 r.1) (sym e) (means a)

    pub none_waits : NoneFor a m.frames → o ≡ None
    none_waits none = go o took
      where
        go : (p : Option (List ℕ)) → Means m a p m' → p ≡ None
        go None s = refl
        go (Some b) s = absurd (none b (waited m m' a b s))
