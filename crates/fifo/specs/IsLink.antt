-- What the queue's rules mean, and that it obeys the laws of a link.
-- It stands here because the impl cites it; there is nothing in it that a reader has to believe.
use Rattle.std.specs.Prelude.{◌≡◌, ℕ, zero, suc, ◌<◌, ◌≤◌, true, false, ◌||◌, ◌⊎◌, List, [], ◌∷◌, ◌++◌, length, Some, None, Option, ◌==◌, nat_le, nat_lt, refl}
use Rattle.std.proofs.Common.{sym, ap, ◌∙◌, subst, inl, inr, arith}
use Rattle.std.specs.List.{Contains}
use Rattle.std.proofs.lemmas.List.Elements.{Contains-append_right, Contains-push_cases}
use Rattle.std.proofs.lemmas.Bool.{both_ways, cases_Bool, cases_lt, eqb-true, eq-eqb, or_left, or_right, or_from, lt-ltb, le-ltb, le-leb, lt-leb}
use Rattle.link.specs.Frames.{Frame, NoneFor, AfterPut, AfterTake}
use Rattle.link.proofs.Frames.{contains_more, put_lost, put_kept}
use Rattle.fifo.specs.Queues.{fifo_put, fifo_take}
use Rattle.fifo.specs.Laws.{OldestOf}

-- what a put leaves
module _ (w w' : List Frame) (a : ℕ) (b : List ℕ) (e : w' ≡ fifo_put w a b) where
  lost : (nat_lt 128 (length b) || nat_le 64 (length w)) ≡ true → w' ≡ w
  lost t = e ∙ rw t refl

  kept : (nat_lt 128 (length b) || nat_le 64 (length w)) ≡ false → w' ≡ w ++ (a, b) ∷ []
  kept n = e ∙ rw n refl

  pub appended : length b ≤ 128 → length w < 64 → w' ≡ w ++ (a, b) ∷ []
  appended l m = kept (or_from (nat_lt 128 (length b)) (nat_le 64 (length w)) (le-ltb 128 (length b) l) (lt-leb 64 (length w) m))

  pub full : 64 ≤ length w → w' ≡ w
  full l = lost (or_right (nat_lt 128 (length b)) (nat_le 64 (length w)) (le-leb 64 (length w) l))

  pub too_long : 128 < length b → w' ≡ w
  too_long l = lost (or_left (nat_lt 128 (length b)) (nat_le 64 (length w)) (lt-ltb 128 (length b) l))

  pub after_put : AfterPut w a b w'
  after_put = go (cases_lt 128 (length b)) (cases_lt (length w) 64)
    where
      go : (128 < length b) ⊎ (length b ≤ 128) → (length w < 64) ⊎ (64 ≤ length w) → AfterPut w a b w'
      go (inl l) h = put_lost w w' a b (too_long l)
      go (inr l) (inl h) = put_kept w w' a b l (λ f m. Contains-push_cases w (a, b) f (subst (λ (v : List Frame). Contains v f) (appended l h) m))
      go (inr l) (inr h) = put_lost w w' a b (full h)

-- what a take that answered o means
abbrev pub Means : List Frame → ℕ → Option (List ℕ) → List Frame → Type 0
Means w a None w' = NoneFor a w × (w' ≡ w)
Means w a (Some b) w' = OldestOf w a b w'

other : (f : Frame) (w : List Frame) (a : ℕ) → (f.0 == a) ≡ false → NoneFor a w → NoneFor a (f ∷ w)
other f w a n none b (zero, l, e) = both_ways (f.0 == a) n (eq-eqb f.0 a (ap (λ x. x.0) e))
other f w a n none b (suc k, l, e) = none b (k, omega arith, e)

later : (f : Frame) (w w' : List Frame) (a : ℕ) (o : Option (List ℕ)) → (f.0 == a) ≡ false → Means w a o w' → Means (f ∷ w) a o (f ∷ w')
later f w w' a None n (none, e) = (other f w a n none, ap (λ v. f ∷ v) e)
later f w w' a (Some b) n s = record {
  before = f ∷ s.before;
  after = s.after;
  split = ap (λ v. f ∷ v) s.split;
  first = other f s.before a n s.first;
  others = ap (λ v. f ∷ v) s.others;
}

means : (w : List Frame) (a : ℕ) → Means w a (fifo_take w a).0 (fifo_take w a).1
means [] a = (λ b m. absurd (omega (arith, m.1)), refl)
means (f ∷ w) a = go (means w a) (cases_Bool (f.0 == a))
  where
    go : Means w a (fifo_take w a).0 (fifo_take w a).1 → ((f.0 == a) ≡ true) ⊎ ((f.0 == a) ≡ false) → Means (f ∷ w) a (fifo_take (f ∷ w) a).0 (fifo_take (f ∷ w) a).1
    go more (inl t) =
        let e : f.0 ≡ a = eqb-true f.0 a t in
        rw t (record { before = []; after = w; split = λ i. (e i, f.1) ∷ w; first = λ b m. absurd (omega (arith, m.1)); others = refl })
    go more (inr n) = rw n (later f w (fifo_take w a).1 a (fifo_take w a).0 n more)

pub waited : (w w' : List Frame) (a : ℕ) (b : List ℕ) → OldestOf w a b w' → Contains w (a, b)
waited w w' a b s = subst (λ (v : List Frame). Contains v (a, b)) (sym s.split) (Contains-append_right s.before ((a, b) ∷ s.after) (a, b) (0, omega arith, refl))

module _ (w w' : List Frame) (a : ℕ) (o : Option (List ℕ)) (e : (o, w') ≡ fifo_take w a) where
  pub took : Means w a o w'
  took = subst (λ (r : Option (List ℕ) × List Frame). Means w a r.0 r.1) (sym e) (means w a)

  pub after_take : AfterTake w a o w'
  after_take = go o took
    where
      go : (p : Option (List ℕ)) → Means w a p w' → AfterTake w a p w'
      go None (none, s) = record { waited = λ b q. absurd cc; still = λ f m. subst (λ (v : List Frame). Contains v f) s m }
      go (Some b) s = record {
        waited = λ c q. let same : b ≡ c = cc in subst (λ (x : List ℕ). Contains w (a, x)) same (waited w w' a b s);
        still = λ f m. subst (λ (v : List Frame). Contains v f) (sym s.split) (contains_more f (a, b) s.before s.after (subst (λ (v : List Frame). Contains v f) s.others m));
      }
