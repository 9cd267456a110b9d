-- What the filter's rule means.
use Rattle.std.proofs.Common.{◌≡◌, ℕ, Bool, map, refl, true, false, ◌⊎◌, List, [], ◌∷◌, ◌++◌, Some, None, Option, sym, ap, ◌∙◌, subst, inl, inr, append_assoc, append-nil, arith}
use Rattle.std.specs.List.{Contains, list_any}
use Rattle.std.proofs.lemmas.List.{length-map}
use Rattle.std.proofs.lemmas.Bool.{both_ways, cases_Bool}
use Rattle.link.specs.declared.Link as link
use Rattle.link.specs.declared.packet.Packet.{Packet}
use Rattle.link.proofs.Frames.{equal}
use Rattle.link.specs.Frames.{Frame}
use Rattle.link.specs.Laws.{Call, Put, Take, frames_taken, Run}
use Rattle.link.specs.Packets.{frame_of, Packed}
use Rattle.duplicate_filter.specs.declared.filter.DuplicateFilter.{DuplicateFilter}
use Rattle.duplicate_filter.specs.Repeats.{seen, last_eight, filtered}
use Rattle.duplicate_filter.specs.Means.{recent_of, filter_waiting, FilterPuts, FilterTakes}
use Rattle.duplicate_filter.specs.Laws.{Passed, Swallowed, OneTake, FilterLaws}
use Rattle.duplicate_filter.proofs.Repeats.{seen_decides, seen_from_any, last_push}

-- an answer and the last eight after it
abbrev Outcome : Type 0
Outcome = Option (List ℕ) × List Frame

-- the packet x of an inner frame
module _ (xs : List Packet) (a : ℕ) (b : List ℕ) (r : Option Packet) (x : Packet) (is : r ≡ Some x) (p : Packed a b r) where
  framed : frame_of x ≡ (a, b)
  framed = (subst (Packed a b) is p).1

  sought : (t : Bool) → t ≡ list_any (λ y. equal y x) xs → seen (a, b) (map frame_of xs) ≡ t
  sought t e = ap (λ f. seen f (map frame_of xs)) (sym framed) ∙ sym (e ∙ seen_from_any xs x)

  pub repeats : true ≡ list_any (λ y. equal y x) xs → ◌≡◌ {A = Outcome} (None, map frame_of xs) (filtered (map frame_of xs) a (Some b))
  repeats e = let t : seen (a, b) (map frame_of xs) ≡ true = sought true e in rw t refl

  pub passes : (rs' : List Frame) (c : List ℕ) → false ≡ list_any (λ y. equal y x) xs → c ≡ (frame_of x).1 → rs' ≡ last_eight (map frame_of xs ++ frame_of x ∷ [])
      → ◌≡◌ {A = Outcome} (Some c, rs') (filtered (map frame_of xs) a (Some b))
  passes rs' c e h q =
      let n : seen (a, b) (map frame_of xs) ≡ false = sought false e in
      rw n (λ i. (Some ((h ∙ ap (λ f. f.1) framed) i), (q ∙ ap (λ f. last_eight (map frame_of xs ++ f ∷ [])) framed) i))

-- the two ways of an inner frame
data Ways (rs : List Frame) (a : ℕ) (b : List ℕ) (o : Option (List ℕ)) (rs' : List Frame) : Type 0 where
  old : Contains rs (a, b) → o ≡ None → rs' ≡ rs → Ways rs a b o rs'
  fresh : (Contains rs (a, b) → ⊥) → o ≡ Some b → rs' ≡ last_eight (rs ++ (a, b) ∷ []) → Ways rs a b o rs'

ways : (rs rs' : List Frame) (a : ℕ) (b : List ℕ) (o : Option (List ℕ)) → ◌≡◌ {A = Outcome} (o, rs') (filtered rs a (Some b)) → Ways rs a b o rs'
ways rs rs' a b o e = go (cases_Bool (seen (a, b) rs))
  where
    go : (seen (a, b) rs ≡ true) ⊎ (seen (a, b) rs ≡ false) → Ways rs a b o rs'
    go (inl t) =
        let q : ◌≡◌ {A = Outcome} (o, rs') (None, rs) = rw t at e in
        old ((seen_decides (a, b) rs).0 t) (ap (λ r. r.0) q) (ap (λ r. r.1) q)
    go (inr n) =
        let q : ◌≡◌ {A = Outcome} (o, rs') (Some b, last_eight (rs ++ (a, b) ∷ [])) = rw n at e in
        fresh (λ m. both_ways (seen (a, b) rs) n ((seen_decides (a, b) rs).1 m)) (ap (λ r. r.0) q) (ap (λ r. r.1) q)

module _ {L : Type 0} (K : link.Ghosts L) where
  passed : (l l' : DuplicateFilter L) (a : ℕ) (b : List ℕ) → FilterTakes K l a (Some b) l' → Passed K l a b l'
  passed l l' a b (None, t, e) = let h : Some b ≡ None = ap (λ r. r.0) e in absurd cc
  passed l l' a b (Some d, t, e) = go (ways (recent_of l) (recent_of l') a d (Some b) e)
    where
      go : Ways (recent_of l) a d (Some b) (recent_of l') → Passed K l a b l'
      go (old m h r) = absurd cc
      go (fresh n h r) =
          let s : d ≡ b = cc in
          record {
            inner = subst (λ (x : List ℕ). K.takes l.inner a (Some x) l'.inner) s t;
            fresh = λ m. n (subst (λ (x : List ℕ). Contains (recent_of l) (a, x)) (sym s) m);
            joined = r ∙ ap (λ x. last_eight (recent_of l ++ (a, x) ∷ [])) s;
          }

  swallowed : (l l' : DuplicateFilter L) (a : ℕ) → FilterTakes K l a None l' → Swallowed K l a l'
  swallowed l l' a (None, t, e) = record { inner = inl t; stay = ap (λ r. r.1) e }
  swallowed l l' a (Some d, t, e) = go (ways (recent_of l) (recent_of l') a d None e)
    where
      go : Ways (recent_of l) a d None (recent_of l') → Swallowed K l a l'
      go (old m h r) = record { inner = inr (d, m, t); stay = r }
      go (fresh n h r) = absurd cc

  -- the last eight of the frames h that were handed out, and of those that the calls hand out after them
  last : (h : List Frame) (l l' : DuplicateFilter L) (cs : List Call) → recent_of l ≡ last_eight h → Run (filter_waiting K) (FilterPuts K) (FilterTakes K) l cs l' → recent_of l' ≡ last_eight (h ++ frames_taken cs)
  last h l l' [] held e = ap recent_of (sym e) ∙ held ∙ ap last_eight (sym (append-nil h))
  last h l l' (Put a b ∷ cs) held r = last h r.0 l' cs (r.1.1 ∙ held) r.2
  last h l l' (Take a None ∷ cs) held r = last h r.0 l' cs ((swallowed l r.0 a r.1).stay ∙ held) r.2
  last h l l' (Take a (Some b) ∷ cs) held r =
      last (h ++ (a, b) ∷ []) r.0 l' cs ((passed l r.0 a b r.1).joined ∙ ap (λ w. last_eight (w ++ (a, b) ∷ [])) held ∙ last_push h (a, b)) r.2
      ∙ ap last_eight (append_assoc h ((a, b) ∷ []) (frames_taken cs))

  one_take : (mean : L → List Frame) (l l' m' : DuplicateFilter L) (a : ℕ) (o p : Option (List ℕ)) → OneTake K mean l.inner a → FilterTakes K l a o l' → FilterTakes K l a p m'
      → (o ≡ p) × (recent_of l' ≡ recent_of m') × (mean l'.inner ≡ mean m'.inner)
  one_take mean l l' m' a o p one (i, t, e) (k, u, f) =
      let same = one l'.inner m'.inner i k t u in
      let q : ◌≡◌ {A = Outcome} (o, recent_of l') (p, recent_of m') = e ∙ ap (filtered (recent_of l) a) same.0 ∙ sym f in
      (ap (λ r. r.0) q, ap (λ r. r.1) q, same.1)

  pub filter_laws : FilterLaws K
  filter_laws = record {
    repeats = seen_decides;
    passed = passed;
    swallowed = swallowed;
    last = λ l l' cs e. last [] l l' cs e;
    bound = λ l. omega (arith, length-map l.recent.items frame_of, l.size);
    one_take = one_take;
  }
