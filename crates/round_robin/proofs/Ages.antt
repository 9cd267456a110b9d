-- What a put does to the places, and which frames they hold after any calls.
use Rattle.std.proofs.Common.{◌≡◌, ℕ, ◌+◌, ◌%◌, ◌<◌, ◌≤◌, true, false, ◌≢◌, ◌⊎◌, List, [], ◌∷◌, ◌++◌, length, Some, None, leb, set, vec_items, refl, sym, ap, ◌∙◌, subst, append_assoc, append-nil, inl, inr, arith}
use Rattle.std.proofs.lemmas.List.{length-map, length_push, length-set, get_or_append_left, get_or_push, get_or-set_same, get_or-set_other}
use Rattle.std.proofs.lemmas.Bool.{cases_lt, le-leb, lt-leb}
use Rattle.link.specs.Frames.{Frame}
use Rattle.link.specs.Laws.{Call, Put, Take, frames_put, Run}
use Rattle.round_robin.specs.declared.rotation.RoundRobin.{RoundRobin}
use Rattle.round_robin.specs.Places.{Places, new_places, no_frame, at}
use Rattle.round_robin.specs.Means.{places_of, round_waiting, RoundPuts, RoundTakes}
use Rattle.link.specs.Packets.{frame_of}
use Rattle.round_robin.specs.IsLink.{Puts, lost, added, replaced, puts}
use Rattle.round_robin.specs.Laws.{LastOf, RoundRobinLaws}
use Rattle.round_robin.proofs.Turns.{took, same_frames, none_waits}

size_of : (l : RoundRobin) → length (round_waiting l) ≤ 16
size_of l = omega (arith, length-map (vec_items l.frames) frame_of, l.frames.ok.0, l.size)

unmoved : (m m' : Places) (a : ℕ) (b : List ℕ) → Puts m a b m' → m'.next ≡ m.next
unmoved m m' a b (lost l h) = ap (λ x. x.next) h
unmoved m m' a b (added l h s o n) = n
unmoved m m' a b (replaced l h s o n) = n

too_long : (m m' : Places) (a : ℕ) (b : List ℕ) → 128 < length b → Puts m a b m' → m' ≡ m
too_long m m' a b g (lost l h) = h
too_long m m' a b g (added l h s o n) = absurd (omega arith)
too_long m m' a b g (replaced l h s o n) = absurd (omega arith)

-- the places hold the last of the frames h, and then of these and the one put
module _ (h : List Frame) (m m' : Places) (a : ℕ) (b : List ℕ) (held : LastOf h m) where
  grown : length (h ++ (a, b) ∷ []) ≡ length h + 1
  grown = length_push h (a, b)

  added_last : length m.frames < 16 → m'.frames ≡ m.frames ++ (a, b) ∷ [] → m'.oldest ≡ m.oldest → LastOf (h ++ (a, b) ∷ []) m'
  added_last room s o = record {
    count = ap length s ∙ length_push m.frames (a, b) ∙ omega (arith, held.count, grown);
    kept = λ k l r. ap (λ w. at w (k % 16)) s ∙ go k (omega (arith, grown)) (cases_lt k (length h));
    oldest = o ∙ held.oldest ∙ omega (arith, held.count, grown);
  }
    where
      go : (k : ℕ) → k < length h + 1 → (k < length h) ⊎ (length h ≤ k) → at (m.frames ++ (a, b) ∷ []) (k % 16) ≡ at (h ++ (a, b) ∷ []) k
      go k l (inl n) =
          get_or_append_left m.frames ((a, b) ∷ []) no_frame (k % 16) (omega (arith, held.count)) ∙ held.kept k n (omega (arith, held.count))
          ∙ sym (get_or_append_left h ((a, b) ∷ []) no_frame k n)
      go k l (inr n) = get_or_push m.frames (a, b) no_frame (k % 16) (omega (arith, held.count)) ∙ sym (get_or_push h (a, b) no_frame k (omega arith))

  replaced_last : 16 ≤ length m.frames → m'.frames ≡ set m.frames m.oldest (a, b) → m'.oldest ≡ (m.oldest + 1) % 16 → LastOf (h ++ (a, b) ∷ []) m'
  replaced_last full s o = record {
    count = ap length s ∙ length-set m.frames m.oldest (a, b) ∙ omega (arith, held.count, grown);
    kept = λ k l r. ap (λ w. at w (k % 16)) s ∙ go k (omega (arith, grown)) (omega (arith, grown)) (cases_lt k (length h));
    oldest = o ∙ omega (arith, held.oldest, held.count, grown);
  }
    where
      go : (k : ℕ) → k < length h + 1 → length h + 1 ≤ k + 16 → (k < length h) ⊎ (length h ≤ k) → at (set m.frames m.oldest (a, b)) (k % 16) ≡ at (h ++ (a, b) ∷ []) k
      go k l r (inl n) =
          let ne : k % 16 ≢ m.oldest = λ e. absurd (omega (arith, held.oldest, held.count)) in
          get_or-set_other m.frames m.oldest (k % 16) (a, b) no_frame ne ∙ held.kept k n (omega arith) ∙ sym (get_or_append_left h ((a, b) ∷ []) no_frame k n)
      go k l r (inr n) =
          let e : k % 16 ≡ m.oldest = omega (arith, held.oldest, held.count) in
          ap (at (set m.frames m.oldest (a, b))) e ∙ get_or-set_same m.frames m.oldest (a, b) no_frame (omega (arith, held.oldest)) ∙ sym (get_or_push h (a, b) no_frame k (omega arith))

-- the frames that the calls put, with those put before
last_put : (h : List Frame) (m m' : Places) (a : ℕ) (b : List ℕ) → LastOf h m → Puts m a b m' → LastOf (h ++ frames_put (Put a b ∷ [])) m'
last_put h m m' a b held (lost l e) =
    let t : leb (length b) 128 ≡ false = lt-leb (length b) 128 l in
    rw (t, append-nil h) (subst (LastOf h) (sym e) held)
last_put h m m' a b held (added l r s o n) = let t : leb (length b) 128 ≡ true = le-leb (length b) 128 l in rw t (added_last h m m' a b held r s o)
last_put h m m' a b held (replaced l f s o n) = let t : leb (length b) 128 ≡ true = le-leb (length b) 128 l in rw t (replaced_last h m m' a b held f s o)

put_before : (a : ℕ) (b : List ℕ) (cs : List Call) → frames_put (Put a b ∷ cs) ≡ frames_put (Put a b ∷ []) ++ frames_put cs
put_before a b cs = go (cases_lt 128 (length b))
  where
    go : (128 < length b) ⊎ (length b ≤ 128) → frames_put (Put a b ∷ cs) ≡ frames_put (Put a b ∷ []) ++ frames_put cs
    go (inl l) = let t : leb (length b) 128 ≡ false = lt-leb (length b) 128 l in rw t refl
    go (inr l) = let t : leb (length b) 128 ≡ true = le-leb (length b) 128 l in rw t refl

same_last : (h : List Frame) (m m' : Places) → LastOf h m → (m'.frames ≡ m.frames) × (m'.oldest ≡ m.oldest) → LastOf h m'
same_last h m m' held (s, o) = record { count = ap length s ∙ held.count; kept = λ k l r. ap (λ w. at w (k % 16)) s ∙ held.kept k l r; oldest = o ∙ held.oldest }

last : (h : List Frame) (l l' : RoundRobin) (cs : List Call) → LastOf h (places_of l) → Run round_waiting RoundPuts RoundTakes l cs l' → LastOf (h ++ frames_put cs) (places_of l')
last h l l' [] held e = rw (append-nil h) (subst (λ (x : RoundRobin). LastOf h (places_of x)) e held)
last h l l' (Put a b ∷ cs) held r =
    rw (put_before a b cs, sym (append_assoc h (frames_put (Put a b ∷ [])) (frames_put cs)))
    (last (h ++ frames_put (Put a b ∷ [])) r.0 l' cs (last_put h (places_of l) (places_of r.0) a b held (puts (places_of l) (places_of r.0) a b r.1)) r.2)
last h l l' (Take a o ∷ cs) held r =
    last h r.0 l' cs (same_last h (places_of l) (places_of r.0) held (same_frames (places_of l) (places_of r.0) a o (took (places_of l) (size_of l) l.within.1 (places_of r.0) a o r.1))) r.2

none_yet : LastOf [] new_places
none_yet = record { count = refl; kept = λ k l. absurd (omega arith); oldest = refl }

pub round_robin_laws : RoundRobinLaws
round_robin_laws = record {
  turn = λ l l' a b t. took (places_of l) (size_of l) l.within.1 (places_of l') a (Some b) t;
  nothing = λ l l' a t. took (places_of l) (size_of l) l.within.1 (places_of l') a None t;
  none_waits = λ l l' a o none t. none_waits (places_of l) (size_of l) l.within.1 (places_of l') a o t none;
  last = λ l l' cs e r. last [] l l' cs (subst (LastOf []) (sym e) none_yet) r;
  unmoved = λ l l' a b p. unmoved (places_of l) (places_of l') a b (puts (places_of l) (places_of l') a b p);
  too_long = λ l l' a b p g. too_long (places_of l) (places_of l') a b g (puts (places_of l) (places_of l') a b p);
  one_take = λ l l' m' a o p t u. let e = t ∙ sym u in (ap (λ r. r.0) e, ap (λ r. r.1) e);
  one_put = λ l l' m' a b p q. p ∙ sym q;
}
