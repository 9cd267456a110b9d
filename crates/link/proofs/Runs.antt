-- What any calls leave in a link.
use Rattle.std.proofs.Common.{◌≡◌, ℕ, suc, ◌<◌, ◌≤◌, true, false, leb, ◌⊎◌, List, [], ◌∷◌, ◌++◌, length, is_ok, Some, None, Ok, Err, Option, Result, sym, refl, ap, subst, inl, inr, arith}
use Rattle.std.specs.List.{Contains}
use Rattle.std.proofs.lemmas.Bool.{cases_Bool, le-leb}
use Rattle.values.specs.declared.refusal.Refusal.{Refusal}
use Rattle.values.specs.declared.refusal.Refusal.TheVariants.{ShortBuffer}
use Rattle.link.specs.Frames.{Frame, AfterPut, AfterTake, Taken}
use Rattle.link.specs.Laws.{Call, Put, Take, frames_put, Run, LinkLaws}

-- what is put is among the frames put, and what was put later is too
put_among : (f : Frame) (a : ℕ) (b : List ℕ) (cs : List Call) → (f ≡ (a, b)) × (length b ≤ 128) → Contains (frames_put (Put a b ∷ cs)) f
put_among f a b cs (e, l) = let t : leb (length b) 128 ≡ true = le-leb (length b) 128 l in rw t (0, omega arith, sym e)

later_among : (f : Frame) (a : ℕ) (b : List ℕ) (cs : List Call) → Contains (frames_put cs) f → Contains (frames_put (Put a b ∷ cs)) f
later_among f a b cs m = go (cases_Bool (leb (length b) 128))
  where
    go : (leb (length b) 128 ≡ true) ⊎ (leb (length b) 128 ≡ false) → Contains (frames_put (Put a b ∷ cs)) f
    go (inl t) = rw t (suc m.0, omega (arith, m.1), m.2)
    go (inr n) = rw n m

module _ {L : Type 0} (waiting : L → List Frame) (puts : L → ℕ → List ℕ → L → Type 0) (takes : L → ℕ → Option (List ℕ) → L → Type 0)
    (adds : (l l' : L) (a : ℕ) (b : List ℕ) → puts l a b l' → AfterPut (waiting l) a b (waiting l'))
    (hands : (l l' : L) (a : ℕ) (o : Option (List ℕ)) → takes l a o l' → AfterTake (waiting l) a o (waiting l')) where
  -- a frame that waited after the first put, or was put by the calls that follow
  after_put : (l m : L) (a : ℕ) (b : List ℕ) (cs : List Call) (f : Frame) → puts l a b m
      → Contains (waiting m) f ⊎ Contains (frames_put cs) f → Contains (waiting l) f ⊎ Contains (frames_put (Put a b ∷ cs)) f
  after_put l m a b cs f p (inr k) = inr (later_among f a b cs k)
  after_put l m a b cs f p (inl w) = go (adds l m a b p f w)
    where
      go : Contains (waiting l) f ⊎ ((f ≡ (a, b)) × (length b ≤ 128)) → Contains (waiting l) f ⊎ Contains (frames_put (Put a b ∷ cs)) f
      go (inl h) = inl h
      go (inr h) = inr (put_among f a b cs h)

  after_take : (l m : L) (a : ℕ) (o : Option (List ℕ)) (cs : List Call) (f : Frame) → takes l a o m
      → Contains (waiting m) f ⊎ Contains (frames_put cs) f → Contains (waiting l) f ⊎ Contains (frames_put cs) f
  after_take l m a o cs f t (inl w) = inl ((hands l m a o t).still f w)
  after_take l m a o cs f t (inr k) = inr k

  waits : (l l' : L) (cs : List Call) → Run waiting puts takes l cs l' → (f : Frame) → Contains (waiting l') f → Contains (waiting l) f ⊎ Contains (frames_put cs) f
  waits l l' [] e f w = inl (subst (λ (x : L). Contains (waiting x) f) (sym e) w)
  waits l l' (Put a b ∷ cs) r f w = after_put l r.0 a b cs f r.1 (waits r.0 l' cs r.2 f w)
  waits l l' (Take a o ∷ cs) r f w = after_take l r.0 a o cs f r.1 (waits r.0 l' cs r.2 f w)

  origin : (l l' : L) (cs ds : List Call) (a : ℕ) (b : List ℕ) → Run waiting puts takes l (cs ++ Take a (Some b) ∷ ds) l' → Contains (waiting l) (a, b) ⊎ Contains (frames_put cs) (a, b)
  origin l l' [] ds a b r = inl ((hands l r.0 a (Some b) r.1).waited b refl)
  origin l l' (Put c d ∷ cs) ds a b r = after_put l r.0 c d cs (a, b) r.1 (origin r.0 l' cs ds a b r.2)
  origin l l' (Take c o ∷ cs) ds a b r = after_take l r.0 c o cs (a, b) r.1 (origin r.0 l' cs ds a b r.2)

  short : (l l' : L) (a : ℕ) (buf buf' : List ℕ) (r : Result (Option ℕ) Refusal) → Taken takes l a buf r buf' l' → length buf < 128
      → (r ≡ Err ShortBuffer) × (l' ≡ l) × (buf' ≡ buf)
  short l l' a buf buf' (Err e) t h = (ap Err t.1, t.2, t.3)
  short l l' a buf buf' (Ok None) t h = absurd (omega (arith, t.0))
  short l l' a buf buf' (Ok (Some n)) t h = absurd (omega (arith, t.0))

  ample : (l l' : L) (a : ℕ) (buf buf' : List ℕ) (r : Result (Option ℕ) Refusal) → Taken takes l a buf r buf' l' → 128 ≤ length buf → is_ok r ≡ true
  ample l l' a buf buf' (Err e) t h = absurd (omega (arith, t.0))
  ample l l' a buf buf' (Ok o) t h = refl

  pub link_laws : LinkLaws waiting puts takes
  link_laws = record { short = short; ample = ample; waits = waits; origin = origin }
