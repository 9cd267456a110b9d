-- Frames that were handed out lately.
use Rattle.std.proofs.Common.{◌≡◌, ℕ, zero, suc, ◌⊎◌, inl, inr, ◌+◌, ◌-◌, ◌||◌, List, [], ◌∷◌, ◌++◌, map, length, drop, Decides, sym, refl, ap, ◌∙◌, arith}
use Rattle.std.specs.List.{Contains, list_any}
use Rattle.std.proofs.lemmas.Slice.Eq.{bytes_eq-Decides}
use Rattle.std.proofs.lemmas.List.{length-map, length_push, map_push, drop-map, length-drop, drop-drop, drop-append-le}
use Rattle.std.proofs.lemmas.Bool.Decides.{same_from_decides, Decides-and, Decides-or, Decides-eqb, Decides-like}
use Rattle.circular_buffer.specs.Buffer.{Buffer, buffer, keep_last}
use Rattle.link.specs.declared.packet.Packet.{Packet}
use Rattle.link.specs.Frames.{Frame}
use Rattle.link.specs.Packets.{frame_of}
use Rattle.link.proofs.Frames.{equal, same}
use Rattle.duplicate_filter.specs.Repeats.{same_frame, seen, last_eight}

same_decides : (f g : Frame) → Decides (same_frame f g) (f ≡ g)
same_decides f g =
    Decides-like _ (λ (a, b). λ i. (a i, b i)) (λ e. (ap (λ x. x.0) e, ap (λ x. x.1) e)) (Decides-and _ _ (Decides-eqb f.0 g.0) (bytes_eq-Decides f.1 g.1))

pub seen_decides : (f : Frame) (rs : List Frame) → Decides (seen f rs) (Contains rs f)
seen_decides f [] = (λ t. absurd cc, λ m. absurd (omega (arith, m.1)))
seen_decides f (x ∷ rs) = Decides-like (seen f (x ∷ rs)) to from (Decides-or (same_frame f x) (seen f rs) (same_decides f x) (seen_decides f rs))
  where
    to : (f ≡ x) ⊎ Contains rs f → Contains (x ∷ rs) f
    to (inl e) = (0, omega arith, sym e)
    to (inr (k, l, e)) = (suc k, omega arith, e)

    from : Contains (x ∷ rs) f → (f ≡ x) ⊎ Contains rs f
    from (zero, l, e) = inl (sym e)
    from (suc k, l, e) = inr (k, omega arith, e)

-- what `any` answers of packets
pub seen_from_any : (xs : List Packet) (x : Packet) → list_any (λ y. equal y x) xs ≡ seen (frame_of x) (map frame_of xs)
seen_from_any [] x = refl
seen_from_any (y ∷ xs) x = λ i. one i || seen_from_any xs x i
  where
    one : equal y x ≡ same_frame (frame_of x) (frame_of y)
    one = same_from_decides _ _ (same y x) (Decides-like _ (λ e. sym e) (λ e. sym e) (same_decides (frame_of x) (frame_of y)))

-- the last eight of h, one more handed out, are those of its last eight and that one
pub last_push : (h : List Frame) (x : Frame) → last_eight (last_eight h ++ x ∷ []) ≡ last_eight (h ++ x ∷ [])
last_push h x =
    let k = length h - 8 in
    let whole : drop k h ++ x ∷ [] ≡ drop k (h ++ x ∷ []) = sym (drop-append-le k h (x ∷ []) (omega arith)) in
    let count : k + (length (drop k (h ++ x ∷ [])) - 8) ≡ length (h ++ x ∷ []) - 8 = omega (arith, length-drop k (h ++ x ∷ []), length_push h x) in
    ap last_eight whole ∙ drop-drop (length (drop k (h ++ x ∷ [])) - 8) k (h ++ x ∷ []) ∙ ap (λ n. drop n (h ++ x ∷ [])) count

-- the frames that are remembered once a packet is pushed
pub noted : (xs : List Packet) (n : ℕ) (x : Packet) (b : Buffer Packet) → n ≡ 8 → b ≡ buffer (keep_last n (xs ++ x ∷ [])) n → map frame_of b.items ≡ last_eight (map frame_of xs ++ frame_of x ∷ [])
noted xs n x b e q =
    let k : length (xs ++ x ∷ []) - n ≡ length (map frame_of xs ++ frame_of x ∷ []) - 8 = omega (arith, length_push xs x, length_push (map frame_of xs) (frame_of x), length-map xs frame_of) in
    ap (λ c. map frame_of c.items) q ∙ sym (drop-map frame_of (length (xs ++ x ∷ []) - n) (xs ++ x ∷ [])) ∙ (λ i. drop (k i) (map_push frame_of xs x i))
