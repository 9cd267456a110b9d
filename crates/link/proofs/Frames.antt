-- Frames that wait, and what a packet fills: what the links share.
use Rattle.std.proofs.Common.{◌≡◌, ℕ, suc, Bool, eqb, ◌&&◌, refl, Decides, ◌≤◌, ◌⊎◌, List, ◌∷◌, ◌++◌, length, take, sym, ap, ◌∙◌, subst, inl, inr, arith}
use Rattle.std.specs.List.{Contains}
use Rattle.std.proofs.lemmas.List.Elements.{Contains-append_left, Contains-append_right, Contains-append_cases}
use Rattle.std.specs.Cmp.Lexicographic.{pointwise}
use Rattle.std.proofs.lemmas.Slice.Eq.{slice_eq-Decides}
use Rattle.std.proofs.lemmas.Bool.Decides.{Decides-and, Decides-eqb, Decides-like}
use Rattle.std.proofs.lemmas.List.{take_all}
use Rattle.link.specs.declared.packet.Packet.{Packet}
use Rattle.link.specs.Frames.{Frame, AfterPut}
use Rattle.link.specs.Packets.{frame_of, Filled}

-- a frame more in the middle
pub contains_more : (f x : Frame) (u v : List Frame) → Contains (u ++ v) f → Contains (u ++ x ∷ v) f
contains_more f x u v m = go (Contains-append_cases u v f m)
  where
    go : Contains u f ⊎ Contains v f → Contains (u ++ x ∷ v) f
    go (inl n) = Contains-append_left u (x ∷ v) f n
    go (inr (k, l, e)) = Contains-append_right u (x ∷ v) f (suc k, omega arith, e)

-- a put that is lost, and one that may be kept
pub put_lost : (w w' : List Frame) (a : ℕ) (b : List ℕ) → w' ≡ w → AfterPut w a b w'
put_lost w w' a b e f m = inl (subst (λ (v : List Frame). Contains v f) e m)

pub put_kept : (w w' : List Frame) (a : ℕ) (b : List ℕ) → length b ≤ 128 → ((f : Frame) → Contains w' f → Contains w f ⊎ ((a, b) ≡ f)) → AfterPut w a b w'
put_kept w w' a b fits or f m = go (or f m)
  where
    go : Contains w f ⊎ ((a, b) ≡ f) → Contains w f ⊎ ((f ≡ (a, b)) × (length b ≤ 128))
    go (inl h) = inl h
    go (inr e) = inr (sym e, fits)

pub small : (p : Packet) → length (frame_of p).1 ≤ 128
small p = p.ok

-- a buffer of 128 bytes has room for the frame of every packet
module _ (p : Packet) (buf buf' : List ℕ) (n : ℕ) (room : 128 ≤ length buf) (f : Filled (frame_of p).1 buf n buf') where
  pub whole : take n buf' ≡ (frame_of p).1
  whole = f.front ∙ take_all n (frame_of p).1 (omega (arith, small p, f.size))

  pub fits : n ≤ 128
  fits = omega (arith, small p, f.size)

-- what `==` computes of packets
abbrev pub equal : Packet → Packet → Bool
equal p q = eqb p.to q.to && pointwise eqb p.bytes q.bytes

pub same : (p q : Packet) → Decides (equal p q) (frame_of p ≡ frame_of q)
same p q =
    Decides-like (equal p q) (λ (a, b). λ i. (a i, b i)) (λ e. (ap (λ f. f.0) e, ap (λ f. f.1) e))
    (Decides-and _ _ (Decides-eqb p.to q.to) (slice_eq-Decides Decides-eqb p.bytes q.bytes _ refl))
