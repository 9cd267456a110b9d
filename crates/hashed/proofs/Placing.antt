-- The laws of a hashed table.
use Rattle.std.proofs.Common.{◌≡◌, ℕ, Some, None, sym, refl, ◌∙◌, arith}
use Rattle.std.proofs.lemmas.Bool.Decides.{nat_tests}
use Rattle.std.proofs.lemmas.Bool.{eq-eqb}
use Rattle.store.specs.declared.Row.{Row}
use Rattle.hashed.specs.declared.table.Hashed.{Hashed}
use Rattle.hashed.specs.Places.{Slot, at, holding, find, place_of}
use Rattle.hashed.specs.Laws.{HashedLaws}
use Rattle.hashed.proofs.Firsts.{all_bits}
use Rattle.hashed.proofs.Probing.{searched}
use Rattle.hashed.proofs.Storing.{found, row_in}

holds : (h : Hashed) (i k : ℕ) (v : Row) → at h.slots i ≡ holding k v → (find h.slots k ≡ Some v) × (i ≡ place_of h.slots k)
holds h i k v e =
    let own = eq-eqb k k refl in
    let here = sym (h.reached i k (rw e own)) in
    (found h.slots k i h.reached here ∙ rw (e, own) refl, here)

held_at : (s : Slot) (k : ℕ) (v : Row) → row_in s k ≡ Some v → s ≡ holding k v
held_at None k v e = cc
held_at (Some x) k v e =
    let a : x.key ≡ k = grind (arith, nat_tests, e) in
    let b : Some x.row ≡ Some v = rw (eq-eqb x.key k a) at e in
    let c : x.row ≡ v = cc in
    λ i. Some (record { key = a i; row = c i })

pub hashed_laws : HashedLaws
hashed_laws = record {
  all_bits = all_bits;
  first = λ k. omega arith;
  search = λ h k. searched h.slots k (omega (arith, h.counts, h.bound, h.capacity.bounds.1));
  holds = holds;
  held = λ h k v e. held_at (at h.slots (place_of h.slots k)) k v (sym (found h.slots k (place_of h.slots k) h.reached refl) ∙ e);
}
