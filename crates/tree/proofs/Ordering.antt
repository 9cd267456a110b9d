-- The laws of a search tree.
use Rattle.std.proofs.Common.{◌≡◌, ℕ, suc, ◌<◌, ◌≢◌, ◌⊎◌, List, [], ◌∷◌, length, Some, refl, inl, inr, arith}
use Rattle.std.proofs.lemmas.Bool.Decides.{nat_tests}
use Rattle.std.proofs.lemmas.Bool.{cases_eq}
use Rattle.store.specs.declared.Row.{Row}
use Rattle.tree.specs.declared.arena.Tree.{Tree}
use Rattle.tree.specs.declared.node.Node.{Node}
use Rattle.tree.specs.Nodes.{at, find, Leads}
use Rattle.tree.specs.Laws.{Ended, TreeLaws}
use Rattle.tree.specs.Counts.{one_node}
use Rattle.tree.proofs.Descents.{ended, descent, own_way}
use Rattle.tree.proofs.Growing.{find_some}

search_end : (t : Tree) (k : ℕ) → 0 < length t.nodes.items → (p : ℕ) × (p < length t.nodes.items) × Leads t.nodes.items k 0 p × Ended (at t.nodes.items p) k
search_end t k a =
    let d = descent t.nodes.items t.linked k a in
    (d.0, d.1.within, d.1.path, ended (at t.nodes.items d.0) k d.1.ends)

holds : (t : Tree) (i : ℕ) → i < length t.nodes.items → find t.nodes.items (at t.nodes.items i).entry.key ≡ Some (at t.nodes.items i).entry.row
holds t i a = find_some t.nodes.items i (at t.nodes.items i).entry.key a refl (λ j b e. one_node t.nodes.items t.reached j i b a e)

-- what a look at each node finds stands at one of them
stands : (xs : List Node) (k : ℕ) (v : Row) → find xs k ≡ Some v → (i : ℕ) × (i < length xs) × ((at xs i).entry.key ≡ k) × ((at xs i).entry.row ≡ v)
stands [] k v e = cc
stands (x ∷ xs) k v e = go (cases_eq x.entry.key k) (λ h. stands xs k v h)
  where
    go : (x.entry.key ≡ k) ⊎ (x.entry.key ≢ k) → (find xs k ≡ Some v → (i : ℕ) × (i < length xs) × ((at xs i).entry.key ≡ k) × ((at xs i).entry.row ≡ v))
        → (i : ℕ) × (i < suc (length xs)) × ((at (x ∷ xs) i).entry.key ≡ k) × ((at (x ∷ xs) i).entry.row ≡ v)
    go (inl s) more = (0, omega arith, s, grind (arith, nat_tests, e))
    go (inr d) more = let m = more (grind (arith, nat_tests, e)) in (suc m.0, omega (arith, m.1), m.2, m.3)

pub tree_laws : TreeLaws
tree_laws = record {
  search = search_end;
  ordered = λ t i a. own_way t.nodes.items t.linked t.reached i a;
  holds = holds;
  held = λ t k v e. stands t.nodes.items k v e;
}
