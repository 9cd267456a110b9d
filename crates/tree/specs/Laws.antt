-- How a search tree orders its rows.
use Rattle.std.specs.Prelude.{◌≡◌, ℕ, ◌<◌, Some, None}
use Rattle.arrayvec.specs.ArrayVec.{array_vec_len}
use Rattle.store.specs.declared.Row.{Row}
use Rattle.tree.specs.declared.node.Node.{Node}
use Rattle.tree.specs.declared.arena.Tree.{Tree}
use Rattle.tree.specs.Nodes.{at, Leads}
use Rattle.tree.specs.Means.{tree_table}

-- The node has key k, or no link on the side of k.
pub data Ended (x : Node) (k : ℕ) : Type 0 where
  own : x.entry.key ≡ k → Ended x k
  lowest : k < x.entry.key → x.lower ≡ None → Ended x k
  highest : x.entry.key < k → x.higher ≡ None → Ended x k

pub record TreeLaws : Type 0 where
  -- every key has a way from the root, to a node that has it or that nothing follows on its side
  pub search : (t : Tree) (k : ℕ) → 0 < array_vec_len t.nodes → (p : ℕ) × (p < array_vec_len t.nodes) × Leads t.nodes.items k 0 p × Ended (at t.nodes.items p) k
  -- each node is where its own key leads, so past a lower link there are only lower keys, past a higher link only higher ones
  pub ordered : (t : Tree) (i : ℕ) → i < array_vec_len t.nodes → Leads t.nodes.items (at t.nodes.items i).entry.key 0 i
  -- a key has a row exactly if one of the nodes has it, and then that node's
  pub holds : (t : Tree) (i : ℕ) → i < array_vec_len t.nodes → (tree_table t).look (at t.nodes.items i).entry.key ≡ Some (at t.nodes.items i).entry.row
  pub held : (t : Tree) (k : ℕ) (v : Row) → (tree_table t).look k ≡ Some v
      → (i : ℕ) × (i < array_vec_len t.nodes) × ((at t.nodes.items i).entry.key ≡ k) × ((at t.nodes.items i).entry.row ≡ v)
