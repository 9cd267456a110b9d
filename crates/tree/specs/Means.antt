-- What a search tree means as a store.
use Rattle.arrayvec.specs.ArrayVec.{array_vec_len}
use Rattle.store.specs.Table.{Table}
use Rattle.tree.specs.declared.arena.Tree.{Tree}
use Rattle.tree.specs.Nodes.{find}

abbrev pub tree_table : Tree → Table
tree_table t = record { look = find t.nodes.items; held = array_vec_len t.nodes; most = t.capacity.rows }
