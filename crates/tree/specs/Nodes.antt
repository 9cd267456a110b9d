-- The nodes of a search tree, and the descent for a key among them.
use Rattle.std.specs.Prelude.{◌≡◌, ℕ, ◌<◌, Bool, true, cond, ◌&&◌, List, [], ◌∷◌, ◌++◌, length, Some, None, Option, ◌==◌, nat_lt, slice_index_or, slice_set}
use Rattle.store.specs.declared.Row.{Row}
use Rattle.store.specs.Table.{null_row}
use Rattle.tree.specs.declared.node.Node.{Node}

abbrev pub leaf_of : ℕ → Row → Node
leaf_of k v = record { entry = record { key = k; row = v }; lower = None; higher = None }

abbrev pub at : List Node → ℕ → Node
at xs i = slice_index_or xs i (leaf_of 0 null_row)

-- where the descent for k goes on from the node
abbrev pub next_of : Node → ℕ → Option ℕ
next_of x k = cond (nat_lt k x.entry.key) x.lower (cond (nat_lt x.entry.key k) x.higher None)

-- the node with its link on the side of k set
abbrev pub linked_to : Node → ℕ → ℕ → Node
linked_to x k c = cond (nat_lt k x.entry.key) (record x { lower = Some c }) (record x { higher = Some c })

-- the node with row v
abbrev pub rowed : Node → Row → Node
rowed x v = record x { entry = record { key = x.entry.key; row = v } }

-- the nodes with row v at p
abbrev pub changed : List Node → ℕ → Row → List Node
changed xs p v = slice_set xs p (rowed (at xs p) v)

-- the nodes with a new leaf, that p leads to
abbrev pub grown : List Node → ℕ → ℕ → Row → List Node
grown xs p k v = slice_set xs p (linked_to (at xs p) k (length xs)) ++ leaf_of k v ∷ []

-- Key k leads from one node to another: to the lower side where it is below a node's key, to the higher side where it is above.
pub data Leads (xs : List Node) (k : ℕ) : ℕ → ℕ → Type 0 where
  here : {i : ℕ} → Leads xs k i i
  lower : {i c j : ℕ} → k < (at xs i).entry.key → (at xs i).lower ≡ Some c → Leads xs k c j → Leads xs k i j
  higher : {i c j : ℕ} → (at xs i).entry.key < k → (at xs i).higher ≡ Some c → Leads xs k c j → Leads xs k i j

-- The descent for k from the root ends at p.
pub record Descent (xs : List Node) (k p : ℕ) : Type 0 where
  pub path : Leads xs k 0 p
  pub within : p < length xs
  pub ends : next_of (at xs p) k ≡ None

-- the row of key k, by a look at each node
abbrev pub find : List Node → ℕ → Option Row
find [] k = None
find (x ∷ xs) k = cond (k == x.entry.key) (Some x.entry.row) (find xs k)

-- each node is where its own key leads
abbrev pub Reached : List Node → Type 0
Reached xs = (i : ℕ) → i < length xs → ∥ Leads xs (at xs i).entry.key 0 i ∥₁

-- a link, where there is one, leads to a later node among the first n
abbrev pub onward : ℕ → ℕ → Option ℕ → Bool
onward i n None = true
onward i n (Some c) = nat_lt i c && nat_lt c n

abbrev pub Linked : List Node → Type 0
Linked xs = (i k : ℕ) → i < length xs → onward i (length xs) (next_of (at xs i) k) ≡ true
