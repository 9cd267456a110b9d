use Rattle.tree.proofs.Ordering.{tree_laws}
use Rattle.tree.proofs.laws.tree_stands.Goals as goal

pub returns : goal.returns
returns c = tree_laws
