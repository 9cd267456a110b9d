use Rattle.store.proofs.Puts.{store_laws}
use Rattle.store.proofs.laws.store_stands.Goals as goal

pub returns : goal.returns
returns c = store_laws
