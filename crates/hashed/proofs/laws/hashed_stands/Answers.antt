use Rattle.hashed.proofs.Placing.{hashed_laws}
use Rattle.hashed.proofs.laws.hashed_stands.Goals as goal

pub returns : goal.returns
returns c = hashed_laws
