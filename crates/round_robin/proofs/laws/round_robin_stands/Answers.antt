use Rattle.round_robin.proofs.Ages.{round_robin_laws}
use Rattle.round_robin.proofs.laws.round_robin_stands.Goals as goal

pub returns : goal.returns
returns c = round_robin_laws
