use Rattle.duplicate_filter.proofs.Swallows.{filter_laws}
use Rattle.duplicate_filter.proofs.laws.filter_stands.Goals as goal

pub returns : goal.returns
returns g c = filter_laws g.L.Link
