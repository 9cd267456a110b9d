use Rattle.link.proofs.Runs.{link_laws}
use Rattle.link.proofs.laws.link_stands.Goals as goal

pub returns : goal.returns
returns g c = link_laws g.L.Link.waiting g.L.Link.puts g.L.Link.takes g.met.L.Link.adds g.met.L.Link.hands
