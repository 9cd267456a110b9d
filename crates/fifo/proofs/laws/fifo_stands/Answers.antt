use Rattle.fifo.proofs.Orders.{fifo_laws}
use Rattle.fifo.proofs.laws.fifo_stands.Goals as goal

pub returns : goal.returns
returns c = fifo_laws
