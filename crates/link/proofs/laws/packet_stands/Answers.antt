use Rattle.link.proofs.Frames.{small, whole, same}
use Rattle.link.proofs.laws.packet_stands.Goals as goal

pub returns : goal.returns
returns c = record { small = small; whole = whole; same = same }
