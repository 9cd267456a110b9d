use Rattle.std.proofs.Common.{arith}
use Rattle.std.proofs.lemmas.List.{length-map, map-set}
use Rattle.link.specs.Packets.{frame_of}
use Rattle.round_robin.proofs.RoundRobinLink.put.Goals as goal

pub returns-else-len-lt-PLACES : goal.returns-else-len-lt-PLACES
returns-else-len-lt-PLACES c = let xs = c.args.self.now.frames.items in grind (arith, map-set frame_of xs c.args.self.now.oldest c.in-Some.packet, length-map xs frame_of)
