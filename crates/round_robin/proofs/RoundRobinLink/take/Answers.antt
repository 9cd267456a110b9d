use Rattle.std.proofs.Common.{arith}
use Rattle.std.proofs.lemmas.List.{get_or-map}
use Rattle.link.specs.Packets.{frame_of}
use Rattle.link.proofs.Frames.{whole, fits}
use Rattle.round_robin.specs.Places.{no_frame}
use Rattle.round_robin.proofs.RoundRobinLink.take.Goals as goal

pub returns : goal.returns
returns c =
    let xs = c.args.self.now.frames.items in
    let x = c.index.result.now in
    let filled = c.fill.ensures in
    grind (
      arith,
      get_or-map frame_of xs c.in-Some.p x no_frame (omega (arith, c.args.self.now.frames.ok.0, c.in-Some.ensures.within)),
      whole x _ _ c.fill.result (omega arith) filled,
      fits x _ _ c.fill.result (omega arith) filled,
    )
