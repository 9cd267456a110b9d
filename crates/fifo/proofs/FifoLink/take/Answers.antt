use Rattle.std.proofs.Common.{◌≡◌, vec_items, Some, None, position, refl, arith}
use Rattle.link.proofs.Frames.{whole, fits}
use Rattle.fifo.proofs.Waiting.{is_for, took_none, took_some}
use Rattle.fifo.proofs.FifoLink.take.Goals as goal

pub returns-in_default : goal.returns-in_default
returns-in_default c =
    let xs = vec_items c.args.self.now.frames in
    let e : position (is_for c.args.to) xs ≡ None = cc in
    (omega arith, took_none xs c.args.to e, refl)

pub returns : goal.returns
returns c =
    let xs = vec_items c.args.self.now.frames in
    let e : position (is_for c.args.to) xs ≡ Some c.in-Some.i = cc in
    let x = c.remove-packet.result in
    let filled = c.fill.ensures in (
      omega arith,
      fits x _ _ c.fill.result (omega arith) filled,
      took_some xs c.args.to c.in-Some.i _ x _ e c.remove-packet.ensures.value c.remove-packet.ensures.items (whole x _ _ c.fill.result (omega arith) filled),
      filled.rest,
    )
