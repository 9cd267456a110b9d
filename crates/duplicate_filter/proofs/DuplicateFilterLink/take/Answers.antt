use Rattle.std.proofs.Common.{◌≡◌, Some, take, refl, arith, rules, tests}
use Rattle.std.specs.List.{list_any}
use Rattle.std.proofs.lemmas.Iterator.Search.{any_from_yields_List}
use Rattle.std.proofs.lemmas.Iterator.Consumers.{YieldsList-from_rest}
use Rattle.link.proofs.Frames.{equal, whole, fits}
use Rattle.duplicate_filter.proofs.Repeats.{noted}
use Rattle.duplicate_filter.proofs.Swallows.{repeats, passes}
use Rattle.duplicate_filter.proofs.DuplicateFilterLink.take.Goals as goal
use Rattle.duplicate_filter.proofs.DuplicateFilterLink.take.Goals.{In-Some, After-any}

-- what the inner link handed out
took : (g : _) (c : In-Some g) → g.L.Link.takes c.args.self.now.inner c.args.to (Some (take c.in-Some.n c.take.new.buf)) c.take.new.self
took g c = let t = rw c.in-Some.is at c.in_ok-n.ensures in t.2

-- whether it is a repeat
repeated : (g : _) (c : After-any g) → c.any.result ≡ list_any (λ y. equal y c.unwrap-packet.result) c.args.self.now.recent.items
repeated g c =
    any_from_yields_List (λ y. equal y c.unwrap-packet.result) _ _ c.any.result c.any.ensures.ran (YieldsList-from_rest c.args.self.now.recent.items (cc))
    (λ y b q k. search (rules, tests))

pub returns-then-any : goal.returns-then-any
returns-then-any g c =
    let e = repeated g (goal.at.returns-then-any g c).After-any in
    let xs = c.args.self.now.recent.items in
    (omega arith, (_, took g (goal.at.returns-then-any g c).In-Some, repeats xs c.args.to _ c.new.result c.unwrap-packet.result c.unwrap-packet.ensures c.new.ensures (cc)), refl)

pub returns : goal.returns
returns g c =
    let e = repeated g (goal.at.returns g c).After-any in
    let xs = c.args.self.now.recent.items in
    let x = c.unwrap-packet.result in
    let filled = c.fill.ensures in (
      omega arith,
      fits x _ _ c.fill.result (omega arith) filled,
      (
        _,
        took g (goal.at.returns g c).In-Some,
        passes xs c.args.to _ c.new.result x c.unwrap-packet.ensures c.new.ensures _ _ (cc) (whole x _ _ c.fill.result (omega arith) filled)
            (noted xs c.args.self.now.recent.capacity x c.push_back-oldest.new.self c.args.self.now.capacity c.push_back-oldest.ensures.items),
      ),
      filled.rest,
    )
