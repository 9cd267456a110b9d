use Rattle.std.proofs.Common.{◌≡◌, sym, ◌∙◌, ap}
use Rattle.hashed.specs.Places.{at, find}
use Rattle.hashed.proofs.Storing.{found, row_in}
use Rattle.hashed.proofs.HashedStore.find.Goals as goal
use Rattle.hashed.proofs.HashedStore.find.Goals.{After-place-p}

here : (c : After-place-p) → find c.args.self.now.slots c.args.key ≡ row_in (at c.args.self.now.slots c.place-p.result) c.args.key
here c = found c.args.self.now.slots c.args.key c.place-p.result c.args.self.now.reached c.place-p.ensures.ends

pub returns-in_err-self : goal.returns-in_err-self
returns-in_err-self c = c.from_residual.ensures ∙ sym (here (goal.at.returns-in_err-self c).After-place-p ∙ ap (λ x. row_in x c.args.key) c.in_err-self.was)

pub returns : goal.returns
returns c = c.row_for.ensures ∙ sym (here (goal.at.returns c).After-place-p ∙ ap (λ x. row_in x c.args.key) c.in_ok-self.was)
