use Rattle.wording.proofs.Lines.{told_apart}
use Rattle.wording.proofs.laws.wording_stands.Goals as goal

pub returns : goal.returns
returns c = told_apart
