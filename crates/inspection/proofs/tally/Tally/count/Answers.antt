use Rattle.inspection.proofs.Sums.{counts}
use Rattle.inspection.proofs.tally.Tally.count.Goals as goal

pub returns-clause-law : goal.returns-clause-law
returns-clause-law c = counts
