use Rattle.layout.proofs.Sound.{content_rules}
use Rattle.layout.proofs.laws.layout_stands.Goals as goal

pub returns : goal.returns
returns c = content_rules
