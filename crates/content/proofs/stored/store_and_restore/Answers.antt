use Rattle.std.proofs.Common.{rules}
use Rattle.content.proofs.Restoring.{restores_stored}
use Rattle.content.proofs.stored.store_and_restore.Goals as goal

pub returns : goal.returns
returns c = record { same = let e = c.try_from.ensures.back c.args.content c.from.ensures in search rules; law = restores_stored }
