use Rattle.std.proofs.Common.{rules}
use Rattle.content.specs.Storing.{Restored}
use Rattle.content.proofs.Restoring.{restores_stored}
use Rattle.content.proofs.stored.ContentTryFromRefStoredContent.try_from.Goals as goal

pub returns : goal.returns
returns c =
    let restored : Restored c.args.stored.now c.ok_or.result = search rules in
    record { restored = restored; back = λ k e. restores_stored c.args.stored.now c.ok_or.result k restored e }
