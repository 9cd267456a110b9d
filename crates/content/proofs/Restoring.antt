use Rattle.std.proofs.Common.{Ok, Err, ap, ◌∙◌}
use Rattle.std.proofs.lemmas.Bool.{both_ways}
use Rattle.content.specs.Numbers.{stored_body}
use Rattle.content.specs.Storing.{restorable, RestoresStored}
use Rattle.content.proofs.Whole.{told_by_body}

pub restores_stored : RestoresStored
restores_stored s (Err u) c h e = absurd (both_ways _ h (ap restorable e ∙ c.ok))
restores_stored s (Ok d) c h e = ap Ok (told_by_body d c (h.1 ∙ ap stored_body e))
