use Rattle.std.proofs.Common.{◌≡◌, subst, rules}
use Rattle.values.specs.Numbers.{vote_number, Decodes}
use Rattle.frame.specs.Messages.{numbers}
use Rattle.frame.proofs.Numbers.{any_vote_known, accepted_known}
use Rattle.frame.proofs.reader.message_of.Goals as goal

pub unwrap-requires-in_default : goal.unwrap-requires-in_default
unwrap-requires-in_default c = any_vote_known _ c.from_number.result (search rules) c.from_number.ensures

pub returns-in_default-clause-means : goal.returns-in_default-clause-means
returns-in_default-clause-means c =
    let h = c.args.header.now in
    let kind : 82 ≡ h.kind = search rules in
    let vote = (subst (Decodes vote_number h.code) c.unwrap-in_default.ensures c.from_number.ensures).0 in
    let proposal = accepted_known h.accepted h.accepted_view c.try_from-in_default.result c.map.result (search rules) (search rules) c.try_from-in_default.ensures (search rules) in
    λ i. numbers (kind i) h.transaction h.sender h.view (vote i) (proposal.0 i) (proposal.1 i)
