use Rattle.std.proofs.Common.{refl}
use Rattle.order.proofs.Orders.{compares}
use Rattle.values.proofs.Orders.{outcomes_compare, proposals_compare, proposal_laws, timestamps}
use Rattle.values.proofs.Refusals.{refusal_laws}
use Rattle.values.proofs.Timestamps.{timestamp_laws}
use Rattle.values.proofs.laws.values_stand.Goals as goal

pub returns : goal.returns
returns c = record {
  timestamps = timestamp_laws;
  proposals = proposal_laws;
  refusals = refusal_laws;
  outcomes_compare = outcomes_compare _ refl refl refl refl;
  proposals_compare = proposals_compare _ refl refl refl refl;
  timestamps_compare = compares timestamps;
}
