use Rattle.std.specs.Prelude.{Bool, ◌&&◌, ◌||◌, ◌==◌, nat_lt}
use Rattle.order.specs.Extremes.{IsTotalOrder}
use Rattle.values.specs.declared.decision.Outcome.{Outcome}
use Rattle.values.specs.declared.decision.Proposal.{Proposal}
use Rattle.values.specs.Numbers.{outcome_number}

-- an abort comes before a commit
abbrev pub sooner : Outcome → Outcome → Bool
sooner o p = nat_lt (outcome_number o) (outcome_number p)

-- the lower view comes first, and in one view an abort before a commit
abbrev pub lower : Proposal → Proposal → Bool
lower p q = nat_lt p.view q.view || (p.view == q.view && sooner p.outcome q.outcome)

-- What layers above may know of the orders of outcomes and of proposals.
pub record ProposalLaws : Type 0 where
  pub outcomes_ordered : IsTotalOrder sooner
  pub ordered : IsTotalOrder lower
