use Rattle.std.proofs.Common.{◌≡◌, Ordering, Less, Equal, Greater, refl, sym, subst, arith}
use Rattle.std.proofs.lemmas.Bool.Decides.{nat_tests}
use Rattle.std.proofs.lemmas.Cmp.{nat_cmp_total, on_total, then_total}
use Rattle.std.specs.Ordering.{nat_cmp, on, then_cmp}
use Rattle.order.specs.Extremes.{Compares}
use Rattle.order.proofs.Orders.{Ranks, compares, ordered}
use Rattle.values.specs.declared.decision.Outcome.{Outcome}
use Rattle.values.specs.declared.decision.Outcome.TheVariants.{Abort, Commit}
use Rattle.values.specs.declared.decision.Proposal.{Proposal}
use Rattle.values.specs.Numbers.{outcome_number}
use Rattle.values.specs.Proposals.{sooner, lower, ProposalLaws}
use Rattle.values.specs.declared.timestamp.Timestamp.{Timestamp}
use Rattle.values.specs.Times.{timestamp, before}

abbrev by_number : Outcome → Outcome → Ordering
by_number = on outcome_number nat_cmp

pub same_outcome : (o p : Outcome) → outcome_number o ≡ outcome_number p → o ≡ p
same_outcome Abort Abort e = refl
same_outcome Abort Commit e = absurd (omega arith)
same_outcome Commit Abort e = absurd (omega arith)
same_outcome Commit Commit e = refl

outcomes : Ranks sooner by_number
outcomes = record { laws = on_total outcome_number nat_cmp_total; same = λ o p e. same_outcome o p (grind (arith, nat_tests)); tells = λ o p. grind (arith, nat_tests) }

abbrev by_view : (Outcome → Outcome → Ordering) → Proposal → Proposal → Ordering
by_view cmp = then_cmp (on (λ (p : Proposal). p.view) nat_cmp) (on (λ (p : Proposal). p.outcome) cmp)

pub same_proposal : (p q : Proposal) → p.view ≡ q.view → outcome_number p.outcome ≡ outcome_number q.outcome → p ≡ q
same_proposal p q v o = λ i. record { view = v i; outcome = same_outcome p.outcome q.outcome o i }

proposals : Ranks lower (by_view by_number)
proposals = record {
  laws = then_total (on_total (λ (p : Proposal). p.view) nat_cmp_total) (on_total (λ (p : Proposal). p.outcome) outcomes.laws);
  same = λ p q e. same_proposal p q (grind (arith, nat_tests)) (grind (arith, nat_tests));
  tells = λ p q. grind (arith, nat_tests);
}

pub proposal_laws : ProposalLaws
proposal_laws = record { outcomes_ordered = ordered outcomes; ordered = ordered proposals }

-- the derived comparison of outcomes, which goes by their variants
module _ (cmp : Outcome → Outcome → Ordering) (aa : cmp Abort Abort ≡ Equal) (ac : cmp Abort Commit ≡ Less) (ca : cmp Commit Abort ≡ Greater) (cc' : cmp Commit Commit ≡ Equal) where
  answered : (o p : Outcome) → by_number o p ≡ cmp o p
  answered Abort Abort = sym aa
  answered Abort Commit = sym ac
  answered Commit Abort = sym ca
  answered Commit Commit = sym cc'

  pub outcomes_compare : Compares sooner cmp
  outcomes_compare = subst (Compares sooner) (λ i o p. answered o p i) (compares outcomes)

  pub proposals_compare : Compares lower (by_view cmp)
  proposals_compare = subst (λ (c : Outcome → Outcome → Ordering). Compares lower (by_view c)) (λ i o p. answered o p i) (compares proposals)

abbrev by_time : Timestamp → Timestamp → Ordering
by_time = then_cmp (on (λ (t : Timestamp). t.second) nat_cmp) (on (λ (t : Timestamp). t.transaction) nat_cmp)

pub same_timestamp : (s t : Timestamp) → s.second ≡ t.second → s.transaction ≡ t.transaction → s ≡ t
same_timestamp s t p q = λ i. timestamp (p i) (q i)

pub timestamps : Ranks before by_time
timestamps = record {
  laws = then_total (on_total (λ (t : Timestamp). t.second) nat_cmp_total) (on_total (λ (t : Timestamp). t.transaction) nat_cmp_total);
  same = λ s t e. same_timestamp s t (grind (arith, nat_tests)) (grind (arith, nat_tests));
  tells = λ s t. grind (arith, nat_tests);
}
