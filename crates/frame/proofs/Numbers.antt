-- A number within its limits is that of a vote or an outcome.
use Rattle.std.proofs.Common.{◌≡◌, ℕ, ◌≤◌, Some, None, Ok, Err, Option, Result, sym, refl, ap, ◌∙◌, arith}
use Rattle.std.specs.Option.{option_map}
use Rattle.std.specs.Result.{IsOk, result_ok}
use Rattle.values.specs.declared.decision.Vote.{Vote}
use Rattle.values.specs.declared.decision.Vote.TheVariants.{No, Yes}
use Rattle.values.specs.declared.decision.Outcome.{Outcome}
use Rattle.values.specs.declared.decision.Outcome.TheVariants.{Abort, Commit}
use Rattle.values.specs.declared.decision.Proposal.{Proposal}
use Rattle.values.specs.declared.decision.UnknownNumber.{UnknownNumber}
use Rattle.values.specs.Numbers.{vote_number, outcome_number, Decodes}
use Rattle.frame.specs.Messages.{accepted_number, accepted_view}

pub outcome_known : (n : ℕ) (r : Result Outcome UnknownNumber) → 1 ≤ n → n ≤ 2 → Decodes outcome_number n r → IsOk r
outcome_known n (Ok o) l m d = refl
outcome_known n (Err e) l m d = let a = d.0 Abort in let c = d.0 Commit in absurd (omega arith)

pub vote_known : (n : ℕ) (r : Result Vote UnknownNumber) → 1 ≤ n → n ≤ 2 → Decodes (λ v. vote_number (Some v)) n r → IsOk r
vote_known n (Ok v) l m d = refl
vote_known n (Err e) l m d = let a = d.0 No in let c = d.0 Yes in absurd (omega arith)

pub any_vote_known : (n : ℕ) (r : Result (Option Vote) UnknownNumber) → n ≤ 2 → Decodes vote_number n r → IsOk r
any_vote_known n (Ok v) m d = refl
any_vote_known n (Err e) m d = let z = d.0 None in let a = d.0 (Some No) in let c = d.0 (Some Yes) in absurd (omega arith)

-- an accepted proposal: its outcome's number, 0 where there is none, and its view
pub accepted_known : (n x : ℕ) (r : Result Outcome UnknownNumber) (p : Option Proposal) → n ≤ 2 → (n ≡ 0 → x ≡ 0) → Decodes outcome_number n r
    → p ≡ option_map (λ (o : Outcome). record { view = x; outcome = o }) (result_ok r) → (accepted_number p ≡ n) × (accepted_view p ≡ x)
accepted_known n x (Ok o) p few none d e = (ap accepted_number e ∙ d.0, ap accepted_view e)
accepted_known n x (Err u) p few none d e =
    let a = d.0 Abort in
    let c = d.0 Commit in
    let z : n ≡ 0 = omega arith in
    (ap accepted_number e ∙ sym z, ap accepted_view e ∙ sym (none z))
