use Rattle.std.specs.Prelude.{◌≡◌, ℕ, ◌≤◌, Some, None, Option, Ok, Err, Result, ◌≢◌}
use Rattle.values.specs.declared.decision.Vote.{Vote}
use Rattle.values.specs.declared.decision.Vote.TheVariants.{No, Yes}
use Rattle.values.specs.declared.decision.Outcome.{Outcome}
use Rattle.values.specs.declared.decision.Outcome.TheVariants.{Abort, Commit}
use Rattle.values.specs.declared.decision.UnknownNumber.{UnknownNumber}
use Rattle.values.specs.declared.refusal.Refusal.{Refusal}
use Rattle.values.specs.declared.refusal.Refusal.TheVariants.{NoSuchReplica, NeverOpened, NoTransactionLeft, NotADraft, AlreadyRead, FifthKey, EmptyDraft, TimestampTooLow, NotPolling, TooFewVotes, NothingToTakeOver, AlreadyDecided, ViewTooHigh, NoSlot, StoreFull, NotAFrame, BadCapacity, BadReplicaCount, ShortBuffer}

-- Some of the one thing that has the number n, None where nothing has it
abbrev pub Numbered : {X : Type 0} → (X → ℕ) → ℕ → Option X → Type 0
Numbered {X} number n None = (x : X) → number x ≢ n
Numbered {X} number n (Some x) = (number x ≡ n) × ((y : X) → number y ≡ n → y ≡ x)

-- the one thing that has the number n, an error with n where nothing has it
abbrev pub Decodes : {X : Type 0} → (X → ℕ) → ℕ → Result X UnknownNumber → Type 0
Decodes number n (Ok x) = Numbered number n (Some x)
Decodes number n (Err e) = Numbered number n None × (e.0 ≡ n)

-- no vote is 0
abbrev pub vote_number : Option Vote → ℕ
vote_number None = 0
vote_number (Some No) = 1
vote_number (Some Yes) = 2

abbrev pub outcome_number : Outcome → ℕ
outcome_number Abort = 1
outcome_number Commit = 2

abbrev pub refusal_number : Refusal → ℕ
refusal_number NoSuchReplica = 1
refusal_number NeverOpened = 2
refusal_number NoTransactionLeft = 3
refusal_number NotADraft = 4
refusal_number AlreadyRead = 5
refusal_number FifthKey = 6
refusal_number EmptyDraft = 7
refusal_number TimestampTooLow = 8
refusal_number NotPolling = 9
refusal_number TooFewVotes = 10
refusal_number NothingToTakeOver = 11
refusal_number AlreadyDecided = 12
refusal_number ViewTooHigh = 13
refusal_number NoSlot = 14
refusal_number (StoreFull k) = 15
refusal_number (NotAFrame p) = 16
refusal_number BadCapacity = 17
refusal_number BadReplicaCount = 18
refusal_number ShortBuffer = 19

-- the key of a store that is full, the place in bytes that are no frame
abbrev pub refusal_value : Refusal → Option ℕ
refusal_value NoSuchReplica = None
refusal_value NeverOpened = None
refusal_value NoTransactionLeft = None
refusal_value NotADraft = None
refusal_value AlreadyRead = None
refusal_value FifthKey = None
refusal_value EmptyDraft = None
refusal_value TimestampTooLow = None
refusal_value NotPolling = None
refusal_value TooFewVotes = None
refusal_value NothingToTakeOver = None
refusal_value AlreadyDecided = None
refusal_value ViewTooHigh = None
refusal_value NoSlot = None
refusal_value (StoreFull k) = Some k
refusal_value (NotAFrame p) = Some p
refusal_value BadCapacity = None
refusal_value BadReplicaCount = None
refusal_value ShortBuffer = None

-- The numbers are 1 to 19, each that of some refusal, and number and value tell the refusal.
pub record RefusalLaws : Type 0 where
  pub within : (p : Refusal) → (1 ≤ refusal_number p) × (refusal_number p ≤ 19)
  pub each : (n : ℕ) → 1 ≤ n → n ≤ 19 → (p : Refusal) × (refusal_number p ≡ n)
  pub told : (p q : Refusal) → refusal_number p ≡ refusal_number q → refusal_value p ≡ refusal_value q → p ≡ q
