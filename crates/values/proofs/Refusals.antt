use Rattle.std.proofs.Common.{◌≡◌, ℕ, ◌-◌, ◌≤◌, List, [], ◌∷◌, get_or, Some, None, Option, sym, refl, ◌∙◌, arith, lit≤}
use Rattle.std.proofs.Math.ListN.{get_or-map}
use Rattle.std.proofs.lemmas.List.FromFn.{get_or-range_with_len}
use Rattle.values.specs.declared.refusal.Refusal.{Refusal}
use Rattle.values.specs.declared.refusal.Refusal.TheVariants.{NoSuchReplica, NeverOpened, NoTransactionLeft, NotADraft, AlreadyRead, FifthKey, EmptyDraft, TimestampTooLow, NotPolling, TooFewVotes, NothingToTakeOver, AlreadyDecided, ViewTooHigh, NoSlot, StoreFull, NotAFrame, BadCapacity, BadReplicaCount, ShortBuffer}
use Rattle.values.specs.Numbers.{refusal_number, refusal_value, RefusalLaws}

-- the refusals by their numbers, with the value v where they have one
abbrev refusals : ℕ → List Refusal
refusals v =
    NoSuchReplica
    ∷ NeverOpened
    ∷ NoTransactionLeft
    ∷ NotADraft
    ∷ AlreadyRead
    ∷ FifthKey
    ∷ EmptyDraft
    ∷ TimestampTooLow
    ∷ NotPolling
    ∷ TooFewVotes
    ∷ NothingToTakeOver
    ∷ AlreadyDecided
    ∷ ViewTooHigh
    ∷ NoSlot
    ∷ StoreFull v
    ∷ NotAFrame v
    ∷ BadCapacity
    ∷ BadReplicaCount
    ∷ ShortBuffer
    ∷ []

abbrev refusal_at : ℕ → Option ℕ → Refusal
refusal_at n None = get_or (refusals 0) (n - 1) NoSuchReplica
refusal_at n (Some v) = get_or (refusals v) (n - 1) NoSuchReplica

-- what is known of a refusal: its number is among those, and it stands there
abbrev Known : Refusal → Type 0
Known p = (1 ≤ refusal_number p) × (refusal_number p ≤ 19) × (refusal_at (refusal_number p) (refusal_value p) ≡ p)

known : (p : Refusal) → Known p
known NoSuchReplica = (lit≤ tt, lit≤ tt, refl)
known NeverOpened = (lit≤ tt, lit≤ tt, refl)
known NoTransactionLeft = (lit≤ tt, lit≤ tt, refl)
known NotADraft = (lit≤ tt, lit≤ tt, refl)
known AlreadyRead = (lit≤ tt, lit≤ tt, refl)
known FifthKey = (lit≤ tt, lit≤ tt, refl)
known EmptyDraft = (lit≤ tt, lit≤ tt, refl)
known TimestampTooLow = (lit≤ tt, lit≤ tt, refl)
known NotPolling = (lit≤ tt, lit≤ tt, refl)
known TooFewVotes = (lit≤ tt, lit≤ tt, refl)
known NothingToTakeOver = (lit≤ tt, lit≤ tt, refl)
known AlreadyDecided = (lit≤ tt, lit≤ tt, refl)
known ViewTooHigh = (lit≤ tt, lit≤ tt, refl)
known NoSlot = (lit≤ tt, lit≤ tt, refl)
known (StoreFull v) = (lit≤ tt, lit≤ tt, refl)
known (NotAFrame v) = (lit≤ tt, lit≤ tt, refl)
known BadCapacity = (lit≤ tt, lit≤ tt, refl)
known BadReplicaCount = (lit≤ tt, lit≤ tt, refl)
known ShortBuffer = (lit≤ tt, lit≤ tt, refl)

pub refusal_laws : RefusalLaws
refusal_laws = record {
  within = λ p. ((known p).0, (known p).1);
  each = λ n low high. (refusal_at n None, sym (get_or-map refusal_number (refusals 0) (n - 1) NoSuchReplica) ∙ get_or-range_with_len 1 19 (n - 1) 1 (omega arith) ∙ omega arith);
  told = λ p q a b. sym (known p).2 ∙ (λ i. refusal_at (a i) (b i)) ∙ (known q).2;
}
