use Rattle.std.proofs.Common.{◌≡◌, ◌≢◌, true, ◌⊎◌, Decides, refl, ap, sym, inl, inr, arith}
use Rattle.std.proofs.lemmas.Bool.{cases_Bool}
use Rattle.std.proofs.lemmas.Bool.Decides.{nat_tests}
use Rattle.values.specs.declared.timestamp.Timestamp.{Timestamp}
use Rattle.order.proofs.Orders.{ordered}
use Rattle.values.proofs.Orders.{same_timestamp, timestamps}
use Rattle.values.specs.Times.{null, before, named, version, TimestampLaws}

null_first : (t : Timestamp) → (t ≢ null) → before null t ≡ true
null_first t n = elim ((ordered timestamps).total null t) [ inl h ↦ h | inr (inl e) ↦ absurd (n (sym e)) | inr (inr h) ↦ absurd (grind (arith, nat_tests)) ]

versions : (t : Timestamp) → Decides (version t) ((t ≡ null) ⊎ (named t ≡ true))
versions t = (into, λ k. elim k [ inl e ↦ rw e refl | inr n ↦ grind (arith, nat_tests) ])
  where
    into : version t ≡ true → (t ≡ null) ⊎ (named t ≡ true)
    into h = elim (cases_Bool (named t)) [ inl n ↦ inr n | inr n ↦ inl (same_timestamp t null (grind (arith, nat_tests)) (grind (arith, nat_tests))) ]

pub timestamp_laws : TimestampLaws
timestamp_laws = record {
  ordered = ordered timestamps;
  null_first = null_first;
  whole = λ t. refl;
  names = λ s t n e. n (ap (λ (x : Timestamp). x.transaction) e);
  versions = versions;
  null_before = λ t n. grind (arith, nat_tests);
}
