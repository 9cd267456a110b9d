use Rattle.std.proofs.Common.{◌≡◌, true, get_or, Some, None, Option, sym, ap, ◌∙◌}
use mathlib.Core.Bool.{Bool-set}
use mathlib.Core.HLevel.{is_prop→PathP}
use Rattle.std.proofs.lemmas.Bool.{and_parts, and_from, leb-true, le-leb, both_ways}
use Rattle.values.specs.Times.{version}
use Rattle.content.specs.declared.content.Content.{Content}
use Rattle.content.specs.Rules.{Body, sound, SoundTested, read_keys, write_keys, no_read}
use Rattle.content.specs.Contents.{body, Made, ToldByBody}
use Rattle.content.proofs.Apart.{differ_apart, apart_differ, before_tested}

pub sound_tested : SoundTested
sound_tested = record {
  only = λ b h.
      let p1 = and_parts _ _ h in
      let p2 = and_parts _ _ p1.1 in
      let p3 = and_parts _ _ p2.0 in
      let p4 = and_parts _ _ p3.1 in
      let p5 = and_parts _ _ p2.1 in
      let p6 = and_parts _ _ p5.1 in
      record {
        names = p1.0;
        few_reads = leb-true _ _ p3.0;
        few_writes = leb-true _ _ p4.0;
        some = leb-true _ _ p4.1;
        reads_apart = differ_apart (read_keys b.reads) _ p5.0;
        writes_apart = differ_apart (write_keys b.writes) _ p6.0;
        are_versions = λ i l. (and_parts (version (get_or b.reads i no_read).version) _ ((before_tested b.timestamp b.reads _).0 p6.1 i l)).0;
        are_before = λ i l. (and_parts (version (get_or b.reads i no_read).version) _ ((before_tested b.timestamp b.reads _).0 p6.1 i l)).1;
      };
  every = λ b s.
      and_from _ _ s.names (and_from _ _ (and_from _ _ (le-leb _ _ s.few_reads) (and_from _ _ (le-leb _ _ s.few_writes) (le-leb _ _ s.some)))
      (and_from _ _ (apart_differ (read_keys b.reads) _ s.reads_apart) (and_from _ _ (apart_differ (write_keys b.writes) _ s.writes_apart)
      ((before_tested b.timestamp b.reads _).1 (λ i l. and_from _ _ (s.are_versions i l) (s.are_before i l))))));
}

-- the invariant has one proof at most
pub told_by_body : ToldByBody
told_by_body c d e =
    λ i. record {
      stored = record { timestamp = (e i).timestamp; reads = (e i).reads; writes = (e i).writes };
      ok = is_prop→PathP (λ j. sound (e j) ≡ true) (λ j. Bool-set _ true) c.ok d.ok i;
    }

-- what a content says gives that content
pub made_again : (c : Content) (b : Body) (o : Option Content) → Made b o → body c ≡ b → o ≡ Some c
made_again c b None h e = absurd (both_ways _ h (ap sound (sym e) ∙ c.ok))
made_again c b (Some d) h e = ap Some (told_by_body d c (h.1 ∙ sym e))
