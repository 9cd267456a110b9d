use Rattle.std.proofs.Common.{length, sym, ◌∙◌}
use Rattle.std.proofs.lemmas.Bool.{not-true, not-false}
use Rattle.content.specs.Rules.{keys_of}
use Rattle.content.proofs.Apart.{has_earlier, differ_not, differ_more}
use Rattle.content.proofs.keyed.keys_differ.Goals as goal

pub returns-then-has_key : goal.returns-then-has_key
returns-then-has_key g c =
    let rows = c.args.rows.now in
    let e = has_earlier g.T.Keyed.key g.T.Blank.blank rows c.loop-i-test.true c.index-rows-i.is c.key.ensures c.has_key.ensures in
    sym (differ_not (keys_of g.T.Keyed.key g.T.Blank.blank rows) c.loop-i.i (length rows) c.loop-i-test.true (not-true _ (sym e ∙ c.if-has_key.true)))

pub loop-i-preserved : goal.loop-i-preserved
loop-i-preserved g c =
    let rows = c.args.rows.now in
    let e = has_earlier g.T.Keyed.key g.T.Blank.blank rows c.loop-i-test.true c.index-rows-i.is c.key.ensures c.has_key.ensures in
    differ_more (keys_of g.T.Keyed.key g.T.Blank.blank rows) c.loop-i.i (not-false _ (sym e ∙ c.if-has_key.false)) c.loop-i.invariant
