use Rattle.std.proofs.Common.{sym, take_all}
use Rattle.field.proofs.Faults.{pass_more, break_at}
use Rattle.field.proofs.Verdict.{one_verdict}
use Rattle.field.proofs.check.Goals as goal

pub returns-then-not-holds : goal.returns-then-not-holds
returns-then-not-holds c =
    record {
      verdict = break_at c.args.size c.args.fields.now c.loop-field.field-index _ c.loop-field-test.true c.loop-field.invariant (sym c.if-not-holds.ensures);
      laws = one_verdict;
    }

pub loop-field-preserved : goal.loop-field-preserved
loop-field-preserved c =
    pass_more c.args.size c.args.fields.now c.loop-field.field-index _ c.loop-field-test.true c.loop-field.invariant (sym c.if-not-holds.ensures)

pub returns : goal.returns
returns c = record { verdict = rw (take_all c.loop-field.field-index c.args.fields.now c.loop-field-test.false) at c.loop-field.invariant; laws = one_verdict }
