use Rattle.std.proofs.Common.{sym}
use Rattle.content.proofs.Apart.{before_met, before_more}
use Rattle.content.proofs.making.all_readable.Goals as goal

pub returns-then-not-is_readable : goal.returns-then-not-is_readable
returns-then-not-is_readable c =
    sym (before_met c.args.timestamp c.args.reads.now _ c.loop-read.read-index c.loop-read-test.true (sym c.if-not-is_readable.ensures))

pub loop-read-preserved : goal.loop-read-preserved
loop-read-preserved c = before_more c.args.timestamp c.args.reads.now c.loop-read.read-index (sym c.if-not-is_readable.ensures) c.loop-read.invariant
