use Rattle.std.proofs.Common.{◌≡◌, true}
use Rattle.content.specs.Rules.{reads_before}
use Rattle.content.proofs.making.all_readable.Given as goal

abbrev pub invariant-loop-read : goal.invariant-loop-read
invariant-loop-read l = reads_before l.timestamp l.reads l.read-index ≡ true
