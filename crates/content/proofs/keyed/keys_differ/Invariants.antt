use Rattle.std.proofs.Common.{◌≡◌, true}
use Rattle.content.specs.Rules.{differ, keys_of}
use Rattle.content.proofs.keyed.keys_differ.Given as goal

abbrev pub invariant-loop-i : goal.invariant-loop-i
invariant-loop-i g l = differ (keys_of g.T.Keyed.key g.T.Blank.blank l.rows) l.i ≡ true
