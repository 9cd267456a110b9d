use Rattle.std.proofs.Common.{◌≡◌, ◌%◌, length, vec_items}
use Rattle.inspection.specs.Spelling.{unhex}
use Rattle.inspection.proofs.Bytes.{after}
use Rattle.inspection.proofs.digits.from_hex.Given as goal

abbrev pub invariant-loop-rest : goal.invariant-loop-rest
invariant-loop-rest l = (unhex l.line ≡ after (vec_items l.bytes) (unhex l.rest)) × (length l.rest % 2 ≡ 0)

abbrev pub decreases-loop-rest : goal.decreases-loop-rest
decreases-loop-rest l = length l.rest
