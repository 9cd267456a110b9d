use Rattle.std.proofs.Common.{take}
use Rattle.field.specs.Layouts.{Passes}
use Rattle.field.proofs.check.Given as goal

abbrev pub invariant-loop-field : goal.invariant-loop-field
invariant-loop-field l = Passes l.size (take l.field-index l.fields)
