use Rattle.std.proofs.Common.{refl, arith}
use Rattle.std.proofs.lemmas.Bool.Decides.{nat_tests}
use Rattle.field.specs.Layouts.Breaks.{here, there}
use Rattle.frame.proofs.reader.read_mark.Goals as goal

pub returns-in-84-2 : goal.returns-in-84-2
returns-in-84-2 c = there (grind (arith, nat_tests)) (here (grind (arith, nat_tests)) refl)

pub returns-in_default : goal.returns-in_default
returns-in_default c = here (grind (arith, nat_tests)) refl
