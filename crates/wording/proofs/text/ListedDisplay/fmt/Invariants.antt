use Rattle.std.proofs.Common.{Ok, take}
use Rattle.std.specs.Fmt.{DisplaysOnOk}
use Rattle.wording.specs.Wording.{spaced_output}
use Rattle.wording.proofs.text.ListedDisplay.fmt.Given as goal

abbrev pub invariant-loop-row : goal.invariant-loop-row
invariant-loop-row g l = DisplaysOnOk g.W.Write.write_str_gives l.initial.f (Ok tt) (spaced_output g.T.Display.output (take l.row-index l.rest)) l.f
