use Rattle.std.proofs.Common.{None, sym}
use Rattle.content.specs.Rules.{body_of}
use Rattle.content.proofs.Whole.{sound_tested, told_by_body, made_again}
use Rattle.content.proofs.content.Content.new.Goals as goal

pub returns-then-not-is_sound : goal.returns-then-not-is_sound
returns-then-not-is_sound c =
    let made = sym c.if-not-is_sound.ensures in
    record { made = made; again = λ d e. made_again d _ None made e; tested = sound_tested; told = told_by_body }

pub returns-clause-again : goal.returns-clause-again
returns-clause-again c d e = made_again d _ _ (sym c.if-not-is_sound.ensures, λ i. body_of c.args.timestamp (c.in_ok-new.ensures.1 i) (c.in_ok-new-2.ensures.1 i)) e

pub returns-clause-tested : goal.returns-clause-tested
returns-clause-tested c = sound_tested

pub returns-clause-told : goal.returns-clause-told
returns-clause-told c = told_by_body
