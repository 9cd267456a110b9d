-- That fields pass in one way at most.
-- It stands here because a ghost field cites it; there is nothing in it that a reader has to believe.
use Rattle.std.specs.Prelude.{ℕ, List, [], ◌∷◌}
use mathlib.Core.Bool.{Bool-set}
use mathlib.Core.HLevel.{×_prop, Unit-prop}
use Rattle.field.specs.declared.Field.{Field}
use Rattle.field.specs.Layouts.{Passes}

pub passes_once : (n : ℕ) (fs : List Field) → IsProp (Passes n fs)
passes_once n [] = Unit-prop
passes_once n (f ∷ fs) = ×_prop (Bool-set _ _) (passes_once n fs)
