-- What holds of the format.
use Rattle.std.specs.Prelude.{◌≡◌, ℕ, true, Some}
use Rattle.values.specs.Times.{timestamp, named}
use Rattle.content.specs.Rules.{body_of, sound}
use Rattle.field.specs.Layouts.{Passes}
use Rattle.layout.specs.Values.{Part}
use Rattle.layout.specs.Format.{part_fields}

-- the fields of a content obey their rules exactly if it is the content of a transaction
pub record ContentRules : Type 0 where
  pub only : (t : ℕ) (p : Part) → named (timestamp p.second t) ≡ true → Passes 87 (part_fields t (Some p))
      → sound (body_of (timestamp p.second t) p.reads p.writes) ≡ true
  pub every : (t : ℕ) (p : Part) → sound (body_of (timestamp p.second t) p.reads p.writes) ≡ true
      → Passes 87 (part_fields t (Some p))
