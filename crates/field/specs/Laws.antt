use Rattle.std.specs.Prelude.{◌≡◌, ℕ, ◌⊎◌, List}
use Rattle.values.specs.declared.refusal.Refusal.{Refusal}
use Rattle.field.specs.declared.Field.{Field}
use Rattle.field.specs.Layouts.{Passes, Breaks}

-- a layout passes or breaks, never both, and it breaks at one place
pub record OneVerdict : Type 0 where
  pub some : (n : ℕ) (fs : List Field) → Passes n fs ⊎ ((e : Refusal) × Breaks n fs e)
  pub never_both : (n : ℕ) (fs : List Field) (e : Refusal) → Passes n fs → Breaks n fs e → ⊥
  pub one_place : (n : ℕ) (fs : List Field) (d e : Refusal) → Breaks n fs d → Breaks n fs e → d ≡ e
