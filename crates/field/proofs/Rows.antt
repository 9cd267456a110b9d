-- Verdicts on rows of fields.
use Rattle.std.proofs.Common.{◌≡◌, ℕ, zero, suc, ◌+◌, ◌<◌, ◌⊎◌, List, ◌++◌, subst, inl, inr, add-one, arith}
use Rattle.std.proofs.lemmas.Bool.{cases_order}
use Rattle.values.specs.declared.refusal.Refusal.{Refusal}
use Rattle.field.specs.declared.Field.{Field}
use Rattle.field.specs.Layouts.{Passes, Breaks, rows}
use Rattle.field.proofs.Faults.{before, after, pass_both, Ends, ends_both}

-- the rows before the i-th pass, and that one breaks
pub rows_break : {m : ℕ} {e : Refusal} (row : ℕ → List Field) (i n : ℕ) → i < n → Passes m (rows row i) → Breaks m (row i) e → Breaks m (rows row n) e
rows_break row i zero h q k = absurd (omega arith)
rows_break {m} {e} row i (suc n) h q k = go (cases_order i n) (λ l. rows_break row i n l q k)
  where
    go : (i ≡ n) ⊎ ((i < n) ⊎ (n < i)) → (i < n → Breaks m (rows row n) e) → Breaks m (rows row n ++ row n) e
    go (inl j) f = subst (λ (k : ℕ). Breaks m (rows row k ++ row k) e) j (after (rows row i) q k)
    go (inr (inl l)) f = before (row n) (f l)
    go (inr (inr l)) f = absurd (omega arith)

-- one row more passes
pub rows_more : (m : ℕ) (row : ℕ → List Field) (i : ℕ) → Passes m (rows row i) → Passes m (row i) → Passes m (rows row (i + 1))
rows_more m row i q k = rw add-one (pass_both m (rows row i) (row i) q k)

pub rows_end : (m : ℕ) (row : ℕ → List Field) (n : ℕ) → ((i : ℕ) → i < n → Ends m (row i)) → Ends m (rows row n)
rows_end m row zero h = tt
rows_end m row (suc n) h = ends_both m (rows row n) (row n) (rows_end m row n (λ i l. h i (omega arith))) (h n (omega arith))
