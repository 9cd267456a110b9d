-- What a put does to a table: how a store shows it, and what follows from it.
use Rattle.std.proofs.Common.{◌≡◌, ℕ, ◌+◌, ◌<◌, ◌≤◌, Bool, true, false, cond, not, leb, ◌≢◌, ◌⊎◌, ◌∷◌, is_some, Some, None, Ok, Err, Option, unwrap_or, Result, sym, refl, ◌∙◌, subst, inl, inr, arith}
use Rattle.std.proofs.lemmas.Bool.Decides.{nat_tests}
use Rattle.std.proofs.lemmas.Bool.{cases_Bool, and_parts, not-true, leb-true}
use Rattle.values.specs.declared.refusal.Refusal.{Refusal}
use Rattle.values.specs.declared.refusal.Refusal.TheVariants.{StoreFull}
use Rattle.store.specs.declared.Row.{Row}
use Rattle.store.specs.Table.{Table, Put, Counted, has, null_row, with_row, full_for, stored}
use Rattle.store.specs.Laws.{PutDone, PutRefused, StoreLaws}

pub same_table : (t u : Table) → ((q : ℕ) → t.look q ≡ u.look q) → t.held ≡ u.held → t.most ≡ u.most → t ≡ u
same_table t u e h m = λ i. record { look = λ q. e q i; held = h i; most = m i }

-- for a store: the three ends of a put, the key being held, new, or refused
module _ (t t' : Table) (k : ℕ) (v : Row) (here : t'.look k ≡ Some v) (others : (q : ℕ) → q ≢ k → t'.look q ≡ t.look q) (most : t'.most ≡ t.most) where
  looks : (q : ℕ) → t'.look q ≡ with_row t.look k v q
  looks q = let h = others q in grind (arith, nat_tests)

  pub put_again : has t k ≡ true → t'.held ≡ t.held → Put t k v (Ok tt) t'
  put_again h held = record {
    answer = rw h refl;
    after = same_table t' (stored t k v) looks (rw h (omega arith)) most ∙ rw h refl;
  }

  pub put_new : has t k ≡ false → t.held < t.most → t'.held ≡ t.held + 1 → Put t k v (Ok tt) t'
  put_new h l held = record {
    answer = grind (arith, nat_tests);
    after = same_table t' (stored t k v) looks (rw h held) most ∙ grind (arith, nat_tests);
  }

pub put_full : (t : Table) (k : ℕ) (v : Row) → has t k ≡ false → t.most ≤ t.held → Put t k v (Err (StoreFull k)) t
put_full t k v h l = record { answer = grind (arith, nat_tests); after = grind (arith, nat_tests) }

was_ok : (b : Bool) (k : ℕ) → ◌≡◌ {A = Result Unit Refusal} (Ok tt) (cond b (Err (StoreFull k)) (Ok tt)) → b ≡ false
was_ok true k e = cc
was_ok false k e = refl

was_err : (b : Bool) (k : ℕ) (e : Refusal) → ◌≡◌ {A = Result Unit Refusal} (Err e) (cond b (Err (StoreFull k)) (Ok tt)) → (b ≡ true) × (e ≡ StoreFull k)
was_err true k e h = (refl, cc)
was_err false k e h = cc

is_stored : (t t' : Table) (k : ℕ) (v : Row) → Put t k v (Ok tt) t' → t' ≡ stored t k v
is_stored t t' k v p = p.after ∙ rw (was_ok (full_for t k) k p.answer) refl

done : (t t' : Table) (k : ℕ) (v : Row) → Put t k v (Ok tt) t' → PutDone t k v t'
done t t' k v p =
    let room = was_ok (full_for t k) k p.answer in
    subst (λ (u : Table). PutDone t k v u) (sym (is_stored t t' k v p)) (record {
      room = λ h. grind (arith, nat_tests);
      here = grind (arith, nat_tests);
      others = λ q n. grind (arith, nat_tests);
      again = λ h. grind (arith, nat_tests);
      new = λ h. grind (arith, nat_tests);
      capacity = refl;
    })

refused : (t t' : Table) (k : ℕ) (v : Row) (e : Refusal) → Put t k v (Err e) t' → PutRefused t k e t'
refused t t' k v e p =
    let w = was_err (full_for t k) k e p.answer in
    let b = and_parts (not (has t k)) (leb t.most t.held) w.0 in
    record {
      names = w.1;
      missing = not-true (has t k) b.0;
      full = leb-true t.most t.held b.1;
      unchanged = p.after ∙ rw w.0 refl;
    }

-- the count goes on, one more where the key is new
counted_new : (t : Table) (k : ℕ) (v : Row) → Counted t → has t k ≡ false → t.held < t.most → Counted (stored t k v)
counted_new t k v c h l = record {
  keys = k ∷ c.keys;
  held = grind (arith, nat_tests, c.held);
  once = λ q. grind (arith, nat_tests, c.once q, c.once k);
  bound = grind (arith, nat_tests);
  small = c.small;
}

counted_again : (t : Table) (k : ℕ) (v : Row) → Counted t → has t k ≡ true → Counted (stored t k v)
counted_again t k v c h = record {
  keys = c.keys;
  held = grind (arith, nat_tests, c.held);
  once = λ q. grind (arith, nat_tests, c.once q, c.once k);
  bound = grind (arith, nat_tests, c.bound);
  small = c.small;
}

counted : (t t' : Table) (k : ℕ) (v : Row) (r : Result Unit Refusal) → Counted t → Put t k v r t' → Counted t'
counted t t' k v (Err e) c p = subst Counted (sym (refused t t' k v e p).unchanged) c
counted t t' k v (Ok tt) c p = subst Counted (sym (is_stored t t' k v p)) (go (cases_Bool (has t k)))
  where
    go : (has t k ≡ true) ⊎ (has t k ≡ false) → Counted (stored t k v)
    go (inl h) = counted_again t k v c h
    go (inr h) = counted_new t k v c h ((done t t' k v p).room h)

absent : (o : Option Row) → is_some o ≡ false → unwrap_or o null_row ≡ null_row
absent None h = refl
absent (Some v) h = cc

present : (o : Option Row) → is_some o ≡ true → o ≡ Some (unwrap_or o null_row)
present None h = cc
present (Some v) h = refl

pub store_laws : StoreLaws
store_laws = record {
  done = done;
  refused = refused;
  one_answer = λ t t' u' k v r s p q. (p.answer ∙ sym q.answer, p.after ∙ sym q.after);
  counted = counted;
  absent = λ t k. absent (t.look k);
  present = λ t k. present (t.look k);
  bare = λ n k. refl;
}
