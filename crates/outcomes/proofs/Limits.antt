-- A thread of a program has no statement past place 7, and a statement that reads has a number.
use Rattle.std.proofs.Common.{◌≡◌, ℕ, zero, suc, ◌<◌, ◌≤◌, true, cond, ltb, List, [], ◌∷◌, map, length, None, Some, Option, refl, sym, ap, ◌∙◌, inl, inr, arith}
use Rattle.std.proofs.lemmas.Bool.{cases_lt, cond-true, false≢true, lt-ltb}
use Rattle.std.proofs.lemmas.Option.{slice_get_past}
use Rattle.std.specs.List.{slice_get}
use Rattle.lang.specs.declared.syntax.Statement.{Statement}
use Rattle.programs.proofs.Sizes.{at_most}
use Rattle.programs.specs.Entries.{entries}
use Rattle.programs.specs.Parts.{Thread, Program, body, bodies, statement_at, statement_count, event_number}
use Rattle.outcomes.specs.Values.{reads_into}

none_in : (xs : List Thread) (t q : ℕ) → 8 ≤ q → statement_at (map body xs) t q ≡ None
none_in [] t q h = refl
none_in (x ∷ xs) zero q h = slice_get_past (body x) q (omega (arith, at_most x))
none_in (x ∷ xs) (suc t) q h = none_in xs t q h

pub no_statement : (p : Program) (t q : ℕ) → 8 ≤ q → statement_at (bodies p) t q ≡ None
no_statement p t q h = none_in (entries p) t q h

-- Where a statement that reads into a register stands, its thread has a statement, so its event has a number.
counted_in : (ss : List Statement) (p r : ℕ) → reads_into (slice_get ss p) r ≡ true → p < length ss
counted_in ss p r h = elim (cases_lt p (length ss)) [
  | inl l ↦ l
  | inr past ↦ absurd (false≢true (sym (ap (λ (o : Option Statement). reads_into o r) (slice_get_past ss p past)) ∙ h))
]

counted : (ts : List (List Statement)) (t p r : ℕ) → reads_into (statement_at ts t p) r ≡ true → p < statement_count ts t
counted ts t p r = by_thread (slice_get ts t)
  where
    by_thread : (o : Option (List Statement)) → reads_into (elim o as (λ _. Option Statement) [ Some ss ↦ slice_get ss p | None ↦ None ]) r ≡ true → p < (elim o as (λ _. ℕ) [ Some ss ↦ length ss | None ↦ 0 ])
    by_thread (Some ss) h = counted_in ss p r h
    by_thread None h = absurd (false≢true h)

pub numbered : (ts : List (List Statement)) (t p r : ℕ) → reads_into (statement_at ts t p) r ≡ true → cond (ltb p (statement_count ts t)) (Some (event_number t p)) None ≡ Some (event_number t p)
numbered ts t p r h = cond-true _ _ _ (lt-ltb p (statement_count ts t) (counted ts t p r h))
