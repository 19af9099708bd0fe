-- Code that grows at its end by a statement more.
use Rattle.std.proofs.Common.{◌≡◌, ℕ, ◌+◌, ◌<◌, List, [], ◌++◌, length, get_or, Some, None, Option, sym, ap, ◌∙◌, add-one}
use Rattle.std.proofs.lemmas.Option.{slice_get-get_or}
use Rattle.std.specs.List.{slice_get}
use Rattle.lang.specs.declared.syntax.Statement.{Statement}
use Rattle.mapping.specs.declared.placement.Placement.{Placement}
use Rattle.compiler.specs.declared.code.Instruction.{Instruction}
use Rattle.compiler.specs.Compiled.{at_statement, at_place, compiled}

pub at_some : (f : ℕ → Placement) (t : List Statement) (i : ℕ) (s : Statement) → slice_get t i ≡ Some s → at_place f t i ≡ at_statement i (f i) s
at_some f t i s e = ap (λ (o : Option Statement). elim o as (λ _. List Instruction) [ Some s ↦ at_statement i (f i) s | None ↦ [] ]) e

pub compiled_more : (f : ℕ → Placement) (t : List Statement) (i : ℕ) (c : List Instruction) → at_place f t i ≡ c → compiled f t i ++ c ≡ compiled f t (i + 1)
compiled_more f t i c e = ap (λ x. compiled f t i ++ x) (sym e) ∙ sym (ap (compiled f t) (add-one i))

pub statement_more : (f : ℕ → Placement) (t : List Statement) (i : ℕ) (s : Statement) → i < length t → compiled f t i ++ at_statement i (f i) (get_or t i s) ≡ compiled f t (i + 1)
statement_more f t i s h = compiled_more f t i _ (at_some f t i (get_or t i s) (slice_get-get_or t i s h))
