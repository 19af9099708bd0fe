-- The kinds of statements that a mapping looks at.
use Rattle.std.specs.Prelude.{ℕ, Bool, true, false, List, Some, None}
use Rattle.std.specs.List.{slice_get}
use Rattle.lang.specs.Strengths.{is_sc}
use Rattle.lang.specs.declared.syntax.Statement.{Statement}
use Rattle.lang.specs.declared.syntax.Statement.TheVariants.{Load, Store, Exchange, Add, Fence}

abbrev pub is_store : Statement → Bool
is_store (Load r l m) = false
is_store (Store l v m) = true
is_store (Exchange r l v m) = false
is_store (Add r l v m) = false
is_store (Fence m) = false

abbrev pub is_sc_store : Statement → Bool
is_sc_store (Load r l m) = false
is_sc_store (Store l v m) = is_sc m
is_sc_store (Exchange r l v m) = false
is_sc_store (Add r l v m) = false
is_sc_store (Fence m) = false

abbrev pub is_sc_load : Statement → Bool
is_sc_load (Load r l m) = is_sc m
is_sc_load (Store l v m) = false
is_sc_load (Exchange r l v m) = false
is_sc_load (Add r l v m) = false
is_sc_load (Fence m) = false

-- What empties the buffer whatever the mapping does: an xchg, an add, a `fence sc`.
abbrev pub is_strong : Statement → Bool
is_strong (Load r l m) = false
is_strong (Store l v m) = false
is_strong (Exchange r l v m) = true
is_strong (Add r l v m) = true
is_strong (Fence m) = is_sc m

-- The statement at a place passes a test; past the thread's end none does.
abbrev pub holds_at : (Statement → Bool) → List Statement → ℕ → Bool
holds_at test t i = elim (slice_get t i) [ Some s ↦ test s | None ↦ false ]
