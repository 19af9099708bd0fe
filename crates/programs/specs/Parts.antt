-- A program as lists of statements, and how its parts are numbered.
use Rattle.std.specs.Prelude.{ℕ, ◌+◌, ◌*◌, List, map, length, Some, None, Option}
use Rattle.std.specs.List.{slice_get}
use Rattle.lang.specs.declared.syntax.Statement.{Statement}
use Rattle.programs.specs.declared.bounded.Bounded.{Bounded}
use Rattle.programs.specs.Entries.{entries}

-- 1 to 8 statements.
abbrev pub Thread : Type 0
Thread = Bounded Statement 1 8

-- 1 to 4 threads.
abbrev pub Program : Type 0
Program = Bounded Thread 1 4

-- The statements of a thread, in order, whatever the limits.
abbrev pub body : {LEAST MOST : ℕ} → Bounded Statement LEAST MOST → List Statement
body t = entries t

-- The threads of a program, in order, whatever the limits.
abbrev pub bodies : {LEAST MOST LOW HIGH : ℕ} → Bounded (Bounded Statement LEAST MOST) LOW HIGH → List (List Statement)
bodies p = map body (entries p)

-- The statement at a thread and a place, both counted from 0.
abbrev pub statement_at : List (List Statement) → ℕ → ℕ → Option Statement
statement_at ts t p = elim (slice_get ts t) [ Some ss ↦ slice_get ss p | None ↦ None ]

-- How many statements a thread has; an absent thread has none.
abbrev pub statement_count : List (List Statement) → ℕ → ℕ
statement_count ts t = elim (slice_get ts t) [ Some ss ↦ length ss | None ↦ 0 ]

-- The number of the event at a thread and a place.
abbrev pub event_number : ℕ → ℕ → ℕ
event_number t p = 8 * t + p
