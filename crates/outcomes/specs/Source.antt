-- When a graph is one of a program: its events are the program's statements, and each value written follows from the table of statements.
use Rattle.std.specs.Prelude.{◌≡◌, ℕ, ◌+◌, ◌%◌, ◌<◌, List, Some, None, Option}
use Rattle.lang.specs.declared.syntax.Statement.{Statement}
use Rattle.lang.specs.declared.syntax.Statement.TheVariants.{Load, Store, Exchange, Add, Fence}
use Rattle.programs.specs.Parts.{statement_at, event_number}
use Rattle.events.specs.declared.event.Event.{Event}
use Rattle.events.specs.declared.event.Event.TheVariants.{Load as LoadEvent, Store as StoreEvent, Update as UpdateEvent, Fence as FenceEvent}
use Rattle.events.specs.Events.{event_at}
use Rattle.outcomes.specs.Values.{operand_value, value_read, held}

-- The event of a statement, by what the registers hold before it and the value that it reads. Add goes round at 256.
abbrev pub event_of : Statement → (ℕ → ℕ) → ℕ → Event
event_of (Load r l m) registers v = LoadEvent l m v
event_of (Store l o m) registers v = StoreEvent l m (operand_value registers o)
event_of (Exchange r l o m) registers v = UpdateEvent l m v (operand_value registers o)
event_of (Add r l o m) registers v = UpdateEvent l m v ((v + operand_value registers o) % 256)
event_of (Fence m) registers v = FenceEvent m

-- The event that a program has at a thread and a place, by the values read in the graph.
abbrev pub expected : List (List Statement) → List (Option Event) → ℕ → ℕ → Option Event
expected ts events t p = elim (statement_at ts t p) [ Some s ↦ Some (event_of s (λ r. held ts events t r p) (value_read events t p)) | None ↦ None ]

-- The event at a thread and a place is the program's.
abbrev pub EventFits : List (List Statement) → List (Option Event) → ℕ → ℕ → Type 0
EventFits ts events t p = event_at events (event_number t p) ≡ expected ts events t p

-- A graph of a program has just the events of its statements.
abbrev pub GraphOf : List (List Statement) → List (Option Event) → Type 0
GraphOf ts events = (t p : ℕ) → t < 4 → p < 8 → EventFits ts events t p
