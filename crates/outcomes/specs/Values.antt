-- The values that flow through a thread: what its registers hold, from what its events read.
use Rattle.std.specs.Prelude.{ℕ, zero, suc, Bool, false, cond, List, Some, None, Option, nat_eq}
use Rattle.lang.specs.Numbering.{register_index}
use Rattle.lang.specs.declared.syntax.Register.{Register}
use Rattle.lang.specs.declared.syntax.Operand.{Operand}
use Rattle.lang.specs.declared.syntax.Operand.TheVariants.{Held, Value}
use Rattle.lang.specs.declared.syntax.Statement.{Statement}
use Rattle.lang.specs.declared.syntax.Statement.TheVariants.{Load, Store, Exchange, Add, Fence}
use Rattle.programs.specs.Parts.{statement_at, event_number}
use Rattle.events.specs.declared.event.Event.{Event}
use Rattle.events.specs.declared.event.Access.{Access}
use Rattle.events.specs.Events.{read_at}

-- The register that a statement reads into.
abbrev pub target : Statement → Option Register
target (Load r l m) = Some r
target (Store l v m) = None
target (Exchange r l v m) = Some r
target (Add r l v m) = Some r
target (Fence m) = None

-- If the statement at a thread and a place reads into register r.
abbrev pub reads_into : Option Statement → ℕ → Bool
reads_into (Some s) r = elim (target s) [ Some x ↦ nat_eq (register_index x) r | None ↦ false ]
reads_into None r = false

abbrev pub fills : List (List Statement) → ℕ → ℕ → ℕ → Bool
fills ts t r p = reads_into (statement_at ts t p) r

-- The value of an access; 0 where there is none.
abbrev pub value_of : Option Access → ℕ
value_of (Some a) = a.value
value_of None = 0

-- The value that the event at a thread and a place read.
abbrev pub value_read : List (Option Event) → ℕ → ℕ → ℕ
value_read events t p = value_of (read_at events (event_number t p))

-- What register r of thread t holds before place p: the last value read into it, else 0.
unfoldable pub held : List (List Statement) → List (Option Event) → ℕ → ℕ → ℕ → ℕ
held ts events t r zero = 0
held ts events t r (suc p) = cond (fills ts t r p) (value_read events t p) (held ts events t r p)

-- What an operand stands for, by what the registers hold.
abbrev pub operand_value : (ℕ → ℕ) → Operand → ℕ
operand_value registers (Held r) = registers (register_index r)
operand_value registers (Value v) = v
