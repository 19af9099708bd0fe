-- What each statement is compiled to, and the code of a thread.
use Rattle.std.specs.Prelude.{ℕ, zero, suc, Bool, cond, List, [], ◌++◌, map, length, Some, None, Option}
use Rattle.std.specs.Option.{option_to_list}
use Rattle.std.specs.List.{slice_get}
use Rattle.lang.specs.declared.syntax.Statement.{Statement}
use Rattle.lang.specs.declared.syntax.Statement.TheVariants.{Load as Ld, Store as St, Exchange as Xchg, Add as Sum, Fence as Bar}
use Rattle.programs.specs.declared.bounded.Bounded.{Bounded}
use Rattle.programs.specs.Entries.{entries}
use Rattle.mapping.specs.declared.placement.Placement.{Placement}
use Rattle.lang.specs.Strengths.{is_sc}
use Rattle.compiler.specs.declared.code.Instruction.{Instruction}
use Rattle.compiler.specs.declared.code.Instruction.TheVariants.{Load, Store, LockedStore, Exchange, Add, Fence, PlacedFence}
use Rattle.compiler.specs.declared.code.Code.{Code}

-- The instruction of a statement at a place; a fence weaker than sc has none.
abbrev pub own : ℕ → Statement → Bool → Option Instruction
own p (Ld r l m) locked = Some (Load p r l)
own p (St l v m) locked = Some (cond locked (LockedStore p l v) (Store p l v))
own p (Xchg r l v m) locked = Some (Exchange p r l v)
own p (Sum r l v m) locked = Some (Add p r l v)
own p (Bar m) locked = cond (is_sc m) (Some (Fence p)) None

abbrev pub fence : Bool → Option Instruction
fence placed = cond placed (Some PlacedFence) None

-- The fence before a statement, its own instruction, the fence after it.
abbrev pub at_statement : ℕ → Placement → Statement → List Instruction
at_statement p pl s = option_to_list (fence pl.before) ++ (option_to_list (own p s pl.locked) ++ option_to_list (fence pl.after))

abbrev pub at_place : (ℕ → Placement) → List Statement → ℕ → List Instruction
at_place f t i = elim (slice_get t i) [ Some s ↦ at_statement i (f i) s | None ↦ [] ]

-- The code of the first n statements, in order.
abbrev pub compiled : (ℕ → Placement) → List Statement → ℕ → List Instruction
compiled f t zero = []
compiled f t (suc n) = compiled f t n ++ at_place f t n

-- The code of a whole thread.
abbrev pub compiled_thread : (List Statement → ℕ → Placement) → List Statement → List Instruction
compiled_thread f t = compiled (f t) t (length t)

-- The code of a thread: at most 24 instructions.
abbrev pub ThreadCode : Type 0
ThreadCode = Bounded Instruction 0 24

-- What a host sees of a thread's code and of a program's.
abbrev pub instructions_of : {LEAST MOST : ℕ} → Bounded Instruction LEAST MOST → List Instruction
instructions_of c = entries c

abbrev pub threads_of : Code → List (List Instruction)
threads_of c = map instructions_of (entries c.threads)

-- The instruction at an index of a thread, and how many a thread has; an absent thread has none.
abbrev pub instruction_at : List (List Instruction) → ℕ → ℕ → Option Instruction
instruction_at cs t i = elim (slice_get cs t) [ Some c ↦ slice_get c i | None ↦ None ]

abbrev pub instruction_count : List (List Instruction) → ℕ → ℕ
instruction_count cs t = elim (slice_get cs t) [ Some c ↦ length c | None ↦ 0 ]
