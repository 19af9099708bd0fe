-- What a reader can check of compiled code: it holds its source in order, and flushes between an sc `st` and a later sc `ld`.
use Rattle.std.specs.Prelude.{◌≡◌, ℕ, ◌+◌, ◌<◌, Bool, true, false, ◌⊎◌, List, [], ◌∷◌, length, Some, None, Option}
use Rattle.std.specs.List.{slice_get}
use Rattle.lang.specs.declared.syntax.Mode.{Mode}
use Rattle.lang.specs.declared.syntax.Location.{Location}
use Rattle.lang.specs.declared.syntax.Register.{Register}
use Rattle.lang.specs.declared.syntax.Operand.{Operand}
use Rattle.lang.specs.declared.syntax.Statement.{Statement}
use Rattle.lang.specs.declared.syntax.Statement.TheVariants.{Load as Ld, Store as St, Exchange as Xchg, Add as Sum, Fence as Bar}
use Rattle.lang.specs.Strengths.{is_sc}
use Rattle.mapping.specs.Kinds.{is_sc_store, is_sc_load, holds_at}
use Rattle.compiler.specs.declared.code.Instruction.{Instruction}
use Rattle.compiler.specs.declared.code.Instruction.TheVariants.{Load, Store, LockedStore, Exchange, Add, Fence, PlacedFence}

-- The instruction carries out the statement at a place.
pub data Carries (p : ℕ) : Statement → Instruction → Type 0 where
  load : (r : Register) (l : Location) (m : Mode) → Carries p (Ld r l m) (Load p r l)
  plain : (l : Location) (v : Operand) (m : Mode) → Carries p (St l v m) (Store p l v)
  locked : (l : Location) (v : Operand) (m : Mode) → Carries p (St l v m) (LockedStore p l v)
  exchange : (r : Register) (l : Location) (v : Operand) (m : Mode) → Carries p (Xchg r l v m) (Exchange p r l v)
  add : (r : Register) (l : Location) (v : Operand) (m : Mode) → Carries p (Sum r l v m) (Add p r l v)
  fence : (m : Mode) → is_sc m ≡ true → Carries p (Bar m) (Fence p)

-- The code holds the thread from the place i on: each statement's instruction in order, with placed fences anywhere between, and with
-- nothing for a fence weaker than sc. So without the placed fences, and with those weak fences put back, it is the source.
pub data Holds (t : List Statement) : ℕ → List Instruction → Type 0 where
  over : (i : ℕ) → i ≡ length t → Holds t i []
  placed : (i : ℕ) (c : List Instruction) → Holds t i c → Holds t i (PlacedFence ∷ c)
  silent : (i : ℕ) (c : List Instruction) (m : Mode) → slice_get t i ≡ Some (Bar m) → is_sc m ≡ false → Holds t (i + 1) c → Holds t i c
  carried : (i : ℕ) (c : List Instruction) (s : Statement) (x : Instruction) → slice_get t i ≡ Some s → Carries i s x → Holds t (i + 1) c → Holds t i (x ∷ c)

-- The place of the statement that an instruction came from.
abbrev pub source : Instruction → Option ℕ
source (Load p r l) = Some p
source (Store p l v) = Some p
source (LockedStore p l v) = Some p
source (Exchange p r l v) = Some p
source (Add p r l v) = Some p
source (Fence p) = Some p
source PlacedFence = None

-- The instructions that run only with the buffer empty.
abbrev pub flushes : Instruction → Bool
flushes (Load p r l) = false
flushes (Store p l v) = false
flushes (LockedStore p l v) = true
flushes (Exchange p r l v) = true
flushes (Add p r l v) = true
flushes (Fence p) = true
flushes PlacedFence = true

-- Between the instruction of an sc `st` and that of a later sc `ld` stands a flushing instruction, or the store's own is locked.
abbrev pub FlushesBetween : List Statement → List Instruction → Type 0
FlushesBetween t c =
    (a b i j : ℕ) (x y : Instruction) →
    slice_get c a ≡ Some x →
    slice_get c b ≡ Some y →
    source x ≡ Some i →
    source y ≡ Some j →
    i < j →
    holds_at is_sc_store t i ≡ true →
    holds_at is_sc_load t j ≡ true →
    (flushes x ≡ true) ⊎ ((k : ℕ) × (z : Instruction) × (a < k) × (k < b) × (slice_get c k ≡ Some z) × (flushes z ≡ true))

pub record Faithful (t : List Statement) (c : List Instruction) : Type 0 where
  pub holds : Holds t 0 c
  pub flushed : FlushesBetween t c
