-- The fence rule, and what else holds of every mapping.
use Rattle.std.specs.Prelude.{◌≡◌, ℕ, ◌+◌, ◌*◌, ◌<◌, ◌≤◌, true, false, List, length}
use Rattle.lang.specs.declared.syntax.Statement.{Statement}
use Rattle.mapping.specs.declared.placement.Placement.{Placement}
use Rattle.mapping.specs.Kinds.{is_store, is_sc_store, is_sc_load, is_strong, holds_at}

abbrev pub nothing : Placement
nothing = record { before = false; after = false; locked = false }

-- The points of a thread stand in this order: the fence before statement i at 3 × i, its own instruction at 3 × i + 1, the fence
-- after it at 3 × i + 2. A flush is a placed fence, a locked store, an xchg, an add or a `fence sc`.
pub data Flush (f : ℕ → Placement) (t : List Statement) (q : ℕ) : Type 0 where
  fence_before : (i : ℕ) → q ≡ 3 * i → (f i).before ≡ true → Flush f t q
  locked_store : (i : ℕ) → q ≡ 3 * i + 1 → holds_at is_store t i ≡ true → (f i).locked ≡ true → Flush f t q
  strong : (i : ℕ) → q ≡ 3 * i + 1 → holds_at is_strong t i ≡ true → Flush f t q
  fence_after : (i : ℕ) → q ≡ 3 * i + 2 → (f i).after ≡ true → Flush f t q

-- A flush stands between the statements at i and j. The store at i itself counts if it is locked, and so do the fence after i and
-- the fence before j.
abbrev pub FlushedBetween : (ℕ → Placement) → List Statement → ℕ → ℕ → Type 0
FlushedBetween f t i j = (q : ℕ) × (3 * i + 1 ≤ q) × (q < 3 * j + 1) × Flush f t q

-- The fence rule: between an sc `st` and a later sc `ld` of a thread stands a flush.
abbrev pub FenceRule : (List Statement → ℕ → Placement) → Type 0
FenceRule f = (t : List Statement) (i j : ℕ) → i < j → holds_at is_sc_store t i ≡ true → holds_at is_sc_load t j ≡ true → FlushedBetween (f t) t i j

-- Nothing is placed past the thread's end, and nothing but an `st` is locked.
abbrev pub EndsWithThread : (List Statement → ℕ → Placement) → Type 0
EndsWithThread f = (t : List Statement) (i : ℕ) → length t ≤ i → f t i ≡ nothing

abbrev pub LocksStores : (List Statement → ℕ → Placement) → Type 0
LocksStores f = (t : List Statement) (i : ℕ) → (f t i).locked ≡ true → holds_at is_store t i ≡ true
