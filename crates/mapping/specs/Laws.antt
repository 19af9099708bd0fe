-- The laws of the published mappings. Past a thread's end no statement passes a test, so nothing is placed there; and the flush
-- between an sc `st` at i and an sc `ld` at j is the fence after i, the store at i itself, or the fence before j.
use Rattle.std.specs.Prelude.{◌≡◌, ℕ, ◌+◌, ◌*◌, ◌≤◌, Bool, true, false, List, length, Some, None, Option, refl}
use Rattle.std.proofs.Common.{ap, arith}
use Rattle.std.proofs.lemmas.Bool.{false≢true}
use Rattle.std.proofs.lemmas.Option.{slice_get_past}
use Rattle.std.specs.List.{slice_get}
use Rattle.lang.specs.declared.syntax.Statement.{Statement}
use Rattle.lang.specs.declared.syntax.Statement.TheVariants.{Load, Store, Exchange, Add, Fence}
use Rattle.mapping.specs.Kinds.{holds_at, is_store, is_sc_store, is_sc_load}
use Rattle.mapping.specs.Rule.{FenceRule, EndsWithThread, LocksStores, fence_before, locked_store, fence_after}
use Rattle.mapping.specs.Published.{trailing, locking, leading}

pub holds_past : (test : Statement → Bool) (t : List Statement) (i : ℕ) → length t ≤ i → holds_at test t i ≡ false
holds_past test t i h = ap (λ (o : Option Statement). elim o as (λ _. Bool) [ Some s ↦ test s | None ↦ false ]) (slice_get_past t i h)

pub sc_store_store : (t : List Statement) (i : ℕ) → holds_at is_sc_store t i ≡ true → holds_at is_store t i ≡ true
sc_store_store t i = go (slice_get t i)
  where
    go : (o : Option Statement) → (elim o as (λ _. Bool) [ Some s ↦ is_sc_store s | None ↦ false ]) ≡ true → (elim o as (λ _. Bool) [ Some s ↦ is_store s | None ↦ false ]) ≡ true
    go None h = h
    go (Some (Load r l m)) h = h
    go (Some (Store l v m)) h = refl
    go (Some (Exchange r l v m)) h = h
    go (Some (Add r l v m)) h = h
    go (Some (Fence m)) h = h

pub trailing_fenced : FenceRule trailing
trailing_fenced t i j l s r = (3 * i + 2, omega arith, omega arith, fence_after i refl s)

pub locking_fenced : FenceRule locking
locking_fenced t i j l s r = (3 * i + 1, omega arith, omega arith, locked_store i refl (sc_store_store t i s) s)

pub leading_fenced : FenceRule leading
leading_fenced t i j l s r = (3 * j, omega arith, omega arith, fence_before j refl r)

pub trailing_ended : EndsWithThread trailing
trailing_ended t i h = ap (λ (b : Bool). record { before = false; after = b; locked = false }) (holds_past is_sc_store t i h)

pub locking_ended : EndsWithThread locking
locking_ended t i h = ap (λ (b : Bool). record { before = false; after = false; locked = b }) (holds_past is_sc_store t i h)

pub leading_ended : EndsWithThread leading
leading_ended t i h = ap (λ (b : Bool). record { before = b; after = false; locked = false }) (holds_past is_sc_load t i h)

pub trailing_stores : LocksStores trailing
trailing_stores t i h = absurd (false≢true h)

pub locking_stores : LocksStores locking
locking_stores = sc_store_store

pub leading_stores : LocksStores leading
leading_stores t i h = absurd (false≢true h)
