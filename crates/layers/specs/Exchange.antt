-- The layer that locks a store in place of the fence after it.
use Rattle.std.specs.Prelude.{ℕ, Bool, not, ◌&&◌, ◌||◌, List}
use Rattle.lang.specs.declared.syntax.Statement.{Statement}
use Rattle.mapping.specs.declared.placement.Placement.{Placement}
use Rattle.mapping.specs.Kinds.{is_store, holds_at}

-- An unlocked `st` with a fence after it becomes a locked one without that fence.
abbrev pub swaps_one : Bool → Placement → Bool
swaps_one store p = store && (not p.locked && p.after)

abbrev pub swapped : Bool → Placement → Placement
swapped store p =
    record { before = p.before; after = p.after && not (swaps_one store p); locked = p.locked || swaps_one store p }

abbrev pub swaps : (ℕ → Placement) → List Statement → ℕ → Bool
swaps f t i = swaps_one (holds_at is_store t i) (f i)

abbrev pub exchanged_at : (ℕ → Placement) → List Statement → ℕ → Placement
exchanged_at f t i = swapped (holds_at is_store t i) (f i)

abbrev pub exchanged : (List Statement → ℕ → Placement) → List Statement → ℕ → Placement
exchanged f t i = exchanged_at (f t) t i
