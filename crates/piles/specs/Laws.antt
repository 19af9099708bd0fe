-- A pile keeps the laws: each published mapping has them, and each layer keeps them, whatever is below.
use Rattle.std.specs.Prelude.{ℕ, List, [], ◌∷◌}
use Rattle.lang.specs.declared.syntax.Statement.{Statement}
use Rattle.mapping.specs.declared.placement.Placement.{Placement}
use Rattle.mapping.specs.Rule.{FenceRule, EndsWithThread, LocksStores}
use Rattle.mapping.specs.Laws.{trailing_fenced, locking_fenced, leading_fenced, trailing_ended, locking_ended, leading_ended, trailing_stores, locking_stores, leading_stores}
use Rattle.layers.specs.Exchanged.{exchanged_fenced, exchanged_ended, exchanged_stores}
use Rattle.layers.specs.Spared.{spared_fenced, spared_ended, spared_stores}
use Rattle.piles.specs.declared.pile.Base.{Base}
use Rattle.piles.specs.declared.pile.Base.TheVariants.{Trailing, Locked, Leading}
use Rattle.piles.specs.declared.pile.Layer.{Layer}
use Rattle.piles.specs.declared.pile.Layer.TheVariants.{Sparing, Exchange}
use Rattle.piles.specs.Piled.{base_meaning, layered, piled}

-- The three laws of a mapping together.
pub record Lawful (f : List Statement → ℕ → Placement) : Type 0 where
  pub fenced : FenceRule f
  pub ended : EndsWithThread f
  pub stores : LocksStores f

base_stores : (b : Base) → LocksStores (base_meaning b)
base_stores Trailing = trailing_stores
base_stores Locked = locking_stores
base_stores Leading = leading_stores

pub base_lawful : (b : Base) → Lawful (base_meaning b)
base_lawful Trailing = record { fenced = trailing_fenced; ended = trailing_ended; stores = base_stores Trailing }
base_lawful Locked = record { fenced = locking_fenced; ended = locking_ended; stores = base_stores Locked }
base_lawful Leading = record { fenced = leading_fenced; ended = leading_ended; stores = base_stores Leading }

layered_lawful : (l : Layer) (f : List Statement → ℕ → Placement) → Lawful f → Lawful (layered l f)
layered_lawful Sparing f h =
    record { fenced = spared_fenced f h.fenced; ended = spared_ended f h.ended; stores = spared_stores f h.stores }
layered_lawful Exchange f h =
    record { fenced = exchanged_fenced f h.fenced; ended = exchanged_ended f h.ended; stores = exchanged_stores f h.stores }

pub piled_lawful : (ls : List Layer) (f : List Statement → ℕ → Placement) → Lawful f → Lawful (piled f ls)
piled_lawful [] f h = h
piled_lawful (l ∷ ls) f h = piled_lawful ls (layered l f) (layered_lawful l f h)
