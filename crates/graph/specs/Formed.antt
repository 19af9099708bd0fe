-- What every graph has: its sources and its orders fit its events.
use Rattle.std.specs.Prelude.{◌≡◌, ℕ, ◌+◌, ◌<◌, Bool, true, false, not, ◌&&◌, List, [], length, is_some, Some, None, Option, ◌==◌, nat_eq, slice_index, slice_index_or}
use Rattle.lang.specs.Numbering.{location_index}
use Rattle.events.specs.declared.event.Event.{Event}
use Rattle.events.specs.declared.event.Access.{Access}
use Rattle.events.specs.Events.{read_at, written_at}
use Rattle.orders.specs.Orders.{position}

-- If what is written is what is read: the same value at the same location.
abbrev pub agree : Option Access → Option Access → Bool
agree (Some w) (Some r) = location_index w.location == location_index r.location && w.value == r.value
agree (Some w) None = false
agree None (Some r) = false
agree None None = false

-- If the source of event r fits it: where it reads, another event that writes what it reads; where it does not, none.
abbrev pub source_fits : List (Option Event) → List (Option ℕ) → ℕ → Bool
source_fits events sources r = elim (slice_index_or sources r None) [ Some s ↦ not (s == r) && agree (written_at events s) (read_at events r) | None ↦ not (is_some (read_at events r)) ]

-- If event w writes to location l.
abbrev pub writes_to : List (Option Event) → ℕ → ℕ → Bool
writes_to events l w = elim (written_at events w) [ Some a ↦ nat_eq (location_index a.location) l | None ↦ false ]

-- There is a location l, and its order has a place i.
abbrev pub Stands : List (List ℕ) → ℕ → ℕ → Type 0
Stands orders l i = (l < 4) × (i < length (slice_index_or orders l []))

-- The order of each location begins with its initial write,
abbrev pub Begins : List (List ℕ) → Type 0
Begins orders = (l : ℕ) → l < 4 → slice_index (slice_index_or orders l []) 0 ≡ 32 + l

-- holds nothing but writes of the location,
abbrev pub OnlyWrites : List (Option Event) → List (List ℕ) → Type 0
OnlyWrites events orders = (l i : ℕ) → Stands orders l i → writes_to events l (slice_index (slice_index_or orders l []) i) ≡ true

-- all of them,
abbrev pub AllWrites : List (Option Event) → List (List ℕ) → Type 0
AllWrites events orders = (l w : ℕ) → writes_to events l w ≡ true → position (slice_index_or orders l []) w < length (slice_index_or orders l [])

-- and none twice: what stands at place i stands at none before.
abbrev pub EachOnce : List (List ℕ) → Type 0
EachOnce orders = (l i : ℕ) → Stands orders l i → position (slice_index_or orders l []) (slice_index (slice_index_or orders l []) i) ≡ i

-- The same of one order and its location.
pub record OrderFits (events : List (Option Event)) (order : List ℕ) (l : ℕ) : Type 0 where
  pub begins : slice_index order 0 ≡ 32 + l
  pub only : (i : ℕ) → i < length order → writes_to events l (slice_index order i) ≡ true
  pub all : (w : ℕ) → writes_to events l w ≡ true → position order w < length order
  pub once : (i : ℕ) → i < length order → position order (slice_index order i) ≡ i

-- Event w is a write of location l and stands in its order at place i, and at none before.
abbrev pub StandsFirst : List (Option Event) → List ℕ → ℕ → ℕ → ℕ → Type 0
StandsFirst events order l i w = (writes_to events l w ≡ true) × (position order w ≡ i)

-- Parts that are those of a graph.
pub record Formed (events : List (Option Event)) (sources : List (Option ℕ)) (orders : List (List ℕ)) : Type 0 where
  pub rf : (r : ℕ) → r < 32 → source_fits events sources r ≡ true
  pub begins : Begins orders
  pub only : OnlyWrites events orders
  pub all : AllWrites events orders
  pub once : EachOnce orders
