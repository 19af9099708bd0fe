-- What an event does, and which event has which number: 8 × thread + place for a statement, then the initial writes of x, y, z and w.
use Rattle.std.specs.Prelude.{ℕ, ◌-◌, Bool, true, false, cond, List, [], ◌∷◌, Some, None, Option, nat_lt, slice_index_or}
use Rattle.std.specs.List.{slice_get}
use Rattle.lang.specs.Numbering.{location_index}
use Rattle.lang.specs.declared.syntax.Mode.{Mode}
use Rattle.lang.specs.declared.syntax.Mode.TheVariants.{Relaxed}
use Rattle.lang.specs.declared.syntax.Location.{Location}
use Rattle.lang.specs.declared.syntax.Location.TheVariants.{X, Y, Z, W}
use Rattle.events.specs.declared.event.Event.{Event}
use Rattle.events.specs.declared.event.Event.TheVariants.{Load, Store, Update, Fence}
use Rattle.events.specs.declared.event.Access.{Access}

-- Where an event reads, and which value; a store and a fence read nothing.
abbrev pub read_by : Event → Option Access
read_by (Load l m v) = Some (record { location = l; value = v })
read_by (Store l m v) = None
read_by (Update l m v u) = Some (record { location = l; value = v })
read_by (Fence m) = None

-- Where an event writes, and which value; a load and a fence write nothing.
abbrev pub written_by : Event → Option Access
written_by (Load l m v) = None
written_by (Store l m v) = Some (record { location = l; value = v })
written_by (Update l m v u) = Some (record { location = l; value = u })
written_by (Fence m) = None

abbrev pub is_fence : Event → Bool
is_fence (Load l m v) = false
is_fence (Store l m v) = false
is_fence (Update l m v u) = false
is_fence (Fence m) = true

abbrev pub mode_of : Event → Mode
mode_of (Load l m v) = m
mode_of (Store l m v) = m
mode_of (Update l m v u) = m
mode_of (Fence m) = m

-- The number of an event's location; 0 for a fence, which has none.
abbrev pub location_of : Event → ℕ
location_of (Load l m v) = location_index l
location_of (Store l m v) = location_index l
location_of (Update l m v u) = location_index l
location_of (Fence m) = 0

-- The initial write of a location: 0.
abbrev pub initial_write : Location → Event
initial_write l = Store l Relaxed 0

-- The event of a number: below 32 that of a statement, then the four initial writes, then none.
abbrev pub event_at : List (Option Event) → ℕ → Option Event
event_at events e = cond (nat_lt e 32) (slice_index_or events e None) (slice_get (initial_write X ∷ initial_write Y ∷ initial_write Z ∷ initial_write W ∷ []) (e - 32))

-- What is said of an event that may be absent.
abbrev pub said : {A : Type 0} → (Event → A) → A → Option Event → A
said f none (Some e) = f e
said f none None = none

abbrev pub read_at : List (Option Event) → ℕ → Option Access
read_at events e = said read_by None (event_at events e)

abbrev pub written_at : List (Option Event) → ℕ → Option Access
written_at events e = said written_by None (event_at events e)
