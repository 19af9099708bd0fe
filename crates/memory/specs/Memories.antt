-- What memory holds, as lists: a value for each location, and for each the writes that reached it.
use Rattle.std.specs.Prelude.{ℕ, ◌-◌, List, [], ◌∷◌, map, length, slice_index, slice_index_or}
use Rattle.lang.specs.Numbering.{location_index}
use Rattle.lang.specs.declared.syntax.Location.{Location}
use Rattle.programs.specs.Entries.{entries}
use Rattle.memory.specs.declared.memory.Memory.{Memory}

-- All locations hold 0, by their initial writes.
abbrev pub initial_values : List ℕ
initial_values = 0 ∷ 0 ∷ 0 ∷ 0 ∷ []

abbrev pub initial_orders : List (List ℕ)
initial_orders = (32 ∷ []) ∷ (33 ∷ []) ∷ (34 ∷ []) ∷ (35 ∷ []) ∷ []

-- The writes that reached each location, in order.
abbrev pub orders_of : Memory → List (List ℕ)
orders_of m = map entries m.mo

abbrev pub writes_at : Memory → Location → List ℕ
writes_at m l = slice_index_or (orders_of m) (location_index l) []

-- The last of them, which left what the location holds.
abbrev pub newest_write : Memory → Location → ℕ
newest_write m l = slice_index (writes_at m l) (length (writes_at m l) - 1)
