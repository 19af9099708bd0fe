-- The order of a location among those of all.
use Rattle.std.specs.Prelude.{ℕ, List, [], map, slice_index_or}
use Rattle.lang.specs.Numbering.{location_index}
use Rattle.lang.specs.declared.syntax.Location.{Location}
use Rattle.orders.specs.Orders.{Order, members}

abbrev pub order_of : List Order → Location → List ℕ
order_of mo location = slice_index_or (map members mo) (location_index location) []
