-- What a load finds in its thread's store buffer.
use Rattle.std.specs.Prelude.{Bool, List, reverse, Option, nat_eq}
use Rattle.std.specs.List.{find}
use Rattle.lang.specs.Numbering.{location_index}
use Rattle.lang.specs.declared.syntax.Location.{Location}
use Rattle.buffers.specs.declared.buffer.Pending.{Pending}

-- If a store goes to a location.
abbrev pub goes_to : Location → Pending → Bool
goes_to l p = nat_eq (location_index p.location) (location_index l)

-- The newest store to a location: the first one from the back.
abbrev pub newest : List Pending → Location → Option Pending
newest ps l = find (goes_to l) (reverse ps)
