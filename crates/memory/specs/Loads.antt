-- What a load takes: the newest store to its location that waits in its own thread's buffer, else what memory holds.
use Rattle.std.specs.Prelude.{ℕ, List, Some, None, slice_index}
use Rattle.lang.specs.Numbering.{location_index}
use Rattle.lang.specs.declared.syntax.Location.{Location}
use Rattle.buffers.specs.declared.buffer.Pending.{Pending}
use Rattle.buffers.specs.Buffers.{newest}
use Rattle.memory.specs.declared.memory.Memory.{Memory}
use Rattle.memory.specs.declared.memory.Reading.{Reading}
use Rattle.memory.specs.Memories.{newest_write}

abbrev pub taken : List Pending → Memory → Location → Reading
taken buffer m l =
    elim (newest buffer l) [
      | Some p ↦ record { value = p.value; source = p.event }
      | None ↦ record { value = slice_index m.values (location_index l); source = newest_write m l }
    ]
