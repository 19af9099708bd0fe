-- What the mapping places: a fence before each sc `ld` that an `st` of its thread precedes.
use Rattle.std.specs.Prelude.{ℕ, Bool, false, ◌&&◌, List, take}
use Rattle.std.specs.List.{list_any}
use Rattle.lang.specs.declared.syntax.Statement.{Statement}
use Rattle.mapping.specs.declared.placement.Placement.{Placement}
use Rattle.mapping.specs.Kinds.{is_store, is_sc_load, holds_at}

-- If an `st` stands before a place.
abbrev pub preceded : List Statement → ℕ → Bool
preceded t i = list_any is_store (take i t)

abbrev pub watchful : List Statement → ℕ → Placement
watchful t i = record { before = holds_at is_sc_load t i && preceded t i; after = false; locked = false }
