-- What the three published mappings place.
use Rattle.std.specs.Prelude.{ℕ, false, List}
use Rattle.lang.specs.declared.syntax.Statement.{Statement}
use Rattle.mapping.specs.declared.placement.Placement.{Placement}
use Rattle.mapping.specs.Kinds.{is_sc_store, is_sc_load, holds_at}

-- A fence after each sc `st`.
abbrev pub trailing : List Statement → ℕ → Placement
trailing t i = record { before = false; after = holds_at is_sc_store t i; locked = false }

-- Each sc `st` locked.
abbrev pub locking : List Statement → ℕ → Placement
locking t i = record { before = false; after = false; locked = holds_at is_sc_store t i }

-- A fence before each sc `ld`.
abbrev pub leading : List Statement → ℕ → Placement
leading t i = record { before = holds_at is_sc_load t i; after = false; locked = false }
