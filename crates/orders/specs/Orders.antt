-- The writes of a location in order, as a list of event numbers.
use Rattle.std.specs.Prelude.{ℕ, ◌-◌, List, length, ◌==◌, slice_index}
use Rattle.std.specs.List.{position_or_len}
use Rattle.programs.specs.declared.bounded.Bounded.{Bounded}
use Rattle.programs.specs.Entries.{entries}

-- At most 33 event numbers.
abbrev pub Order : Type 0
Order = Bounded ℕ 0 33

-- The writes of an order, whatever its limits.
abbrev pub members : {LEAST MOST : ℕ} → Bounded ℕ LEAST MOST → List ℕ
members o = entries o

-- The place of the first entry that is e; the length where there is none.
abbrev pub position : List ℕ → ℕ → ℕ
position xs e = position_or_len (λ x. x == e) xs

-- The last entry.
abbrev pub final : List ℕ → ℕ
final order = slice_index order (length order - 1)
