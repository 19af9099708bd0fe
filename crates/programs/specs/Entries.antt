-- Lists of limited length, as lists.
use Rattle.std.specs.Prelude.{ℕ, List, take}
use Rattle.programs.specs.declared.bounded.Bounded.{Bounded}

-- The entries, in order.
abbrev pub entries : {T : Type 0} {LEAST MOST : ℕ} → Bounded T LEAST MOST → List T
entries list = take list.len list.cells
