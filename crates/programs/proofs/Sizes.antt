-- How many entries a list of limited length has.
use Rattle.std.proofs.Common.{ℕ, ◌≤◌, length, arith}
use Rattle.std.proofs.lemmas.List.{length-take}
use Rattle.programs.specs.declared.bounded.Bounded.{Bounded}
use Rattle.programs.specs.Entries.{entries}

pub at_most : {T : Type 0} {LEAST MOST : ℕ} (list : Bounded T LEAST MOST) → length (entries list) ≤ MOST
at_most list = omega (arith, length-take list.len list.cells, list.few)
