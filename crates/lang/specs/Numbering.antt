-- Locations and registers are numbered in the order of their names.
use Rattle.std.specs.Prelude.{ℕ}
use Rattle.lang.specs.declared.syntax.Location.{Location}
use Rattle.lang.specs.declared.syntax.Location.TheVariants.{X, Y, Z, W}
use Rattle.lang.specs.declared.syntax.Register.{Register}
use Rattle.lang.specs.declared.syntax.Register.TheVariants.{R0, R1, R2, R3}

abbrev pub location_index : Location → ℕ
location_index X = 0
location_index Y = 1
location_index Z = 2
location_index W = 3

abbrev pub register_index : Register → ℕ
register_index R0 = 0
register_index R1 = 1
register_index R2 = 2
register_index R3 = 3
