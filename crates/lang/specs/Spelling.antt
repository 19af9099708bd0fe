-- How each part of a program is written: the names, and the canonical form of a statement.
use Rattle.std.specs.Prelude.{ℕ, List, ◌++◌, codes, decimal}
use Rattle.lang.specs.declared.syntax.Mode.{Mode}
use Rattle.lang.specs.declared.syntax.Mode.TheVariants.{Relaxed, Acquire, Release, AcquireRelease, SeqCst}
use Rattle.lang.specs.declared.syntax.Location.{Location}
use Rattle.lang.specs.declared.syntax.Location.TheVariants.{X, Y, Z, W}
use Rattle.lang.specs.declared.syntax.Register.{Register}
use Rattle.lang.specs.declared.syntax.Register.TheVariants.{R0, R1, R2, R3}
use Rattle.lang.specs.declared.syntax.Operand.{Operand}
use Rattle.lang.specs.declared.syntax.Operand.TheVariants.{Held, Value}
use Rattle.lang.specs.declared.syntax.Statement.{Statement}
use Rattle.lang.specs.declared.syntax.Statement.TheVariants.{Load, Store, Exchange, Add, Fence}

abbrev pub mode_name : Mode → List ℕ
mode_name Relaxed = codes "rlx"
mode_name Acquire = codes "acq"
mode_name Release = codes "rel"
mode_name AcquireRelease = codes "ar"
mode_name SeqCst = codes "sc"

abbrev pub location_name : Location → List ℕ
location_name X = codes "x"
location_name Y = codes "y"
location_name Z = codes "z"
location_name W = codes "w"

abbrev pub register_name : Register → List ℕ
register_name R0 = codes "r0"
register_name R1 = codes "r1"
register_name R2 = codes "r2"
register_name R3 = codes "r3"

-- A number is written in decimal, with no zero in front.
abbrev pub operand_text : Operand → List ℕ
operand_text (Held r) = register_name r
operand_text (Value v) = decimal v

-- One space after each word but the last.
abbrev pub statement_text : Statement → List ℕ
statement_text (Load r l m) = codes "ld " ++ (register_name r ++ (codes " " ++ (location_name l ++ (codes " " ++ mode_name m))))
statement_text (Store l v m) = codes "st " ++ (location_name l ++ (codes " " ++ (operand_text v ++ (codes " " ++ mode_name m))))
statement_text (Exchange r l v m) = codes "xchg " ++ (register_name r ++ (codes " " ++ (location_name l ++ (codes " " ++ (operand_text v ++ (codes " " ++ mode_name m))))))
statement_text (Add r l v m) = codes "add " ++ (register_name r ++ (codes " " ++ (location_name l ++ (codes " " ++ (operand_text v ++ (codes " " ++ mode_name m))))))
statement_text (Fence m) = codes "fence " ++ mode_name m
