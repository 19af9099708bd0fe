-- The verdicts by number: 0 for a graph that keeps all rules, else the number of the first that it breaks.
use Rattle.std.specs.Prelude.{ℕ, Result, Ok, Err}
use Rattle.consistency.specs.declared.verdict.Rule.{Rule}
use Rattle.consistency.specs.declared.verdict.Rule.TheVariants.{NoThinAir, Coherence, Atomicity, ScOrder}

abbrev pub rule_number : Rule → ℕ
rule_number NoThinAir = 1
rule_number Coherence = 2
rule_number Atomicity = 3
rule_number ScOrder = 4

abbrev pub verdict_number : Result (Unit {0}) Rule → ℕ
verdict_number (Ok _) = 0
verdict_number (Err rule) = rule_number rule
