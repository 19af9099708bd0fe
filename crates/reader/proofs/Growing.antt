-- Reading piece after piece in a loop: what was read so far stands in front of what reading the rest answers.
use Rattle.std.proofs.Common.{ℕ, ◌-◌, List, ◌++◌, length, Ok, Result}
use Rattle.faults.specs.declared.Fault.{Fault}
use Rattle.grammar.specs.Pieces.{Piece}
use Rattle.grammar.specs.Answer.{and_then, read_each}

-- The answer, once xs are read and the pieces ps are still to be read, where at most n in all may be.
abbrev pub reading : {X : Type 0} → (ℕ → Fault) → (Piece → Result X Fault) → ℕ → List X → List Piece → Result (List X) Fault
reading over read n xs ps = and_then (read_each (n - length xs) over read ps) (λ ys. Ok (xs ++ ys))
