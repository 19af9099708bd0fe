-- The locations by their numbers.
use Rattle.std.proofs.Common.{ℕ, zero, suc, ◌<◌, Bool, [], ◌∷◌, get_or, Decides, arith}
use Rattle.std.specs.List.{All}
use Rattle.lang.specs.declared.syntax.Location.{Location}
use Rattle.lang.specs.declared.syntax.Location.TheVariants.{X, Y, Z, W}
use Rattle.lang.specs.Numbering.{location_index}

pub index_small : (x : Location) → location_index x < 4
index_small X = omega arith
index_small Y = omega arith
index_small Z = omega arith
index_small W = omega arith

-- What holds of each location's number holds of the numbers below 4.
pub each_number : (Q : ℕ → Type 0) (b : Bool) → Decides b (All (λ x. Q (location_index x)) (X ∷ Y ∷ Z ∷ W ∷ [])) → Decides b ((l : ℕ) → l < 4 → Q l)
each_number Q b d = (
  λ e l h. let all = d.0 e in below_4 l h (all 0 X (omega arith)) (all 1 X (omega arith)) (all 2 X (omega arith)) (all 3 X (omega arith)),
  λ all. d.1 (λ k y h. all (location_index (get_or (X ∷ Y ∷ Z ∷ W ∷ []) k y)) (index_small (get_or (X ∷ Y ∷ Z ∷ W ∷ []) k y))),
)
  where
    below_4 : (l : ℕ) → l < 4 → Q 0 → Q 1 → Q 2 → Q 3 → Q l
    below_4 zero h a b c e = a
    below_4 (suc zero) h a b c e = b
    below_4 (suc (suc zero)) h a b c e = c
    below_4 (suc (suc (suc zero))) h a b c e = e
    below_4 (suc (suc (suc (suc l)))) h a b c e = absurd (omega arith)
