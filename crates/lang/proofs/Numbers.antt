-- The locations by their numbers.
use Rattle.std.proofs.Common.{◌≡◌, ℕ, zero, suc, ◌<◌, [], ◌∷◌, get_or, refl, arith}
use Rattle.lang.specs.declared.syntax.Location.{Location}
use Rattle.lang.specs.declared.syntax.Location.TheVariants.{X, Y, Z, W}
use Rattle.lang.specs.Numbering.{location_index}

pub number_of : (k : ℕ) (x : Location) → k < 4 → location_index (get_or (X ∷ Y ∷ Z ∷ W ∷ []) k x) ≡ k
number_of zero x h = refl
number_of (suc zero) x h = refl
number_of (suc (suc zero)) x h = refl
number_of (suc (suc (suc zero))) x h = refl
number_of (suc (suc (suc (suc k)))) x h = absurd (omega (arith, h))
