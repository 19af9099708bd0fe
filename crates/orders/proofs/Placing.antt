-- The place of an entry, or else the length.
use Rattle.std.proofs.Common.{◌≡◌, Bool, not, List, length, Some, None, inl, inr, ap, ◌∙◌, arith}
use Rattle.std.proofs.lemmas.Bool.{cases_lt, cond-true, cond-false, lt-ltb, le-ltb}
use Rattle.std.proofs.lemmas.List.Sums.{prefix_len-le-length}
use Rattle.std.specs.List.{position, position_or_len}
use Rattle.std.specs.Option.{unwrap_or}

pub position_or_length : {X : Type 0} (p : X → Bool) (xs : List X) → unwrap_or (position p xs) (length xs) ≡ position_or_len p xs
position_or_length p xs =
    let n = position_or_len p xs in
    elim (cases_lt n (length xs)) [
      | inl lt ↦ ap (λ o. unwrap_or o (length xs)) (cond-true _ (Some n) None (lt-ltb n (length xs) lt))
      | inr ge ↦ ap (λ o. unwrap_or o (length xs)) (cond-false _ (Some n) None (le-ltb n (length xs) ge)) ∙ omega (arith, ge, prefix_len-le-length (λ x. not (p x)) xs)
    ]
