-- How many pairs of statement events a relation has.
use Rattle.std.specs.Prelude.{◌≡◌, ℕ, ◌<◌, Bool, Decides}
use Rattle.relations.specs.Rows.{counted, summed}

-- n is the number of pairs a, b of statement events, which are those below 32, with R a b.
pub record NumberOfPairs (R : ℕ → ℕ → Type 0) (n : ℕ) : Type 0 where
  -- a test of each pair
  pub test : ℕ → ℕ → Bool
  pub decides : (a b : ℕ) → a < 32 → b < 32 → Decides (test a b) (R a b)
  pub number : n ≡ summed 32 (λ a. counted 32 (test a))
