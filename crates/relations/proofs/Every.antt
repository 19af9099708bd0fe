-- When all events below a number pass a test.
use Rattle.std.proofs.Common.{◌≡◌, ℕ, ◌<◌, Bool, true, false, Decides, sym, refl, inl, inr}
use Rattle.std.proofs.lemmas.Bool.{cases_Bool, both_ways}
use Rattle.std.proofs.lemmas.Bool.Decides.{Decides-below_and}
use Rattle.relations.specs.Rows.{every}

pub every_tells : (n : ℕ) (test : ℕ → Bool) → Decides (every n test) ((k : ℕ) → k < n → test k ≡ true)
unfolding every
every_tells n test = Decides-below_and test (λ k. test k ≡ true) (λ m. every m test) (λ k. (λ e. e, λ e. e)) refl (λ m. refl) n

pub every_below : (n : ℕ) (test : ℕ → Bool) → every n test ≡ true → (k : ℕ) → k < n → test k ≡ true
every_below n test = (every_tells n test).0
