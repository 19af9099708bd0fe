-- What is said of a closure that is called at events: Takes e says that it may be called at e, and Gives e v that it may give v there.
use Rattle.std.specs.Prelude.{◌≡◌, ℕ, ◌<◌}

-- It may be called at each event.
abbrev pub TakesEach : (ℕ → Type 0) → Type 0
TakesEach Takes = (e : ℕ) → e < 36 → Takes e

-- At each event, or at each two, it gives the value of f.
abbrev pub GivesEach : {A : Type 0} → (ℕ → A → Type 0) → (ℕ → A) → Type 0
GivesEach {A} Gives f = (e : ℕ) (v : A) → e < 36 → Gives e v → v ≡ f e

abbrev pub GivesEachTwo : {A : Type 0} → (ℕ → ℕ → A → Type 0) → (ℕ → ℕ → A) → Type 0
GivesEachTwo {A} Gives f = (a b : ℕ) (v : A) → a < 36 → b < 36 → Gives a b v → v ≡ f a b
