-- Relations between events, given by their numbers, and how they are put together.
use Rattle.std.specs.Prelude.{◌≡◌, ℕ, Bool, true}

infixr 20 ◌∪◌
infixr 25 ◌∩◌ ◌∖◌
infixr 30 ◌⨾◌
-- Either of the two.
pub data ◌∪◌ (R S : ℕ → ℕ → Type 0) (a b : ℕ) : Type 0 where
  left : R a b → (R ∪ S) a b
  right : S a b → (R ∪ S) a b

-- Both.
pub record ◌∩◌ (R S : ℕ → ℕ → Type 0) (a b : ℕ) : Type 0 where
  pub one : R a b
  pub other : S a b

-- The first and not the second.
pub record ◌∖◌ (R S : ℕ → ℕ → Type 0) (a b : ℕ) : Type 0 where
  pub one : R a b
  pub lacks : S a b → ⊥

-- A step of the first, then a step of the second.
pub record ◌⨾◌ (R S : ℕ → ℕ → Type 0) (a b : ℕ) : Type 0 where
  pub between : ℕ
  pub first : R a between
  pub second : S between b

-- From an event of a set to itself.
pub record On (A : ℕ → Bool) (a b : ℕ) : Type 0 where
  pub member : A a ≡ true
  pub itself : a ≡ b

-- The same pairs, turned round.
pub record Inverse (R : ℕ → ℕ → Type 0) (a b : ℕ) : Type 0 where
  pub back : R b a

-- One or more steps.
pub data Plus (R : ℕ → ℕ → Type 0) : ℕ → ℕ → Type 0 where
  last : {a b : ℕ} → R a b → Plus R a b
  next : {a b c : ℕ} → R a b → Plus R b c → Plus R a c

-- No event is related to itself.
abbrev pub Irreflexive : (ℕ → ℕ → Type 0) → Type 0
Irreflexive R = (a : ℕ) → R a a → ⊥

-- No steps lead from an event back to it.
abbrev pub Acyclic : (ℕ → ℕ → Type 0) → Type 0
Acyclic R = Irreflexive (Plus R)

-- Every pair of the first is a pair of the second.
abbrev pub Within : (ℕ → ℕ → Type 0) → (ℕ → ℕ → Type 0) → Type 0
Within R S = (a b : ℕ) → R a b → S a b
