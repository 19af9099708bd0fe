-- What a register holds: one place further on, and after the last place, where it is the last value read.
use Rattle.std.proofs.Common.{◌≡◌, ℕ, zero, suc, ◌+◌, ◌≤◌, true, false, List, Option, sym, refl, ap, ◌∙◌, subst, inl, inr, add-one, arith}
use Rattle.std.proofs.lemmas.Bool.{cond-true, cond-false, cond_both, both_ways, false≢true, cases_eq}
use Rattle.lang.specs.declared.syntax.Statement.{Statement}
use Rattle.programs.specs.Parts.{Program, bodies}
use Rattle.events.specs.declared.event.Event.{Event}
use Rattle.outcomes.specs.Values.{reads_into, fills, value_read, held}
use Rattle.outcomes.specs.Outcomes.{LastRead}
use Rattle.outcomes.specs.Outcomes.LastRead.{never, lastly}
use Rattle.outcomes.proofs.Limits.{no_statement}

module _ (ts : List (List Statement)) (events : List (Option Event)) (t r : ℕ) where
  pub held_none : 0 ≡ held ts events t r 0
  unfolding held
  held_none = refl

  -- A statement that reads into the register fills it, and any other leaves it.
  pub held_filled : (p : ℕ) → fills ts t r p ≡ true → value_read events t p ≡ held ts events t r (p + 1)
  unfolding held
  held_filled p e = rw add-one (sym (cond-true (fills ts t r p) (value_read events t p) (held ts events t r p) e))

  pub held_left : (p : ℕ) → fills ts t r p ≡ false → held ts events t r p ≡ held ts events t r (p + 1)
  unfolding held
  held_left p e = rw add-one (sym (cond-false (fills ts t r p) (value_read events t p) (held ts events t r p) e))

  -- Where no place from n on fills the register, it holds the last value read.
  last_of : (n : ℕ) → ((q : ℕ) → n ≤ q → fills ts t r q ≡ true → ⊥) → LastRead ts events t r (held ts events t r n)
  unfolding held
  last_of zero none = never (λ p e. none p (omega arith) e)
  last_of (suc p) none =
      let before : fills ts t r p ≡ false → (q : ℕ) → p ≤ q → fills ts t r q ≡ true → ⊥ =
      λ e q l f. elim (cases_eq q p) [
        | inl s ↦ both_ways (fills ts t r p) e (subst (λ x. fills ts t r x ≡ true) s f)
        | inr s ↦ none q (omega arith) f
      ] in
      cond_both (fills ts t r p) (value_read events t p) (held ts events t r p) (LastRead ts events t r) (λ e. lastly p e (λ q l. none q (omega arith))) (λ e. last_of p (before e))

-- After its eight places a thread of a program holds the last values read.
pub last_read : (p : Program) (events : List (Option Event)) (t r : ℕ) → LastRead (bodies p) events t r (held (bodies p) events t r 8)
last_read p events t r =
    last_of (bodies p) events t r 8 (λ q h f. false≢true (sym (ap (λ (o : Option Statement). reads_into o r) (no_statement p t q h)) ∙ f))
