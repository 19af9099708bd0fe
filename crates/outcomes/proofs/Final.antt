-- What the values of an outcome mean: first come those of the registers, then those of the locations.
use Rattle.std.proofs.Common.{◌≡◌, ℕ, ◌+◌, ◌-◌, ◌*◌, ◌/◌, ◌%◌, ◌<◌, List, map, get_or, Option, sym, ap, ◌∙◌, subst, arith}
use Rattle.std.proofs.lemmas.List.FromFn.{get_or-map-range_with_len, length-map-range_with_len}
use Rattle.std.proofs.lemmas.Bool.{cond-true, cond-false, lt-ltb, le-ltb}
use Rattle.std.specs.List.{range_with_len}
use Rattle.programs.specs.Parts.{Program, bodies}
use Rattle.events.specs.declared.event.Event.{Event}
use Rattle.outcomes.specs.Values.{held}
use Rattle.outcomes.specs.Outcomes.{location_value, outcome_value, outcome_of, LastRead, OutcomeOf}
use Rattle.outcomes.proofs.Flow.{last_read}

module _ (p : Program) (events : List (Option Event)) (orders : List (List ℕ)) where
  at_place : (k : ℕ) → k < 20 → get_or (outcome_of (bodies p) events orders) k 0 ≡ outcome_value (bodies p) events orders k
  unfolding outcome_of
  at_place k h = get_or-map-range_with_len (outcome_value (bodies p) events orders) 0 20 k k 0 h (omega arith)

  pub filled : (values : List ℕ) → values ≡ map (outcome_value (bodies p) events orders) (range_with_len 0 20) → values ≡ outcome_of (bodies p) events orders
  unfolding outcome_of
  filled values e = e

  of_register : (t r : ℕ) → t < 4 → r < 4 → get_or (outcome_of (bodies p) events orders) (4 * t + r) 0 ≡ held (bodies p) events t r 8
  of_register t r a b =
      let k = 4 * t + r in
      let thread : k / 4 ≡ t = omega arith in
      let register : k % 4 ≡ r = omega arith in
      at_place k (omega arith) ∙ cond-true _ _ _ (lt-ltb k 16 (omega arith)) ∙ ap (λ x. held (bodies p) events x (k % 4) 8) thread ∙ ap (λ x. held (bodies p) events t x 8) register

  of_location : (l : ℕ) → l < 4 → get_or (outcome_of (bodies p) events orders) (16 + l) 0 ≡ location_value events orders l
  of_location l a =
      let k = 16 + l in
      let location : k - 16 ≡ l = omega arith in
      at_place k (omega arith) ∙ cond-false _ _ _ (le-ltb k 16 (omega arith)) ∙ ap (location_value events orders) location

  pub meant : OutcomeOf (bodies p) events orders (outcome_of (bodies p) events orders)
  unfolding outcome_of
  meant =
      record {
        count = length-map-range_with_len (outcome_value (bodies p) events orders) 0 20;
        registers = λ t r a b. subst (LastRead (bodies p) events t r) (sym (of_register t r a b)) (last_read p events t r);
        locations = of_location;
      }
