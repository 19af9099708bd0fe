-- Outcomes: r0 to r3 of threads 0 to 3, then x, y, z and w; 20 values in all.
use Rattle.std.specs.Prelude.{◌≡◌, ℕ, ◌+◌, ◌-◌, ◌*◌, ◌/◌, ◌%◌, ◌<◌, true, cond, List, [], map, length, Option, ◌≢◌, nat_lt, slice_index, slice_index_or}
use Rattle.std.specs.List.{range_with_len}
use Rattle.lang.specs.declared.syntax.Statement.{Statement}
use Rattle.events.specs.declared.event.Event.{Event}
use Rattle.events.specs.Events.{written_at}
use Rattle.orders.specs.Orders.{final}
use Rattle.outcomes.specs.Values.{fills, value_of, value_read, held}

-- What a location holds at the end.
abbrev pub location_value : List (Option Event) → List (List ℕ) → ℕ → ℕ
location_value events orders l = value_of (written_at events (final (slice_index_or orders l [])))

abbrev pub outcome_value : List (List Statement) → List (Option Event) → List (List ℕ) → ℕ → ℕ
outcome_value ts events orders i = cond (nat_lt i 16) (held ts events (i / 4) (i % 4) 8) (location_value events orders (i - 16))

-- The outcome, computed.
unfoldable pub outcome_of : List (List Statement) → List (Option Event) → List (List ℕ) → List ℕ
outcome_of ts events orders = map (outcome_value ts events orders) (range_with_len 0 20)

-- A register has the last value read into it by its thread, else 0.
pub data LastRead (ts : List (List Statement)) (events : List (Option Event)) (t r : ℕ) : ℕ → Type 0 where
  never : ((p : ℕ) → fills ts t r p ≢ true) → LastRead ts events t r 0
  lastly : (p : ℕ) → fills ts t r p ≡ true → ((q : ℕ) → p < q → fills ts t r q ≢ true) → LastRead ts events t r (value_read events t p)

-- The outcome of a graph of threads within the limits, in those words.
pub record OutcomeOf (ts : List (List Statement)) (events : List (Option Event)) (orders : List (List ℕ)) (values : List ℕ) : Type 0 where
  pub count : length values ≡ 20
  pub registers : (t r : ℕ) → t < 4 → r < 4 → LastRead ts events t r (slice_index values (4 * t + r))
  pub locations : (l : ℕ) → l < 4 → slice_index values (16 + l) ≡ location_value events orders l

-- xs comes before ys: at the first place where they differ it has the lower value.
pub record Precedes (xs ys : List ℕ) : Type 0 where
  pub place : ℕ
  pub inside : place < 20
  pub same : (k : ℕ) → k < place → slice_index xs k ≡ slice_index ys k
  pub lower : slice_index xs place < slice_index ys place
