-- An execution graph by what its events do: all that the relations of the memory model look at. Values are not part of it.
use Rattle.std.specs.Prelude.{ℕ, Bool, false, List, [], map, is_some, Some, None, Option, slice_index_or}
use Rattle.lang.specs.declared.syntax.Mode.{Mode}
use Rattle.lang.specs.declared.syntax.Mode.TheVariants.{Relaxed}
use Rattle.events.specs.declared.event.Event.{Event}
use Rattle.events.specs.Events.{event_at, said, read_at, written_at, is_fence, mode_of, location_of}
use Rattle.orders.specs.Orders.{members}
use Rattle.graph.specs.declared.graph.Graph.{Graph}

-- The functions go from event numbers; an absent event does nothing. The location of what has none, and the source of what does not read, are 0.
pub record Execution : Type 0 where
  pub present : ℕ → Bool
  pub reads : ℕ → Bool
  pub writes : ℕ → Bool
  pub fence : ℕ → Bool
  pub mode : ℕ → Mode
  pub location : ℕ → ℕ
  pub source : ℕ → ℕ
  -- for each location its writes in order
  pub mo : ℕ → List ℕ

abbrev pub known : Option ℕ → ℕ
known (Some s) = s
known None = 0

abbrev pub execution : List (Option Event) → List (Option ℕ) → List (List ℕ) → Execution
execution events sources orders =
    record {
      present = λ e. is_some (event_at events e);
      reads = λ e. is_some (read_at events e);
      writes = λ e. is_some (written_at events e);
      fence = λ e. said is_fence false (event_at events e);
      mode = λ e. said mode_of Relaxed (event_at events e);
      location = λ e. said location_of 0 (event_at events e);
      source = λ e. known (slice_index_or sources e None);
      mo = λ l. slice_index_or orders l [];
    }

abbrev pub view : Graph → Execution
view g = execution g.events g.sources (map members g.mo)
