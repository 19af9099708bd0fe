-- An execution of no more than 36 events: what reads, writes or is a fence is present, and the source of a read is one of them.
use Rattle.std.specs.Prelude.{◌≡◌, ℕ, ◌<◌, true}
use Rattle.graph.specs.Execution.{Execution}

pub record Bounded (g : Execution) : Type 0 where
  pub present : (e : ℕ) → g.present e ≡ true → e < 36
  pub reads : (e : ℕ) → g.reads e ≡ true → e < 36
  pub writes : (e : ℕ) → g.writes e ≡ true → e < 36
  pub fence : (e : ℕ) → g.fence e ≡ true → e < 36
  pub source : (e : ℕ) → g.reads e ≡ true → g.source e < 36
