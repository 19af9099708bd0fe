-- The pairs of hb that are counted are just those of statement events.
use Rattle.std.proofs.Common.{refl, arith}
use Rattle.relations.specs.Rows.{related, pairs_below}
use Rattle.graph.specs.Execution.{Execution}
use Rattle.consistency.specs.Relations.{Hb}
use Rattle.consistency.specs.Computed.{hb_rows}
use Rattle.consistency.specs.Bounded.{Bounded}
use Rattle.consistency.specs.Counting.{NumberOfPairs}
use Rattle.consistency.proofs.Agreement.{shows_hb}

pub hb_number : (g : Execution) → Bounded g → NumberOfPairs (Hb g) (pairs_below 32 (hb_rows g))
hb_number g bound = record { test = related (hb_rows g); decides = λ a b h k. (shows_hb g bound).tells a b (omega arith) (omega arith); number = refl }
