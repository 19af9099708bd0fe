use Rattle.std.proofs.Common.{◌≡◌}
use Rattle.graph.specs.Execution.{view}
use Rattle.relations.specs.Rows.{pairs_below}
use Rattle.consistency.specs.Computed.{hb_rows}
use Rattle.consistency.proofs.Bounds.{bounded}
use Rattle.consistency.proofs.Pairs.{hb_number}
use Rattle.rc11.proofs.verdicts.hb_pairs.Goals as goal

pub returns-clause-number : goal.returns-clause-number
returns-clause-number c =
    let count : c.statement_pairs.result ≡ pairs_below 32 (hb_rows (view c.args.graph.now)) = cc in
    rw count (hb_number _ (bounded c.args.graph.now))
