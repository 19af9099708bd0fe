use Rattle.std.proofs.Common.{◌≡◌}
use Rattle.graph.specs.Execution.{view}
use Rattle.consistency.specs.Computed.{hb_rows}
use Rattle.consistency.proofs.Agreement.{shows_hb}
use Rattle.consistency.proofs.Bounds.{bounded}
use Rattle.rc11.proofs.verdicts.happens_before.Goals as goal

pub returns-clause-tells : goal.returns-clause-tells
returns-clause-tells c =
    let rows : c.happens.result.rows ≡ hb_rows (view c.args.graph.now) = cc in
    rw rows (shows_hb _ (bounded c.args.graph.now)).tells
