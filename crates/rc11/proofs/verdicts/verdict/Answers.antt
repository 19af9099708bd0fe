use Rattle.std.proofs.Common.{sym, ◌∙◌}
use Rattle.consistency.proofs.Bounds.{bounded}
use Rattle.consistency.proofs.Verdicts.{verdict_right, verdict_only}
use Rattle.rc11.proofs.verdicts.verdict.Goals as goal

pub returns-clause-first : goal.returns-clause-first
returns-clause-first c = rw c.judge.ensures (verdict_right _ (bounded c.args.graph.now))

pub returns-clause-only : goal.returns-clause-only
returns-clause-only c = λ v t. verdict_only _ (bounded c.args.graph.now) v t ∙ sym c.judge.ensures
