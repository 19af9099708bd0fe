use Rattle.graph.proofs.Formedness.{formed_decided}
use Rattle.graph.proofs.check.Parts.fit.Goals as goal

pub returns-then-sources_fit : goal.returns-then-sources_fit
returns-then-sources_fit c = formed_decided (c.sources_fit.ensures.0 c.if-sources_fit.true) c.orders_fit.result c.orders_fit.ensures
