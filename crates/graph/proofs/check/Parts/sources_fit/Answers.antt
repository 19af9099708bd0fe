use Rattle.std.proofs.Common.{◌≡◌, true, rules, tests, refl}
use Rattle.std.proofs.lemmas.Iterator.{YieldsList-from_range}
use Rattle.lang.proofs.Asking.{decided_below}
use Rattle.graph.specs.Formed.{source_fits}
use Rattle.graph.proofs.check.Parts.sources_fit.Goals as goal

pub returns : goal.returns
returns c =
    decided_below (λ r. source_fits c.args.self.now.events.now c.args.self.now.sources.now r ≡ true) 32 _ _ c.all.result c.all.ensures.ran (YieldsList-from_range 0 32 32 refl refl) (λ x b q k. search (rules, tests))
