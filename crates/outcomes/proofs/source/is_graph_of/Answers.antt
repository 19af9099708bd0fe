use Rattle.std.proofs.Common.{ℕ, ◌/◌, ◌%◌, rules, tests, refl}
use Rattle.std.proofs.lemmas.Iterator.{YieldsList-from_range}
use Rattle.lang.proofs.Asking.{decided_below}
use Rattle.programs.specs.Parts.{bodies}
use Rattle.outcomes.specs.Source.{EventFits}
use Rattle.outcomes.proofs.Events.{each_event}
use Rattle.outcomes.proofs.source.is_graph_of.Goals as goal

pub returns : goal.returns
returns c =
    let fits : ℕ → ℕ → Type 0 = EventFits (bodies c.args.program.now) c.args.graph.now.events in
    each_event fits c.all.result (decided_below (λ e. fits (e / 8) (e % 8)) 32 _ _ c.all.result c.all.ensures.ran (YieldsList-from_range 0 32 32 refl refl) (λ x b q k. search (rules, tests)))
