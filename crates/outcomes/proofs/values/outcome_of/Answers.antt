use Rattle.std.proofs.Common.{map, rules, tests, sym, subst}
use Rattle.lang.proofs.Making.{made_by}
use Rattle.programs.specs.Parts.{bodies}
use Rattle.orders.specs.Orders.{members}
use Rattle.outcomes.specs.Outcomes.{outcome_value, OutcomeOf}
use Rattle.outcomes.proofs.Final.{filled, meant}
use Rattle.outcomes.proofs.values.outcome_of.Goals as goal

pub returns-clause-value : goal.returns-clause-value
returns-clause-value c =
    let g = c.args.graph.now in
    filled c.args.program.now _ _ _ (made_by (outcome_value (bodies c.args.program.now) g.events (map members g.mo)) _ c.from_fn.result 20 (λ x y q h k. search (rules, tests)) c.from_fn.ensures.items)

pub returns-clause-meaning : goal.returns-clause-meaning
returns-clause-meaning c =
    let g = c.args.graph.now in
    subst (OutcomeOf (bodies c.args.program.now) g.events (map members g.mo)) (sym (returns-clause-value c)) (meant c.args.program.now g.events (map members g.mo))
