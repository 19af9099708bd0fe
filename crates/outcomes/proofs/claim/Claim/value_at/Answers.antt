use Rattle.std.proofs.Common.{map, sym, ap, ◌∙◌, arith}
use Rattle.std.proofs.lemmas.Bool.{cond-false, le-ltb}
use Rattle.lang.proofs.Numbers.{number_of}
use Rattle.orders.specs.Orders.{members}
use Rattle.outcomes.specs.Outcomes.{location_value}
use Rattle.outcomes.proofs.claim.Claim.value_at.Goals as goal

pub returns-else-at-lt-REGISTER_VALUES : goal.returns-else-at-lt-REGISTER_VALUES
returns-else-at-lt-REGISTER_VALUES c =
    let g = c.args.self.now.graph.now in
    c.location_value.ensures
    ∙ ap (location_value g.events (map members g.mo)) (number_of _ _ (omega arith))
    ∙ sym (cond-false _ _ _ (le-ltb c.args.at 16 (omega arith)))
