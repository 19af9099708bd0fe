use Rattle.std.proofs.Common.{ℕ, [], ◌∷◌, map, get_or, rules, tests}
use Rattle.std.proofs.lemmas.Iterator.{YieldsList-from_slice}
use Rattle.lang.specs.Numbering.{location_index}
use Rattle.lang.specs.declared.syntax.Location.TheVariants.{X, Y, Z, W}
use Rattle.lang.proofs.Asking.{decided_all}
use Rattle.orders.specs.Orders.{members}
use Rattle.graph.specs.Formed.{OrderFits}
use Rattle.graph.proofs.Locations.{each_number}
use Rattle.graph.proofs.check.Parts.orders_fit.Goals as goal

pub returns : goal.returns
returns c =
    let fits : ℕ → Type 0 = λ l. OrderFits c.args.self.now.events.now (get_or (map members c.args.self.now.mo.now) l []) l in
    each_number fits c.all.result (decided_all {xs = X ∷ Y ∷ Z ∷ W ∷ []} (λ x. fits (location_index x)) X _ _ c.all.result c.all.ensures.ran (YieldsList-from_slice _ cc) (λ x b q k. search (rules, tests)))
