use Rattle.std.proofs.Common.{◌≡◌, ◌<◌, true, [], map, length, get_or, rules, tests, refl}
use Rattle.std.proofs.lemmas.Iterator.{YieldsList-from_range}
use Rattle.lang.specs.Numbering.{location_index}
use Rattle.lang.proofs.Asking.{decided_below}
use Rattle.orders.specs.Orders.{members, position}
use Rattle.graph.specs.Formed.{writes_to}
use Rattle.graph.proofs.Fitting.{each_below_36}
use Rattle.graph.proofs.check.Parts.holds_each.Goals as goal

pub returns : goal.returns
returns c =
    let events = c.args.self.now.events.now in
    let l = location_index c.args.location in
    let order = get_or (map members c.args.self.now.mo.now) l [] in
    each_below_36 events l order c.all.result
    (decided_below (λ w. writes_to events l w ≡ true → position order w < length order) 36 _ _ c.all.result c.all.ensures.ran (YieldsList-from_range 0 36 36 refl refl) (λ x b q k. search (rules, tests)))
