use Rattle.std.proofs.Common.{List, get_or, ap, ◌∙◌, arith}
use Rattle.programs.specs.Parts.{body}
use Rattle.programs.proofs.Sizes.{at_most}
use Rattle.mapping.specs.declared.placement.Placement.{Placement}
use Rattle.mapping.specs.Rule.{nothing}
use Rattle.mapping.proofs.Plans.{plan_at}
use Rattle.layers.specs.Sparing.{spared}
use Rattle.layers.specs.Spared.{spared_ended}
use Rattle.layers.proofs.sparing.SparingMapping.place.Goals as goal

pub returns : goal.returns
returns g c =
    let t = body c.args.thread.now in
    let f = spared (g.M.Mapping.meaning c.args.self.now.0) in
    c.planned.ensures
    ∙ ap (λ (ps : List Placement). get_or ps c.args.at nothing) c.plan.ensures
    ∙ plan_at (f t) (λ i h. spared_ended (g.M.Mapping.meaning c.args.self.now.0) (g.met.M.Mapping.ended c.args.self.now.0) t i (omega (arith, at_most c.args.thread.now))) c.args.at
