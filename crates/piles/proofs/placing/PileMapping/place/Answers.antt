use Rattle.std.proofs.Common.{List, get_or, vec_items, ap, ◌∙◌, arith}
use Rattle.programs.specs.Parts.{body}
use Rattle.programs.proofs.Sizes.{at_most}
use Rattle.mapping.specs.declared.placement.Placement.{Placement}
use Rattle.mapping.specs.Rule.{nothing}
use Rattle.mapping.proofs.Plans.{plan_at}
use Rattle.piles.specs.Piled.{base_meaning, piled}
use Rattle.piles.specs.Laws.{base_lawful, piled_lawful}
use Rattle.piles.proofs.placing.PileMapping.place.Goals as goal

pub returns : goal.returns
returns c =
    let t = body c.args.thread.now in
    let ls = vec_items c.args.self.now.layers in
    let b = c.args.self.now.base in
    c.planned.ensures
    ∙ ap (λ (ps : List Placement). get_or ps c.args.at nothing) c.plan.ensures
    ∙ plan_at (piled (base_meaning b) ls t) (λ i h. (piled_lawful ls (base_meaning b) (base_lawful b)).ended t i (omega (arith, at_most c.args.thread.now))) c.args.at
