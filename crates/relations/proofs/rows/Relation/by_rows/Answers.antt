use Rattle.std.proofs.Common.{rules, lit<, ◌∙◌}
use Rattle.relations.proofs.Filling.{made_all, made_safely}
use Rattle.relations.proofs.rows.Relation.by_rows.Goals as goal

pub from_fn-rows-requires : goal.from_fn-rows-requires
from_fn-rows-requires g c = (lit< tt, made_safely _ _ _ (λ i y q k. search rules) (λ i l. search rules))

pub returns : goal.returns
returns g c = λ f h. c.new.ensures ∙ made_all _ _ f (λ i y q l k. search rules) _ c.from_fn-rows.ensures.items
