use Rattle.std.proofs.Common.{rules}
use Rattle.relations.specs.Rows.{within}
use Rattle.relations.proofs.Chains.{all_below}
use Rattle.relations.proofs.rows.Relation.is_within.Goals as goal

pub returns : goal.returns
unfolding within
returns c = all_below _ _ _ 36 _ _ _ (cc) (λ k b q h. search rules) c.all.ensures.ran
