use Rattle.std.proofs.Common.{rules}
use Rattle.relations.specs.Rows.{chosen}
use Rattle.relations.proofs.Chains.{fold_below}
use Rattle.relations.proofs.rows.set_of.Goals as goal

pub returns : goal.returns
unfolding chosen
returns g c = λ p h. fold_below _ _ (λ b. b) (λ n. chosen n p) 36 (λ k b r q l p e. search rules) _ _ _ (cc) (cc) c.fold.ensures.ran
