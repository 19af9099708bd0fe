use Rattle.std.proofs.Common.{rules}
use Rattle.relations.specs.Rows.{gathered}
use Rattle.relations.proofs.Chains.{fold_below}
use Rattle.relations.proofs.rows.Relation.image.Goals as goal

pub returns : goal.returns
unfolding gathered
returns c = fold_below _ _ (λ b. b) (λ n. gathered n c.args.set c.args.self.now.rows) 36 (λ k b r q l p e. search rules) _ _ _ (cc) (cc) c.fold.ensures.ran
