use Rattle.std.proofs.Common.{rules}
use Rattle.relations.specs.Rows.{passes}
use Rattle.relations.specs.declared.rows.Relation.{Relation}
use Rattle.relations.proofs.Chains.{fold_below}
use Rattle.relations.proofs.rows.Relation.closure.Goals as goal

pub returns : goal.returns
unfolding passes
returns c = fold_below _ _ (λ (r : Relation). r.rows) (λ n. passes n c.args.self.now.rows) 36 (λ k b r q l p e. search rules) _ _ _ (cc) (cc) c.fold.ensures.ran
