use Rattle.std.proofs.Common.{rules}
use Rattle.relations.proofs.Chains.{all_below}
use Rattle.relations.proofs.questions.contained.Goals as goal

pub returns : goal.returns
returns c = all_below _ _ _ 36 _ _ _ (cc) (λ k b q h. search rules) c.all.ensures.ran
