use Rattle.std.proofs.Common.{ap}
use Rattle.reader.proofs.Looking.{passes}
use Rattle.reader.proofs.threads.StatementPart.follows.Goals as goal

pub returns-clause-cases : goal.returns-clause-cases
returns-clause-cases c = passes c.skip.result _ _ _ _ (ap (λ t. t.now) c.skip.ensures.same) c.requires c.skip.ensures.cases
