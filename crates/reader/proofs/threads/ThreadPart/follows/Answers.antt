use Rattle.std.proofs.Common.{ap}
use Rattle.reader.proofs.Lines.{passes}
use Rattle.reader.proofs.threads.ThreadPart.follows.Goals as goal

pub returns-then-skip-clause-cases : goal.returns-then-skip-clause-cases
returns-then-skip-clause-cases c =
    passes c.is_at_end.result _ _ _ _ (ap (λ t. t.now) c.skip.ensures.same) c.if-skip.ensures.cases.0 c.if-skip.ensures.cases.2 c.is_at_end.ensures
