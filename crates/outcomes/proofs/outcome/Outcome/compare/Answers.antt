use Rattle.outcomes.proofs.Comparing.{compared}
use Rattle.outcomes.proofs.outcome.Outcome.compare.Goals as goal

pub returns : goal.returns
returns c = compared c.args.self.now.values c.args.other.now.values c.cmp.result c.args.self.now.full c.args.other.now.full c.cmp.ensures
