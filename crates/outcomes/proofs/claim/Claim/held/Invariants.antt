use Rattle.std.proofs.Common.{◌≡◌}
use Rattle.programs.specs.Parts.{bodies}
use Rattle.outcomes.specs.Values.{held}
use Rattle.outcomes.proofs.claim.Claim.held.Given as goal

-- None of the places from here on reads into the register.
abbrev pub invariant-loop-at : goal.invariant-loop-at
invariant-loop-at l = held (bodies l.self.program.now) l.self.graph.now.events l.thread l.register l.at ≡ held (bodies l.self.program.now) l.self.graph.now.events l.thread l.register l.place
