use Rattle.std.proofs.Common.{◌≡◌, take}
use Rattle.programs.specs.Entries.{entries}
use Rattle.programs.proofs.parts.Bounded+T+0+MOST.of.Given as goal

abbrev pub invariant-loop-entry : goal.invariant-loop-entry
invariant-loop-entry g l = entries l.list ≡ take l.entry-index l.given
