use Rattle.std.proofs.Common.{◌≡◌, ℕ, List, map, drop}
use Rattle.std.specs.List.{range_with_len}
use Rattle.lang.specs.declared.syntax.Statement.{Statement}
use Rattle.programs.specs.Parts.{body}
use Rattle.mapping.specs.declared.placement.Placement.{Placement}
use Rattle.piles.specs.Piled.{base_meaning, piled}
use Rattle.piles.proofs.placing.PileMapping.plan.Given as goal

-- The plan is that of some mapping, over which the layers still to come make the whole pile.
abbrev pub invariant-loop-layer : goal.invariant-loop-layer
invariant-loop-layer l =
    (f : List Statement → ℕ → Placement)
    × (l.plan ≡ map (f (body l.thread)) (range_with_len 0 8))
    × (piled f (drop l.layer-index l.layers) ≡ piled (base_meaning l.self.base) l.layers)
