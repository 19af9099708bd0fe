use Rattle.std.proofs.Common.{◌≡◌, ℕ, ◌*◌, ◌<◌, map, length, get_or}
use Rattle.std.specs.List.{range_with_len}
use Rattle.programs.specs.Parts.{body}
use Rattle.mapping.specs.declared.placement.Placement.{Placement}
use Rattle.mapping.specs.Rule.{nothing}
use Rattle.layers.specs.Sparing.{pending, spared_at}
use Rattle.layers.proofs.sparing.spared_plan.Given as goal

-- The flag is what is pending before the statement at hand, and the places so far hold what the layer places there.
abbrev pub invariant-loop-at : goal.invariant-loop-at
invariant-loop-at l =
    (length l.plan ≡ 8)
    × ((f : ℕ → Placement) → l.fn.below ≡ map f (range_with_len 0 8) → (l.pending ≡ pending f (body l.thread) (3 * l.at)) × ((k : ℕ) → k < l.at → get_or l.plan k nothing ≡ spared_at f (body l.thread) k))
