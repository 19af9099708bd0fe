-- A plan holds what a mapping places at each of the eight places, and past them nothing is placed, so looking a place up in the plan
-- answers what the mapping places there, for any place.
use Rattle.std.proofs.Common.{◌≡◌, ℕ, ◌<◌, ◌≤◌, List, map, get_or, sym, ap, ◌∙◌, inl, inr, arith}
use Rattle.std.proofs.lemmas.List.FromFn.{get_or-map-range_with_len}
use Rattle.std.proofs.lemmas.List.{get_or_past}
use Rattle.std.proofs.lemmas.Bool.{cases_lt}
use Rattle.std.specs.List.{range_with_len}
use Rattle.mapping.specs.declared.placement.Placement.{Placement}
use Rattle.mapping.specs.Rule.{nothing}

pub plan_at : (f : ℕ → Placement) → ((i : ℕ) → 8 ≤ i → f i ≡ nothing) → (i : ℕ) → get_or (map f (range_with_len 0 8)) i nothing ≡ f i
plan_at f past i = elim (cases_lt i 8) [
  | inl h ↦ get_or-map-range_with_len f 0 8 i i nothing h (omega arith)
  | inr h ↦ get_or_past (map f (range_with_len 0 8)) i nothing h ∙ sym (past i h)
]

-- Within the eight places the plan need not know what lies past them.
pub plan_read : (f : ℕ → Placement) (plan : List Placement) (i : ℕ) → plan ≡ map f (range_with_len 0 8) → i < 8 → get_or plan i nothing ≡ f i
plan_read f plan i e h = ap (λ (ps : List Placement). get_or ps i nothing) e ∙ get_or-map-range_with_len f 0 8 i i nothing h (omega arith)
