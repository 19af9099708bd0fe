-- Filling a plan place by place: one place more.
use Rattle.std.proofs.Common.{◌≡◌, ℕ, ◌+◌, ◌<◌, List, length, get_or, set, sym, subst}
use Rattle.std.proofs.lemmas.List.Edits.{fill_by_more}
use Rattle.mapping.specs.declared.placement.Placement.{Placement}
use Rattle.mapping.specs.Rule.{nothing}

pub filled_more : (f : ℕ → Placement) (plan : List Placement) (i : ℕ) (p : Placement) → i < length plan → p ≡ f i → ((k : ℕ) → k < i → get_or plan k nothing ≡ f k) → (k : ℕ) → k < i + 1 → get_or (set plan i p) k nothing ≡ f k
filled_more f plan i p inside e below =
    subst (λ (q : Placement). (k : ℕ) → k < i + 1 → get_or (set plan i q) k nothing ≡ f k) (sym e) (fill_by_more f plan i nothing inside below)
