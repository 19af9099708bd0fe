-- One turn of the walk over a thread: what stays at a statement, and what is pending after it, from what is pending before it.
use Rattle.std.proofs.Common.{◌≡◌, ℕ, ◌+◌, ◌*◌, Bool, true, false, not, ◌&&◌, ◌||◌, List, Some, None, Option, sym, refl, ap, ◌∙◌}
use Rattle.std.specs.List.{slice_get}
use Rattle.lang.specs.declared.syntax.Statement.{Statement}
use Rattle.mapping.specs.declared.placement.Placement.{Placement}
use Rattle.mapping.specs.Kinds.{is_store, is_strong}
use Rattle.layers.specs.Sparing.{pending, settled, inside, kept, still_pending, spared_at}
use Rattle.layers.proofs.Walk.{pending_inside, pending_next}

-- What a test says of the statement at a place, if there is one.
abbrev says : (Statement → Bool) → Option Statement → Bool
says test o = elim o [ Some s ↦ test s | None ↦ false ]

settled_here : (o : Option Statement) (l b : Bool) → ((says is_store o && not l) || (b && not ((says is_store o && l) || says is_strong o))) ≡ settled o l b
settled_here None l true = refl
settled_here None l false = refl
settled_here (Some s) l b = refl

module _ (f : ℕ → Placement) (t : List Statement) (i : ℕ) where
  inside_turn : inside (slice_get t i) (f i) (pending f t (3 * i)) ≡ pending f t (3 * i + 2)
  inside_turn = sym (pending_inside f t i ∙ settled_here (slice_get t i) (f i).locked (pending f t (3 * i) && not (f i).before))

  pub kept_turn : kept (slice_get t i) (f i) (pending f t (3 * i)) ≡ spared_at f t i
  kept_turn =
      ap (λ (b : Bool). record { before = (f i).before && pending f t (3 * i); after = (f i).after && b; locked = (f i).locked }) inside_turn

  pub pending_turn : still_pending (slice_get t i) (f i) (pending f t (3 * i)) ≡ pending f t (3 * (i + 1))
  pending_turn = ap (λ b. b && not (f i).after) inside_turn ∙ sym (pending_next f t i)
