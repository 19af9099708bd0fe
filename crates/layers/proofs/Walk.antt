-- What is pending as a thread is walked statement by statement.
-- Before the first statement nothing is. From there on each statement takes three steps, one for each of its points: a placed
-- fence before it takes away what was pending, its own instruction settles what is pending then, and a placed fence after it
-- takes that away. Each step is the definition of `pending` at a point whose statement and residue are known.
use Rattle.std.proofs.Common.{◌≡◌, ℕ, suc, ◌+◌, ◌*◌, ◌<◌, Bool, false, not, ◌&&◌, ◌||◌, List, refl, ap, ◌∙◌, arith}
use mathlib.Core.Bool.{or-false}
use Rattle.lang.specs.declared.syntax.Statement.{Statement}
use Rattle.mapping.specs.declared.placement.Placement.{Placement}
use Rattle.mapping.specs.Kinds.{is_store, is_strong, holds_at}
use Rattle.layers.specs.Sparing.{pending}
use Rattle.layers.specs.Points.{at_point, plain_by, flushes_by}

-- What is pending after the instruction of statement i, from what was before it: a plain store is, and a flush leaves nothing.
abbrev pub settled_at : List Statement → ℕ → Bool → Bool → Bool
settled_at t i locked before =
    (holds_at is_store t i && not locked) || (before && not ((holds_at is_store t i && locked) || holds_at is_strong t i))

module _ (f : ℕ → Placement) (t : List Statement) where
  pending_after : (q i k : ℕ) → k < 3 → q ≡ 3 * i + k → pending f t (suc q) ≡ (plain_by f t i k || (pending f t q && not (flushes_by f t i k)))
  unfolding pending
  pending_after q i k l e =
      at_point (λ i k. plain_by f t i k || (pending f t q && not (flushes_by f t i k))) q i k l e

  pub pending_start : pending f t (3 * 0) ≡ false
  unfolding pending
  pending_start = refl

  pending_own : (i : ℕ) → pending f t (3 * i + 1) ≡ (pending f t (3 * i) && not (f i).before)
  pending_own i =
      ap (pending f t) (omega arith)
      ∙ (pending_after (3 * i) i 0 (omega arith) (omega arith) ∙ ap (λ b. pending f t (3 * i) && not b) (or-false (f i).before))

  pub pending_inside : (i : ℕ) → pending f t (3 * i + 2) ≡ settled_at t i (f i).locked (pending f t (3 * i) && not (f i).before)
  pending_inside i =
      ap (pending f t) (omega arith)
      ∙ (pending_after (3 * i + 1) i 1 (omega arith) refl ∙ ap (settled_at t i (f i).locked) (pending_own i))

  pub pending_next : (i : ℕ) → pending f t (3 * (i + 1)) ≡ (pending f t (3 * i + 2) && not (f i).after)
  pending_next i =
      ap (pending f t) (omega arith)
      ∙ (pending_after (3 * i + 2) i 2 (omega arith) refl ∙ ap (λ b. pending f t (3 * i + 2) && not b) (or-false (f i).after))
