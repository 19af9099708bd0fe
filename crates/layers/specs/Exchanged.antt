-- The layer that locks stores keeps the fence rule.
-- A flush of the mapping stays a flush, unless it is the fence after a store that is swapped. Then that store, one point before
-- the fence, is locked and a flush in its place; and it lies between the same two statements, since the fence follows the sc
-- store or a later statement.
use Rattle.std.specs.Prelude.{◌≡◌, ℕ, ◌+◌, ◌*◌, false, ◌⊎◌, List, refl}
use Rattle.std.proofs.Common.{ap, ◌∙◌, inl, inr, arith}
use Rattle.std.proofs.Math.Bool.{and-false}
use Rattle.std.proofs.lemmas.Bool.{cases_Bool, and_parts, and_from, or_cases, or_left, or_right, not_from_false}
use Rattle.lang.specs.declared.syntax.Statement.{Statement}
use Rattle.mapping.specs.declared.placement.Placement.{Placement}
use Rattle.mapping.specs.Kinds.{is_store, holds_at}
use Rattle.mapping.specs.Rule.{Flush, fence_before, locked_store, strong, fence_after, FenceRule, EndsWithThread, LocksStores}
use Rattle.layers.specs.Exchange.{swaps, exchanged_at, exchanged}

flush_exchanged : (f : ℕ → Placement) (t : List Statement) (q : ℕ) → Flush f t q → Flush (exchanged_at f t) t q ⊎ ((i : ℕ) × (q ≡ 3 * i + 2) × Flush (exchanged_at f t) t (3 * i + 1))
flush_exchanged f t q (fence_before i e h) = inl (fence_before i e h)
flush_exchanged f t q (locked_store i e s h) = inl (locked_store i e s (or_left _ _ h))
flush_exchanged f t q (strong i e h) = inl (strong i e h)
flush_exchanged f t q (fence_after i e h) = elim (cases_Bool (swaps f t i)) [
  | inl swapped ↦ inr (i, e, locked_store i refl (and_parts _ _ swapped).0 (or_right _ _ swapped))
  | inr stays ↦ inl (fence_after i e (and_from _ _ h (not_from_false _ stays)))
]

pub exchanged_fenced : (f : List Statement → ℕ → Placement) → FenceRule f → FenceRule (exchanged f)
exchanged_fenced f rule t i j l s r =
    let (q, from, to, w) = rule t i j l s r in
    elim (flush_exchanged (f t) t q w) [
      | inl w ↦ (q, from, to, w)
      | inr (k, e, w) ↦ (3 * k + 1, omega arith, omega arith, w)
    ]

pub exchanged_ended : (f : List Statement → ℕ → Placement) → EndsWithThread f → EndsWithThread (exchanged f)
exchanged_ended f ended t i h =
    ap (λ (p : Placement). exchanged_at (λ _. p) t i) (ended t i h)
    ∙ ap (λ b. record { before = false; after = false; locked = b }) (and-false (holds_at is_store t i))

pub exchanged_stores : (f : List Statement → ℕ → Placement) → LocksStores f → LocksStores (exchanged f)
exchanged_stores f stores t i h = elim (or_cases _ _ h) [ inl locked ↦ stores t i locked | inr swapped ↦ (and_parts _ _ swapped).0 ]
