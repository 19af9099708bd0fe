-- Why the fence rule holds: the sc `st` at i precedes the sc `ld` at j, so a fence stands before j.
use Rattle.std.specs.Prelude.{◌≡◌, ℕ, ◌+◌, ◌*◌, ◌<◌, Bool, true, false, ◌&&◌, List, length, take, Some, None, Option, refl}
use Rattle.std.proofs.Common.{get_or, sym, ap, ◌∙◌, inl, inr, arith}
use Rattle.std.proofs.lemmas.Bool.{false≢true, and_from, cases_Bool, cases_lt}
use Rattle.std.proofs.lemmas.List.{get_or-take, length-take}
use Rattle.std.proofs.lemmas.List.Folds.{list_any_at, list_any_none}
use Rattle.std.proofs.lemmas.Option.{slice_get-get_or}
use Rattle.lang.specs.declared.syntax.Mode.TheVariants.{Relaxed}
use Rattle.lang.specs.declared.syntax.Statement.{Statement}
use Rattle.lang.specs.declared.syntax.Statement.TheVariants.{Fence}
use Rattle.mapping.specs.Kinds.{is_store, is_sc_load, holds_at}
use Rattle.mapping.specs.Rule.{FenceRule, EndsWithThread, LocksStores, fence_before}
use Rattle.mapping.specs.Laws.{holds_past, sc_store_store}
use Rattle.watchful.specs.Meaning.{preceded, watchful}

-- What stands at a place below n is what stands there among the first n statements.
at_taken : (t : List Statement) (n k : ℕ) (d : Statement) → k < n → k < length t → is_store (get_or (take n t) k d) ≡ holds_at is_store t k
at_taken t n k d below inside =
    ap is_store (get_or-take n t k d below) ∙ sym (ap (λ (o : Option Statement). elim o as (λ _. Bool) [ Some s ↦ is_store s | None ↦ false ]) (slice_get-get_or t k d inside))

in_taken : (t : List Statement) (n k : ℕ) → k < n → k < length t → k < length (take n t)
in_taken t n k below inside = omega (arith, below, inside, length-take n t)

pub precedes : (t : List Statement) (i j : ℕ) → i < j → holds_at is_store t i ≡ true → preceded t j ≡ true
precedes t i j l h = elim (cases_lt i (length t)) [
  | inl inside ↦ list_any_at is_store (take j t) i (Fence Relaxed) (in_taken t j i l inside) (at_taken t j i (Fence Relaxed) l inside ∙ h)
  | inr past ↦ absurd (false≢true (sym (holds_past is_store t i past) ∙ h))
]

pub precedes_none : (t : List Statement) (i : ℕ) → preceded t i ≡ false → holds_at is_store t i ≡ false → preceded t (i + 1) ≡ false
precedes_none t i p h = list_any_none is_store (take (i + 1) t) (λ k d l. other k d (omega (arith, l, length-take (i + 1) t)) (omega (arith, l, length-take (i + 1) t)))
  where
    none : (k : ℕ) → k < i + 1 → k < length t → holds_at is_store t k ≡ false
    none k below inside = elim (cases_lt k i) [
      | inl before ↦ elim (cases_Bool (holds_at is_store t k)) [
        | inl store ↦ absurd (false≢true (sym p ∙ precedes t k i before store))
        | inr not_store ↦ not_store
      ]
      | inr here ↦ ap (holds_at is_store t) (omega arith) ∙ h
    ]

    other : (k : ℕ) (d : Statement) → k < i + 1 → k < length t → is_store (get_or (take (i + 1) t) k d) ≡ false
    other k d below inside = at_taken t (i + 1) k d below inside ∙ none k below inside

pub watchful_fenced : FenceRule watchful
watchful_fenced t i j l s r =
    (3 * j, omega arith, omega arith, fence_before j refl (and_from _ _ r (precedes t i j l (sc_store_store t i s))))

pub watchful_ended : EndsWithThread watchful
watchful_ended t i h = ap (λ (b : Bool). record { before = b && preceded t i; after = false; locked = false }) (holds_past is_sc_load t i h)

pub watchful_stores : LocksStores watchful
watchful_stores t i h = absurd (false≢true h)
