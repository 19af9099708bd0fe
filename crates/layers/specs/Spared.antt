-- The layer that drops fences keeps the fence rule, and keeps exactly the fences that it should.
-- A point is exposed if a plain store stands between it and the last remaining flush before it. By induction over the points,
-- `pending` decides that: one point further on, a plain store there or an exposed point with no flush there is what is wanted,
-- and a placed fence is a remaining flush where something is pending. A fence at which nothing is pending changes nothing.
-- For the fence rule, take the flush that the mapping has between the two statements. It remains, or it is a fence met while
-- nothing is pending. Then the sc store is locked, and so a flush itself, or it is plain; and since nothing is pending any more,
-- some remaining flush stands between the store and that fence.
use Rattle.std.specs.Prelude.{◌≡◌, ℕ, zero, suc, ◌+◌, ◌*◌, ◌/◌, ◌%◌, ◌<◌, Bool, true, false, not, ◌&&◌, ◌||◌, ◌⊎◌, List, Decides, ◌≢◌}
use Rattle.std.proofs.Math.Path.{refl, ap}
use Rattle.std.proofs.Common.{sym, subst, ◌∙◌, inl, inr, arith}
use Rattle.std.proofs.Math.Bool.{and-true}
use Rattle.std.proofs.lemmas.Bool.{both_ways, cases_Bool, cases_eq, and_parts, and_from, and_cases, or_parts, not-false}
use Rattle.std.proofs.lemmas.Bool.Decides.{Decides-at, Decides-like, Decides-not, Decides-and, Decides-or}
use Rattle.lang.specs.declared.syntax.Statement.{Statement}
use Rattle.mapping.specs.declared.placement.Placement.{Placement}
use Rattle.mapping.specs.Rule.{Flush, fence_before, locked_store, strong, fence_after, FenceRule, EndsWithThread, LocksStores}
use Rattle.mapping.specs.Laws.{sc_store_store}
use Rattle.layers.specs.Sparing.{placed, plain, firm, pending, spared_at, spared, PlainStore, plain_store, Exposed, Spares}
use Rattle.layers.specs.Points.{placed_by, flushes, decides_flush, decides_plain}

-- What it takes for the next point to be exposed.
module _ (g : ℕ → Placement) (t : List Statement) (q : ℕ) where
  abbrev Exposes : Type 0
  Exposes = PlainStore g t q ⊎ (Exposed g t q × (Flush g t q → ⊥))

  exposed_next : Exposes → Exposed g t (suc q)
  exposed_next (inl p) = (q, omega arith, p, λ r a b _. absurd (omega arith))
  exposed_next (inr (x, clear)) =
      let (s, before, p, clean) = x in
      (s, omega arith, p, λ r a b w. elim (cases_eq r q) [ inl e ↦ clear (subst (Flush g t) e w) | inr n ↦ clean r a (omega arith) w ])

  next_exposed : Exposed g t (suc q) → Exposes
  next_exposed (s, before, p, clear) = elim (cases_eq s q) [
    | inl e ↦ inl (subst (PlainStore g t) e p)
    | inr n ↦ inr ((s, omega arith, p, λ r a b w. clear r a (omega arith) w), clear q (omega arith) (omega arith))
  ]

-- A fence that is dropped where nothing is pending leaves nothing pending, as if it had stayed.
dropped_same : (waits fence own : Bool) → (waits && not (fence || own)) ≡ (waits && not ((fence && waits) || own))
dropped_same true fence own = ap (λ b. not (b || own)) (sym (and-true fence))
dropped_same false fence own = refl

module _ (f : ℕ → Placement) (t : List Statement) where
  -- What the layer leaves.
  abbrev kept : ℕ → Placement
  kept = spared_at f t

  placed_spared : (q k : ℕ) → q % 3 ≡ k → placed_by kept t (q / 3) k ≡ (placed_by f t (q / 3) k && pending f t q)
  placed_spared q zero r = ap (λ p. (f (q / 3)).before && pending f t p) (omega arith)
  placed_spared q (suc zero) r = refl
  placed_spared q (suc (suc zero)) r = ap (λ p. (f (q / 3)).after && pending f t p) (omega arith)
  placed_spared q (suc (suc (suc k))) r = absurd (omega arith)

  -- What is pending for the mapping goes by the flushes that remain.
  pending_spared : (q : ℕ) → pending f t (suc q) ≡ (plain kept t q || (pending f t q && not (flushes kept t q)))
  unfolding pending
  pending_spared q =
      ap (λ b. plain f t q || b)
      (dropped_same (pending f t q) (placed f q) (firm f t q)
      ∙ ap (λ b. pending f t q && not (b || firm f t q)) (sym (placed_spared q (q % 3) refl)))

  pending_exposed : (q : ℕ) → Decides (pending f t q) (Exposed kept t q)
  unfolding pending
  pending_exposed zero = (λ e. absurd (both_ways false refl e), λ x. let before = x.1 in absurd (omega arith))
  pending_exposed (suc q) =
      Decides-at _ _ (pending_spared q)
      (Decides-like _ (exposed_next kept t q) (next_exposed kept t q)
      (Decides-or _ _ (decides_plain kept t q)
      (Decides-and _ _ (pending_exposed q) (Decides-not _ (decides_flush kept t q)))))

  -- Behind a plain store nothing is pending only if a flush remains in between.
  flushed_since : (s q : ℕ) → PlainStore kept t s → s < q → pending f t q ≡ false → (r : ℕ) × (s < r) × (r < q) × Flush kept t r
  flushed_since s zero p l idle = absurd (omega arith)
  flushed_since s (suc q) p l idle =
      let parts = or_parts _ _ (sym (pending_spared q) ∙ idle) in
      elim (cases_eq s q) [
        | inl e ↦ absurd (both_ways _ parts.0 ((decides_plain kept t q).1 (subst (PlainStore kept t) e p)))
        | inr n ↦ elim (and_cases _ _ parts.1) [
          | inl before ↦ let w = flushed_since s q p (omega arith) before in (w.0, w.1, omega (arith, w.2), w.3)
          | inr w ↦ (q, omega arith, omega arith, (decides_flush kept t q).0 (not-false _ w))
        ]
      ]

  -- A flush remains, unless it is a fence met while nothing is pending.
  flush_spared : (q : ℕ) → Flush f t q → Flush kept t q ⊎ ((pending f t q ≡ false) × (q % 3 ≢ 1))
  flush_spared q (fence_before i e h) = elim (cases_Bool (pending f t (3 * i))) [
    | inl waits ↦ inl (fence_before i e (and_from _ _ h waits))
    | inr idle ↦ inr (ap (pending f t) e ∙ idle, λ r. omega arith)
  ]
  flush_spared q (locked_store i e s h) = inl (locked_store i e s h)
  flush_spared q (strong i e h) = inl (strong i e h)
  flush_spared q (fence_after i e h) = elim (cases_Bool (pending f t (3 * i + 2))) [
    | inl waits ↦ inl (fence_after i e (and_from _ _ h waits))
    | inr idle ↦ inr (ap (pending f t) e ∙ idle, λ r. omega arith)
  ]

  pub spared_spares : Spares f (spared_at f t) t
  spared_spares = record {
    before_kept = λ i h. let both = and_parts _ _ h in (both.0, (pending_exposed (3 * i)).0 both.1);
    before_stays = λ i h x. and_from _ _ h ((pending_exposed (3 * i)).1 x);
    after_kept = λ i h. let both = and_parts _ _ h in (both.0, (pending_exposed (3 * i + 2)).0 both.1);
    after_stays = λ i h x. and_from _ _ h ((pending_exposed (3 * i + 2)).1 x);
    locked_same = λ i. refl;
  }

pub spared_fenced : (f : List Statement → ℕ → Placement) → FenceRule f → FenceRule (spared f)
spared_fenced f rule t i j l s r =
    let (q, from, to, w) = rule t i j l s r in
    let store = sc_store_store t i s in
    elim (flush_spared (f t) t q w) [
      | inl w ↦ (q, from, to, w)
      | inr (idle, apart) ↦ elim (cases_Bool (f t i).locked) [
        | inl locked ↦ (3 * i + 1, omega arith, omega arith, locked_store i refl store locked)
        | inr plain ↦
            let since = flushed_since (f t) t (3 * i + 1) q (plain_store i refl store plain) (omega (arith, apart)) idle in
            (since.0, omega (arith, since.1), omega (arith, since.2), since.3)
      ]
    ]

pub spared_ended : (f : List Statement → ℕ → Placement) → EndsWithThread f → EndsWithThread (spared f)
spared_ended f ended t i h =
    ap (λ (p : Placement). record {
      before = p.before && pending (f t) t (3 * i);
      after = p.after && pending (f t) t (3 * i + 2);
      locked = p.locked;
    }) (ended t i h)

pub spared_stores : (f : List Statement → ℕ → Placement) → LocksStores f → LocksStores (spared f)
spared_stores f stores t i h = stores t i h
