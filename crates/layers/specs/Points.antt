-- What stands at a point of a thread, by the point's statement and residue.
-- A point q belongs to the statement i = q / 3, and its residue k = q % 3 says which of that statement's three points it is: the
-- fence before it, its own instruction or the fence after it. The tests for a placed fence, a plain store and a firm instruction
-- look at i and k alone, so they compute once k is known. From this, the first and third tests together decide whether a point
-- is a flush, and the second whether it is a plain store.
use Rattle.std.specs.Prelude.{◌≡◌, ℕ, zero, suc, ◌+◌, ◌*◌, ◌/◌, ◌%◌, ◌<◌, Bool, true, false, cond, not, ◌&&◌, ◌||◌, List, Decides, ◌==◌, refl}
use Rattle.std.proofs.Common.{sym, ap₂, ◌∙◌, inl, inr, arith}
use Rattle.std.proofs.Math.Bool.{or-false}
use Rattle.std.proofs.lemmas.Bool.{eqb-true, and_parts, and_from, or_cases, or_left, or_right, not-true, not_from_false}
use Rattle.lang.specs.declared.syntax.Statement.{Statement}
use Rattle.mapping.specs.declared.placement.Placement.{Placement}
use Rattle.mapping.specs.Kinds.{is_store, is_strong, holds_at}
use Rattle.mapping.specs.Rule.{Flush, fence_before, locked_store, strong, fence_after}
use Rattle.layers.specs.Sparing.{placed, plain, firm, PlainStore, plain_store}

pub at_point : (test : ℕ → ℕ → Bool) (q i k : ℕ) → k < 3 → q ≡ 3 * i + k → test (q / 3) (q % 3) ≡ test i k
at_point test q i k l e =
    let d : q / 3 ≡ i = omega arith in
    let r : q % 3 ≡ k = omega arith in
    ap₂ test d r

module _ (f : ℕ → Placement) (t : List Statement) where
  abbrev pub placed_by : ℕ → ℕ → Bool
  placed_by i k = cond (k == 0) (f i).before (cond (k == 2) (f i).after false)

  abbrev pub plain_by : ℕ → ℕ → Bool
  plain_by i k = k == 1 && (holds_at is_store t i && not (f i).locked)

  abbrev pub firm_by : ℕ → ℕ → Bool
  firm_by i k = k == 1 && ((holds_at is_store t i && (f i).locked) || holds_at is_strong t i)

  abbrev pub flushes : ℕ → Bool
  flushes q = placed f q || firm f t q

  abbrev pub flushes_by : ℕ → ℕ → Bool
  flushes_by i k = placed_by i k || firm_by i k

  flush_shown : (q k : ℕ) → q % 3 ≡ k → flushes_by (q / 3) k ≡ true → Flush f t q
  flush_shown q zero r h = fence_before (q / 3) (omega arith) (sym (or-false _) ∙ h)
  flush_shown q (suc zero) r h = elim (or_cases _ _ h) [
    | inl h ↦ let both = and_parts _ _ h in locked_store (q / 3) (omega arith) both.0 both.1
    | inr h ↦ strong (q / 3) (omega arith) h
  ]
  flush_shown q (suc (suc zero)) r h = fence_after (q / 3) (omega arith) (sym (or-false _) ∙ h)
  flush_shown q (suc (suc (suc k))) r h = absurd (omega arith)

  flush_passes : (q : ℕ) → Flush f t q → flushes q ≡ true
  flush_passes q (fence_before i e h) = at_point flushes_by q i 0 (omega arith) (omega arith) ∙ or_left _ _ h
  flush_passes q (locked_store i e s h) = at_point flushes_by q i 1 (omega arith) e ∙ or_left _ _ (and_from _ _ s h)
  flush_passes q (strong i e h) = at_point flushes_by q i 1 (omega arith) e ∙ or_right _ _ h
  flush_passes q (fence_after i e h) = at_point flushes_by q i 2 (omega arith) e ∙ or_left _ _ h

  pub decides_flush : (q : ℕ) → Decides (flushes q) (Flush f t q)
  decides_flush q = (flush_shown q (q % 3) refl, flush_passes q)

  plain_shown : (q : ℕ) → plain f t q ≡ true → PlainStore f t q
  plain_shown q h =
      let own = and_parts (q % 3 == 1) _ h in
      let r : q % 3 ≡ 1 = eqb-true (q % 3) 1 own.0 in
      let e : q ≡ 3 * (q / 3) + 1 = omega arith in
      let both = and_parts _ _ own.1 in
      plain_store (q / 3) e both.0 (not-true _ both.1)

  plain_passes : (q : ℕ) → PlainStore f t q → plain f t q ≡ true
  plain_passes q (plain_store i e s h) = at_point plain_by q i 1 (omega arith) e ∙ and_from _ _ s (not_from_false _ h)

  pub decides_plain : (q : ℕ) → Decides (plain f t q) (PlainStore f t q)
  decides_plain q = (plain_shown q, plain_passes q)
