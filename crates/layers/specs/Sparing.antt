-- The layer that drops fences with nothing to flush.
use Rattle.std.specs.Prelude.{◌≡◌, ℕ, zero, suc, ◌+◌, ◌*◌, ◌/◌, ◌%◌, ◌<◌, Bool, true, false, cond, not, ◌&&◌, ◌||◌, List, Some, None, Option, ◌==◌}
use Rattle.lang.specs.declared.syntax.Statement.{Statement}
use Rattle.mapping.specs.declared.placement.Placement.{Placement}
use Rattle.mapping.specs.Kinds.{is_store, is_strong, holds_at}
use Rattle.mapping.specs.Rule.{Flush}

-- What stands at a point of a thread (the fence before statement i at 3 × i, its own instruction at 3 × i + 1, the fence after it at
-- 3 × i + 2): a placed fence, a plain store, or an instruction that flushes by itself.
abbrev pub placed : (ℕ → Placement) → ℕ → Bool
placed f q = cond (q % 3 == 0) (f (q / 3)).before (cond (q % 3 == 2) (f (q / 3)).after false)

abbrev pub plain : (ℕ → Placement) → List Statement → ℕ → Bool
plain f t q = q % 3 == 1 && (holds_at is_store t (q / 3) && not (f (q / 3)).locked)

abbrev pub firm : (ℕ → Placement) → List Statement → ℕ → Bool
firm f t q = q % 3 == 1 && ((holds_at is_store t (q / 3) && (f (q / 3)).locked) || holds_at is_strong t (q / 3))

-- Before the point q a plain store is pending: it came after every flush. A fence met while none is pending is dropped, and after any
-- other none is pending, so that no store is pending after a fence in either case.
unfoldable pub pending : (ℕ → Placement) → List Statement → ℕ → Bool
pending f t zero = false
pending f t (suc q) = plain f t q || (pending f t q && not (placed f q || firm f t q))

-- The same over one statement: if a store is pending after its own instruction, by whether one was before it.
abbrev pub settled : Option Statement → Bool → Bool → Bool
settled None locked before = before
settled (Some s) locked before =
    (is_store s && not locked) || (before && not ((is_store s && locked) || is_strong s))

-- What stays of a statement's placement where a store is pending before it or not, and if one is pending after it.
abbrev pub inside : Option Statement → Placement → Bool → Bool
inside s p before = settled s p.locked (before && not p.before)

abbrev pub kept : Option Statement → Placement → Bool → Placement
kept s p before = record { before = p.before && before; after = p.after && inside s p before; locked = p.locked }

abbrev pub still_pending : Option Statement → Placement → Bool → Bool
still_pending s p before = inside s p before && not p.after

-- A placed fence stays where a plain store is pending.
abbrev pub spared_at : (ℕ → Placement) → List Statement → ℕ → Placement
spared_at f t i =
    record { before = (f i).before && pending f t (3 * i); after = (f i).after && pending f t (3 * i + 2); locked = (f i).locked }

abbrev pub spared : (List Statement → ℕ → Placement) → List Statement → ℕ → Placement
spared f t i = spared_at (f t) t i

-- The same in the words of the rule. A plain store is an `st` that is not locked.
pub data PlainStore (g : ℕ → Placement) (t : List Statement) (s : ℕ) : Type 0 where
  plain_store : (i : ℕ) → s ≡ 3 * i + 1 → holds_at is_store t i ≡ true → (g i).locked ≡ false → PlainStore g t s

-- Between the point q and the last flush before it, or the thread's start if there is none, stands a plain store.
abbrev pub Exposed : (ℕ → Placement) → List Statement → ℕ → Type 0
Exposed g t q = (s : ℕ) × (s < q) × PlainStore g t s × ((r : ℕ) → s < r → r < q → Flush g t r → ⊥)

-- g is f with a placed fence kept exactly where a plain store stands between it and the last remaining flush before it, or the
-- thread's start; and nothing else is changed.
pub record Spares (f g : ℕ → Placement) (t : List Statement) : Type 0 where
  pub before_kept : (i : ℕ) → (g i).before ≡ true → ((f i).before ≡ true) × Exposed g t (3 * i)
  pub before_stays : (i : ℕ) → (f i).before ≡ true → Exposed g t (3 * i) → (g i).before ≡ true
  pub after_kept : (i : ℕ) → (g i).after ≡ true → ((f i).after ≡ true) × Exposed g t (3 * i + 2)
  pub after_stays : (i : ℕ) → (f i).after ≡ true → Exposed g t (3 * i + 2) → (g i).after ≡ true
  pub locked_same : (i : ℕ) → (g i).locked ≡ (f i).locked
