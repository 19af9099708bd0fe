-- The code of a thread, point by point.
-- Each statement has three points: the fence before it, its own instruction and the fence after it. Each point is a slot that
-- holds at most one instruction, so the code of the first n statements is what fills the first 3 × n points, and it has at most
-- 3 × n instructions. A point's statement and residue say what it holds: a fence has no source, so an instruction whose source
-- is i fills the point 3 × i + 1. And a flush at a point of the thread is a flushing instruction there.
use Rattle.std.proofs.Common.{◌≡◌, ℕ, zero, suc, ◌+◌, ◌*◌, ◌/◌, ◌%◌, ◌<◌, ◌≤◌, Bool, true, false, ◌&&◌, ◌||◌, List, [], ◌++◌, length, Some, None, Option, sym, refl, ap, ◌∙◌, subst, ap₂, inl, inr, append_assoc, arith}
use Rattle.std.specs.Option.{option_to_list}
use Rattle.std.specs.List.{slice_get}
use Rattle.std.proofs.lemmas.Bool.{both_ways, cases_cond, cond-true, and_from, or_left, or_right}
use Rattle.lang.specs.declared.syntax.Statement.{Statement}
use Rattle.lang.specs.declared.syntax.Statement.TheVariants.{Load as Ld, Store as St, Exchange as Xchg, Add as Sum, Fence as Bar}
use Rattle.mapping.specs.declared.placement.Placement.{Placement}
use Rattle.lang.specs.Strengths.{is_sc}
use Rattle.mapping.specs.Kinds.{is_store, is_strong, holds_at}
use Rattle.mapping.specs.Rule.{Flush, fence_before, locked_store, strong, fence_after}
use Rattle.compiler.specs.declared.code.Instruction.{Instruction}
use Rattle.compiler.specs.declared.code.Instruction.TheVariants.{LockedStore, Exchange, Add, Fence, PlacedFence}
use Rattle.compiler.specs.Compiled.{own, fence, at_statement, at_place, compiled}
use Rattle.compiler.specs.Faithful.{source, flushes}
use Rattle.compiler.proofs.Slots.{nth_within, filled, length_filled}

-- What stands at the point of residue k of a place; past the thread's end nothing does.
abbrev standing : ℕ → Placement → Option Statement → ℕ → Option Instruction
standing i p None k = None
standing i p (Some s) zero = fence p.before
standing i p (Some s) (suc zero) = own i s p.locked
standing i p (Some s) (suc (suc k)) = fence p.after

fence_sourceless : (b : Bool) (x : Instruction) (j : ℕ) → fence b ≡ Some x → source x ≡ Some j → ⊥
fence_sourceless true x j h e = let z : ◌≡◌ {A = ℕ} 0 1 = cc in omega arith
fence_sourceless false x j h e = let z : ◌≡◌ {A = ℕ} 0 1 = cc in omega arith

own_source : (i : ℕ) (s : Statement) (b : Bool) (x : Instruction) (j : ℕ) → own i s b ≡ Some x → source x ≡ Some j → i ≡ j
own_source i (Ld r l m) b x j h e = cc
own_source i (St l v m) true x j h e = cc
own_source i (St l v m) false x j h e = cc
own_source i (Xchg r l v m) b x j h e = cc
own_source i (Sum r l v m) b x j h e = cc
own_source i (Bar m) b x j h e = elim (cases_cond (is_sc m) _ _ _ (sym h)) [
  | inl fenced ↦ cc
  | inr none ↦ let z : ◌≡◌ {A = ℕ} 0 1 = cc in absurd (omega arith)
]

standing_source : (i : ℕ) (p : Placement) (o : Option Statement) (k : ℕ) (x : Instruction) (j : ℕ) → standing i p o k ≡ Some x → source x ≡ Some j → (k ≡ 1) × (i ≡ j)
standing_source i p None k x j h e = let z : ◌≡◌ {A = ℕ} 0 1 = cc in absurd (omega arith)
standing_source i p (Some s) zero x j h e = absurd (fence_sourceless p.before x j h e)
standing_source i p (Some s) (suc zero) x j h e = (refl, own_source i s p.locked x j h e)
standing_source i p (Some s) (suc (suc k)) x j h e = absurd (fence_sourceless p.after x j h e)

-- What stands at a point is a flushing instruction.
abbrev pub Flushing : Option Instruction → Type 0
Flushing o = (z : Instruction) × (o ≡ Some z) × (flushes z ≡ true)

own_flushing : (i : ℕ) (s : Statement) (b : Bool) → ((is_store s && b) || is_strong s) ≡ true → Flushing (own i s b)
own_flushing i (Ld r l m) b h = absurd (both_ways false refl h)
own_flushing i (St l v m) true h = (LockedStore i l v, refl, refl)
own_flushing i (St l v m) false h = absurd (both_ways false refl h)
own_flushing i (Xchg r l v m) b h = (Exchange i r l v, refl, refl)
own_flushing i (Sum r l v m) b h = (Add i r l v, refl, refl)
own_flushing i (Bar m) b h = (Fence i, cond-true (is_sc m) _ _ h, refl)

module _ (f : ℕ → Placement) (t : List Statement) where
  abbrev standing_at : ℕ → ℕ → Option Instruction
  standing_at i k = standing i (f i) (slice_get t i) k

  abbrev pub point : ℕ → Option Instruction
  point q = standing_at (q / 3) (q % 3)

  point_is : (q i k : ℕ) → k < 3 → q ≡ 3 * i + k → point q ≡ standing_at i k
  point_is q i k l e =
      let d : q / 3 ≡ i = omega arith in
      let r : q % 3 ≡ k = omega arith in
      ap₂ standing_at d r

  place_points : (i : ℕ) → at_place f t i ≡ option_to_list (standing_at i 0) ++ (option_to_list (standing_at i 1) ++ option_to_list (standing_at i 2))
  place_points i = go (slice_get t i)
    where
      go : (o : Option Statement) → (elim o as (λ _. List Instruction) [ Some s ↦ at_statement i (f i) s | None ↦ [] ]) ≡ option_to_list (standing i (f i) o 0) ++ (option_to_list (standing i (f i) o 1) ++ option_to_list (standing i (f i) o 2))
      go None = refl
      go (Some s) = refl

  pub compiled_points : (n : ℕ) → compiled f t n ≡ filled point (3 * n)
  compiled_points zero = refl
  compiled_points (suc n) =
      let next : suc (suc (suc (3 * n))) ≡ 3 * suc n = omega arith in
      let first = point_is (3 * n) n 0 (omega arith) (omega arith) in
      let second = point_is (suc (3 * n)) n 1 (omega arith) (omega arith) in
      let third = point_is (suc (suc (3 * n))) n 2 (omega arith) (omega arith) in
      ap₂ ◌++◌ (compiled_points n) (place_points n)
      ∙ (rw (← first, ← second, ← third) (simp append_assoc) ∙ ap (filled point) next)

  pub length_compiled : (n : ℕ) → length (compiled f t n) ≤ 3 * n
  length_compiled n = omega (arith, ap length (compiled_points n), length_filled point (3 * n))

  pub point_source : (q j : ℕ) (x : Instruction) → point q ≡ Some x → source x ≡ Some j → q ≡ 3 * j + 1
  point_source q j x h e = omega (arith, standing_source (q / 3) (f (q / 3)) (slice_get t (q / 3)) (q % 3) x j h e)

  point_flushing : (q i k : ℕ) → k < 3 → q ≡ 3 * i + k → q < 3 * length t → ((s : Statement) → slice_get t i ≡ Some s → Flushing (standing i (f i) (Some s) k)) → Flushing (point q)
  point_flushing q i k l e within here =
      let (s, n) = nth_within t i (omega arith) in
      subst Flushing (sym (point_is q i k l e ∙ ap (λ o. standing i (f i) o k) n)) (here s n)

  pub flush_instruction : (q : ℕ) → q < 3 * length t → Flush f t q → Flushing (point q)
  flush_instruction q within (fence_before i e h) = point_flushing q i 0 (omega arith) (omega arith) within
      λ s n. (PlacedFence, ap fence h, refl)
  flush_instruction q within (locked_store i e st h) = point_flushing q i 1 (omega arith) e within
      λ s n. own_flushing i s _ (or_left _ _ (and_from _ _ (rw (n, holds_at) at st) h))
  flush_instruction q within (strong i e h) = point_flushing q i 1 (omega arith) e within
      λ s n. own_flushing i s _ (or_right _ _ (rw (n, holds_at) at h))
  flush_instruction q within (fence_after i e h) = point_flushing q i 2 (omega arith) e within
      λ s n. (PlacedFence, ap fence h, refl)
