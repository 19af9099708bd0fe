-- The code of a thread holds the thread.
-- Go from the back. What is compiled for the statement at a place, before code that holds the thread from the next place on,
-- holds the thread from that place on: the fence before and the fence after are placed fences, and the statement's own
-- instruction carries it out, or there is none because it is a fence weaker than sc. Past the last statement the empty code holds
-- the thread, and so the code of all statements holds it from the first on.
use Rattle.std.proofs.Common.{◌≡◌, ℕ, zero, suc, ◌+◌, ◌<◌, ◌≤◌, Bool, true, false, cond, List, [], ◌++◌, length, Some, None, refl, append_assoc, append-nil, add-one, arith}
use Rattle.std.specs.Option.{option_to_list}
use Rattle.std.specs.List.{slice_get}
use Rattle.lang.specs.declared.syntax.Statement.{Statement}
use Rattle.lang.specs.declared.syntax.Statement.TheVariants.{Load as Ld, Store as St, Exchange as Xchg, Add as Sum, Fence as Bar}
use Rattle.mapping.specs.declared.placement.Placement.{Placement}
use Rattle.lang.specs.Strengths.{is_sc}
use Rattle.compiler.specs.declared.code.Instruction.{Instruction}
use Rattle.compiler.specs.declared.code.Instruction.TheVariants.{Fence}
use Rattle.compiler.specs.Compiled.{own, fence, at_statement, at_place, compiled}
use Rattle.compiler.specs.Faithful.{load, plain, locked, exchange, add, fence as fence-sc, Holds, over, placed, silent, carried}
use Rattle.compiler.proofs.Slots.{nth_within}

module _ (t : List Statement) where
  holds_fence : (b : Bool) (i : ℕ) (c : List Instruction) → Holds t i c → Holds t i (option_to_list (fence b) ++ c)
  holds_fence true i c h = placed i c h
  holds_fence false i c h = h

  holds_own : (s : Statement) (b : Bool) (i : ℕ) (c : List Instruction) → slice_get t i ≡ Some s → Holds t (i + 1) c → Holds t i (option_to_list (own i s b) ++ c)
  holds_own (Ld r l m) b i c n h = carried i c _ _ n (load r l m) h
  holds_own (St l v m) true i c n h = carried i c _ _ n (locked l v m) h
  holds_own (St l v m) false i c n h = carried i c _ _ n (plain l v m) h
  holds_own (Xchg r l v m) b i c n h = carried i c _ _ n (exchange r l v m) h
  holds_own (Sum r l v m) b i c n h = carried i c _ _ n (add r l v m) h
  holds_own (Bar m) b i c n h = go (is_sc m) refl
    where
      go : (sc : Bool) → is_sc m ≡ sc → Holds t i (option_to_list (cond sc (Some (Fence i)) None) ++ c)
      go true e = carried i c _ _ n (fence-sc m e) h
      go false e = silent i c m n e h

  holds_statement : (s : Statement) (p : Placement) (i : ℕ) (c : List Instruction) → slice_get t i ≡ Some s → Holds t (i + 1) c → Holds t i (at_statement i p s ++ c)
  holds_statement s p i c n h =
      simp append_assoc
      (holds_fence p.before i _ (holds_own s p.locked i _ n (holds_fence p.after (i + 1) c h)))

  holds_place : (f : ℕ → Placement) (i : ℕ) (c : List Instruction) → i < length t → Holds t (i + 1) c → Holds t i (at_place f t i ++ c)
  holds_place f i c l h = let (s, n) = nth_within t i l in rw (n, at_place) (holds_statement s (f i) i c n h)

  holds_compiled : (f : ℕ → Placement) (n : ℕ) (c : List Instruction) → n ≤ length t → Holds t n c → Holds t 0 (compiled f t n ++ c)
  holds_compiled f zero c l h = h
  holds_compiled f (suc n) c l h =
      rw append_assoc (holds_compiled f n _ (omega arith) (holds_place f n c (omega arith) (rw add-one h)))

  pub compiled_held : (f : ℕ → Placement) → Holds t 0 (compiled f t (length t))
  compiled_held f = rw append-nil at (holds_compiled f (length t) [] (omega arith) (over (length t) refl))
