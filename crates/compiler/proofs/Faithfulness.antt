-- Compiled code is faithful to its source.
-- It holds the source in order. For the flush between an sc `st` and a later sc `ld`, the instructions of the two stand at the
-- points of their statements. The fence rule has a flush at the store's point or between the two points, and a flushing
-- instruction stands there. At the store's point it is the store's own; past it, it stands between the two in the code as well,
-- since the code follows the order of the points.
use Rattle.std.proofs.Common.{◌≡◌, ℕ, ◌*◌, List, map, length, Some, sym, ap, subst, inl, inr, arith}
use Rattle.std.proofs.lemmas.Bool.{cases_eq}
use Rattle.std.proofs.lemmas.Option.{slice_get-map}
use Rattle.std.specs.List.{slice_get}
use Rattle.lang.specs.declared.syntax.Statement.{Statement}
use Rattle.mapping.specs.declared.placement.Placement.{Placement}
use Rattle.mapping.specs.Rule.{FenceRule}
use Rattle.compiler.specs.declared.code.Instruction.{Instruction}
use Rattle.compiler.specs.Compiled.{compiled_thread}
use Rattle.compiler.specs.Faithful.{FlushesBetween, Faithful}
use Rattle.compiler.proofs.Slots.{filled, position, position_rises, slot_found, slot_behind}
use Rattle.compiler.proofs.Positions.{point, point_source, flush_instruction, compiled_points}
use Rattle.compiler.proofs.Held.{compiled_held}

points_flushed : (f : List Statement → ℕ → Placement) → FenceRule f → (t : List Statement) → FlushesBetween t (filled (point (f t) t) (3 * length t))
points_flushed f rule t a b i j x y at_a at_b from-i from-j before store load =
    let s = point (f t) t in
    let (p, in_p, a-is, holds-x) = slot_behind s (3 * length t) a x at_a in
    let (r, in-r, b-is, holds-y) = slot_behind s (3 * length t) b y at_b in
    let p_is = point_source (f t) t p i x holds-x from-i in
    let r_is = point_source (f t) t r j y holds-y from-j in
    let (q, low, high, flush) = rule t i j before store load in
    let (z, holds-z, flushing) = flush_instruction (f t) t q (omega arith) flush in
    elim (cases_eq p q) [
      | inl e ↦ inl (cc (ap s e))
      | inr apart ↦
          let past = position_rises s p q x holds-x (omega arith) in
          let short = position_rises s q r z holds-z (omega arith) in
          inr (position s q, z, omega arith, omega arith, slot_found s q (3 * length t) z holds-z (omega arith), flushing)
    ]

pub code_faithful : (f : List Statement → ℕ → Placement) → FenceRule f → (t : List Statement) → Faithful t (compiled_thread f t)
code_faithful f rule t = record {
  holds = compiled_held t (f t);
  flushed = subst (FlushesBetween t) (sym (compiled_points (f t) t (length t))) (points_flushed f rule t);
}

-- What stands at a place of the codes is the code of the thread at that place.
pub code_of : (f : List Statement → List Instruction) (ts : List (List Statement)) (k : ℕ) (t : List Statement) (c : List Instruction) → slice_get ts k ≡ Some t → slice_get (map f ts) k ≡ Some c → f t ≡ c
code_of f ts k t c a b = let code = slice_get-map f ts k in cc
