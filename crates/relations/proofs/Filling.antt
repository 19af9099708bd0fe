-- Rows that are made one by one, each as a function gives it.
use Rattle.std.proofs.Common.{◌≡◌, ℕ, zero, suc, ◌+◌, ◌<◌, ◌≤◌, List, map, refl, sym, ◌∙◌, subst, ⊎_elim, arith}
use denote.Param.Members.{Mut, Called}
use Rattle.std.specs.Iterator.{CallableAtEachTurn}
use Rattle.std.proofs.lemmas.Fn.{serves_by}
use Rattle.std.specs.Array.{index_steps, IsFromFnResult, IsFromFnResultFrom}
use Rattle.std.specs.List.{range_with_len}
use Rattle.std.proofs.lemmas.List.FromFn.{fill_by_all, get_or-map-range_with_len, length-map-range_with_len}
use Rattle.std.proofs.lemmas.List.{get_or_past}
use Rattle.std.proofs.lemmas.Bool.{cases_lt}
use Rattle.lang.proofs.Making.{made_by}
use Rattle.relations.specs.Rows.{row, rows_by}

-- What `array::from_fn` makes of calls that each give what h gives.
pub made_all : {F : Type 0} (g : Mut F (ℕ × Unit {0}) ℕ) (f : F) (h : ℕ → ℕ) → ((i y : ℕ) (q : F) → i < 36 → Called g f (i, tt) y q → (y ≡ h i) × (q ≡ f)) → (ys : List ℕ) → IsFromFnResult g f ys 36 → ys ≡ rows_by h
unfolding rows_by
made_all g f h gives ys m = made_by h f ys 36 (λ i y q l k. let t = gives i y q l k in (t.1, t.0)) m

-- It may make them, where a call at each number below 36 is allowed.
pub made_safely : {F : Type 0} (g : Mut F (ℕ × Unit {0}) ℕ) (f : F) (Pre : F → ℕ → Type 0) → ((i y : ℕ) (q : F) → Called g f (i, tt) y q → q ≡ f) → ((i : ℕ) → i < 36 → Pre f i) → CallableAtEachTurn (index_steps 36) (λ p x q. (y : ℕ) × Called g p (x, tt) y q) Pre 0 f
made_safely {F} g f Pre same allowed =
    serves_by (λ p x q. (y : ℕ) × Called g p (x, tt) y q) (λ xs q. q ≡ f)
    (λ xs q x v e k. same x k.0 v (subst (λ (p : F). Called g p (x, tt) k.0 v) e k.1))
    (index_steps 36) Pre 0 f refl
    (λ xs t q x u y s e. subst (λ (p : F). Pre p x) (sym e) (allowed x (omega arith)))

-- The rows, read again.
pub row_by : (f : ℕ → ℕ) (a : ℕ) → a < 36 → row (rows_by f) a ≡ f a
unfolding rows_by
row_by f a h = get_or-map-range_with_len f 0 36 a a 0 h (omega arith)

pub row_past : (f : ℕ → ℕ) (a : ℕ) → 36 ≤ a → row (rows_by f) a ≡ 0
unfolding rows_by
row_past f a h = get_or_past (map f (range_with_len 0 36)) a 0 (omega (arith, length-map-range_with_len f 0 36))
