-- Making an array by a call at each index: if the calls answer what a function does, the array is its values.
use Rattle.std.proofs.Common.{◌≡◌, ℕ, zero, suc, ◌+◌, ◌<◌, ◌≤◌, List, map, get_or, sym, subst, ◌∙◌, inl, inr, arith}
use Rattle.std.proofs.lemmas.Bool.{cases_eq}
use Rattle.std.proofs.lemmas.List.{get_or_default}
use Rattle.std.proofs.lemmas.List.FromFn.{fill_by_all}
use Rattle.std.specs.Array.{IsFromFnResult, IsFromFnResultFrom}
use Rattle.std.specs.Fn.{Called}
use Rattle.std.specs.List.{range_with_len}
use denote.Param.Members.{Mut}

module _ {F B : Type 0} {g : Mut F (ℕ × Unit {0}) B} (v : ℕ → B) (f : F) (ys : List B) (n : ℕ) (each : (x : ℕ) (y : B) (q : F) → x < n → Called g f (x, tt) y q → (q ≡ f) × (y ≡ v x)) where
  made_from : (i m : ℕ) → i + m ≡ n → IsFromFnResultFrom g f ys i m → (k : ℕ) → i ≤ k → k < n → get_or ys k (v k) ≡ v k
  made_from i zero e made k low high = absurd (omega (arith, e, low, high))
  made_from i (suc m) e made k low high =
      let q = made.0 in
      let answered = each i made.1 q (omega (arith, e)) made.3 in
      elim (cases_eq k i) [
        | inl here ↦ subst (λ x. get_or ys x (v x) ≡ v x) (sym here) (made.2.1 (v i) ∙ answered.1)
        | inr apart ↦ made_from (i + 1) m (omega (arith, e)) (subst (λ (p : F). IsFromFnResultFrom g p ys (i + 1) m) answered.0 made.4) k (omega (arith, low, apart)) high
      ]

  pub made_by : IsFromFnResult g f ys n → ys ≡ map v (range_with_len 0 n)
  made_by made =
      fill_by_all v ys n (v 0) made.long
      (λ k h. get_or_default ys k (v 0) (v k) (omega (arith, made.long, h)) ∙ made_from 0 n (omega arith) made.each k (omega arith) h)
