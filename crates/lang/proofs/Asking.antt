-- Asking each of some items: the answer decides, of all of them, what each single answer decides of its item.
use Rattle.std.proofs.Common.{◌≡◌, ℕ, ◌<◌, Bool, true, false, List, length, Option, Decides, MatchBool, MatchOption, refl, subst, arith}
use Rattle.std.proofs.lemmas.Bool.{false≢true}
use Rattle.std.proofs.lemmas.Iterator.{YieldsList, cases_from_all}
use Rattle.std.proofs.lemmas.List.FromFn.{length-range_with_len, get_or-range_with_len}
use Rattle.std.specs.Fn.{Called}
use Rattle.std.specs.Iterator.{YieldsThen}
use Rattle.std.specs.List.{All, AllWithin, FoldsTo, HoldsAt, range_with_len}
use denote.Param.Members.{Mut}

-- What is decided of all items of a list, by cases on the answer.
told_all : {B : Type 0} (P : B → Type 0) (xs : List B) (r : Bool) → MatchBool r (AllWithin P xs 0 (length xs)) ((k : ℕ) × (k < length xs) × HoldsAt (λ x. P x → ⊥) xs k) → B → Decides r (All P xs)
told_all P xs true all d = (λ _ k e h. all k e (omega arith) h, λ _. refl)
told_all P xs false some d = (λ e. absurd (false≢true e), λ all. absurd (some.2 d (all some.0 d some.1)))

module _ {S A B F : Type 0} {steps : S → Option A → S → Type 0} {v : A → B} {g : Mut F (A × Unit {0}) Bool} {s : S} {xs : List B} (P : B → Type 0) (d : B) (u : S) (f : F) (r : Bool) where
  pub decided_all : (ys : List A) × (o : Option A) × (j : F) × YieldsThen steps s ys o u × FoldsTo (λ p x q. Called g p (x, tt) true q) f ys j × MatchOption o (r ≡ true) (λ x. (r ≡ false) × ((h : F) × Called g j (x, tt) false h))
      → YieldsList steps v s xs
      → ((x : A) (b : Bool) (q : F) → Called g f (x, tt) b q → (q ≡ f) × Decides b (P (v x)))
      → Decides r (All P xs)
  decided_all ran yields each =
      told_all P xs r (cases_from_all u f r P (λ x. P x → ⊥) ran yields (λ x q c. let t = each x true q c in (t.0, t.1.0 refl)) (λ x q c p. false≢true ((each x false q c).1.1 p))) d

-- The same of the numbers below n.
all_below : (P : ℕ → Type 0) (n : ℕ) (r : Bool) → Decides r (All P (range_with_len 0 n)) → Decides r ((k : ℕ) → k < n → P k)
all_below P n r t = (
  λ e k h. subst P (omega (arith, get_or-range_with_len 0 n k 0 h)) (t.0 e k 0 (omega (arith, h, length-range_with_len 0 n))),
  λ all. t.1 (λ k d h. let below : k < n = omega (arith, h, length-range_with_len 0 n) in subst P (omega (arith, get_or-range_with_len 0 n k d below)) (all k below)),
)

module _ {S F : Type 0} {steps : S → Option ℕ → S → Type 0} {g : Mut F (ℕ × Unit {0}) Bool} {s : S} (P : ℕ → Type 0) (n : ℕ) (u : S) (f : F) (r : Bool) where
  pub decided_below : (xs : List ℕ) × (o : Option ℕ) × (j : F) × YieldsThen steps s xs o u × FoldsTo (λ p x q. Called g p (x, tt) true q) f xs j × MatchOption o (r ≡ true) (λ x. (r ≡ false) × ((h : F) × Called g j (x, tt) false h))
      → YieldsList steps (λ x. x) s (range_with_len 0 n)
      → ((x : ℕ) (b : Bool) (q : F) → Called g f (x, tt) b q → (q ≡ f) × Decides b (P x))
      → Decides r ((k : ℕ) → k < n → P k)
  decided_below ran yields each = all_below P n r (decided_all P 0 u f r ran yields each)
