-- What `fold` and `all` give over the events below n, by the recursions of specs/Rows.
use Rattle.std.proofs.Common.{◌≡◌, ℕ, suc, ◌<◌, ◌≤◌, Bool, true, false, Option, None, List, [], ◌∷◌, MatchOption, sym, ap, ◌∙◌, subst, arith}
use denote.Param.Members.{Mut, Called}
use Rattle.std.specs.declared.ops.Range.{Range}
use Rattle.std.specs.Iterator.{Yields, YieldsThen, FoldTurn, FoldsItems}
use Rattle.std.specs.List.{FoldsTo}
use Rattle.std.proofs.iter.Yields.{nat_range_steps}
use Rattle.std.proofs.lemmas.Bool.Decides.{same_from_decides}
use Rattle.std.proofs.lemmas.Iterator.{YieldsList-from_range}
use Rattle.lang.proofs.Asking.{decided_below}
use Rattle.relations.specs.Rows.{every}
use Rattle.relations.proofs.Every.{every_tells}

-- A fold over a value that is seen as w k before event k, and as w (k + 1) after it.
module _ {F B C : Type 0} (g : Mut F (B × (ℕ × Unit {0})) B) (f : F) (seen : B → C) (w : ℕ → C) (n : ℕ) (gives : (k : ℕ) (b r : B) (q : F) → k < n → seen b ≡ w k → Called g f (b, (k, tt)) r q → (seen r ≡ w (suc k)) × (q ≡ f)) where
  fold_from : (xs : List ℕ) (s t u : Range ℕ) (b r : B) (f' : F) → s.end ≡ n → s.start ≤ n → seen b ≡ w s.start → Yields nat_range_steps s xs t → nat_range_steps t None u → FoldsTo {P = F × B} (FoldTurn g) (f, b) xs (f', r) → seen r ≡ w n
  fold_from [] s t u b r f' e l p y z h =
      let done : s.start ≡ n = omega (arith, ap (λ (v : Range ℕ). v.start) y, ap (λ (v : Range ℕ). v.end) y, z.1.0) in
      sym (ap (λ (v : F × B). seen v.1) h) ∙ p ∙ ap w done
  fold_from (x ∷ xs) s t u b r f' e l p y z h =
      let now = gives s.start b h.0.1 h.0.0 (omega (arith, y.1.1.0)) p (subst (λ (v : ℕ). Called g f (b, (v, tt)) h.0.1 h.0.0) y.1.1.1 h.1) in
      let on : suc s.start ≡ y.0.start = omega (arith, y.1.1.2) in
      fold_from xs y.0 t u h.0.1 r f' (y.1.0 ∙ e) (omega (arith, y.1.1.0, y.1.1.2)) (now.0 ∙ ap w on) y.2 z (subst (λ (v : F). FoldsTo {P = F × B} (FoldTurn g) (v, h.0.1) xs (f', r)) now.1 h.2)

  pub fold_below : (s : Range ℕ) (b r : B) → s ≡ record { start = 0; end = n } → seen b ≡ w 0 → FoldsItems nat_range_steps g s f b r → seen r ≡ w n
  fold_below s b r e p h =
      let first : 0 ≡ s.start = sym (ap (λ (v : Range ℕ). v.start) e) in
      fold_from h.0 s h.2.1.0 h.2.0 b r h.1 (ap (λ (v : Range ℕ). v.end) e) (omega arith) (p ∙ ap w first) h.2.1.1 h.2.1.2 h.3

-- `all` of a test over the events below n.
pub all_below : {F : Type 0} (g : Mut F (ℕ × Unit {0}) Bool) (f : F) (p : ℕ → Bool) (n : ℕ) (s u : Range ℕ) (r : Bool) → s ≡ record { start = 0; end = n } → ((k : ℕ) (b : Bool) (q : F) → Called g f (k, tt) b q → (b ≡ p k) × (q ≡ f))
    → (xs : List ℕ) × (o : Option ℕ) × (j : F) × YieldsThen nat_range_steps s xs o u × FoldsTo (λ p x q. Called g p (x, tt) true q) f xs j × MatchOption o (r ≡ true) (λ x. (r ≡ false) × ((h : F) × Called g j (x, tt) false h)) → r ≡ every n p
all_below g f p n s u r e gives ran =
    same_from_decides r (every n p)
    (decided_below (λ k. p k ≡ true) n u f r ran (YieldsList-from_range 0 n n e (omega arith)) (λ x b q k. let t = gives x b q k in (t.1, (λ y. sym t.0 ∙ y, λ y. t.0 ∙ y))))
    (every_tells n p)
