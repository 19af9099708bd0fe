-- Rows and sets that hold just what a relation or a test says: each way to make one keeps that, and the questions to them are answered right.
use Rattle.std.proofs.Common.{◌≡◌, ℕ, zero, suc, ◌-◌, ◌^◌, ◌<◌, ◌≤◌, Bool, true, false, cond, not, ◌&&◌, ◌||◌, eqb, ◌⊎◌, List, Decides, sym, refl, ap, ◌∙◌, subst, inl, inr, ⊎_elim, arith}
use lib.Bits.{bit_and, bit_or, or_lt}
use Rattle.std.proofs.lemmas.Bool.{cases_lt, cases_Bool, and_parts, and_from, or_cases, or_left, or_right, not-true, not_from_false, both_ways, lt-ltb}
use Rattle.std.proofs.lemmas.Bool.Decides.{Decides-at, Decides-like, Decides-and, Decides-or, Decides-not, Decides-eqb}
use Rattle.relations.specs.Algebra.{◌∪◌, left, right, ◌∩◌, ◌∖◌, ◌⨾◌, On, Inverse, Plus, last, Irreflexive, Within}
use Rattle.relations.specs.Rows.{has, row, related, rows_by, chosen, every, tested, union, common, without, from, to, identity, gathered, composed, inverse, closed, irreflexive, within}
use Rattle.relations.proofs.Bits.{has_or, has_and, has_rest, has_power, has_kept, has_chosen, chosen_below, gathered_tells}
use Rattle.relations.proofs.Every.{every_tells}
use Rattle.relations.proofs.Filling.{row_by, row_past}
use Rattle.relations.proofs.Warshall.{Closed, closed_passes, closed_full, plus_inside}

-- Rows that hold just the pairs of a relation between the 36 events.
pub record Shows (rows : List ℕ) (R : ℕ → ℕ → Type 0) : Type 0 where
  pub tells : (a b : ℕ) → a < 36 → b < 36 → Decides (related rows a b) (R a b)
  pub inside : (a b : ℕ) → R a b → (a < 36) × (b < 36)

-- A set that holds just the events that pass a test.
pub record Collects (set : ℕ) (A : ℕ → Bool) : Type 0 where
  pub tells : (e : ℕ) → e < 36 → has set e ≡ A e
  pub inside : (e : ℕ) → A e ≡ true → e < 36

-- Rows by a function, of which each bit is right.
shows_by : {R : ℕ → ℕ → Type 0} (f : ℕ → ℕ) → ((a b : ℕ) → a < 36 → b < 36 → Decides (has (f a) b) (R a b)) → ((a b : ℕ) → R a b → (a < 36) × (b < 36)) → Shows (rows_by f) R
shows_by f t i = record { tells = λ a b x y. Decides-at (related (rows_by f) a b) (has (f a) b) (ap (λ (v : ℕ). has v b) (row_by f a x)) (t a b x y); inside = i }

in_chosen : (test : ℕ → Bool) (e : ℕ) → e < 36 → has (chosen 36 test) e ≡ test e
in_chosen test e h = has_chosen 36 test e ∙ ap (λ (t : Bool). t && test e) (lt-ltb e 36 h)

member_tells : {set : ℕ} {A : ℕ → Bool} → Collects set A → (e : ℕ) → e < 36 → Decides (has set e) (A e ≡ true)
member_tells {set} {A} p e h = Decides-at (has set e) (A e) (p.tells e h) (λ t. t, λ t. t)

pub collects_chosen : (A : ℕ → Bool) → ((e : ℕ) → A e ≡ true → e < 36) → Collects (chosen 36 A) A
collects_chosen A i = record { tells = in_chosen A; inside = i }

pub shows_tested : (test : ℕ → ℕ → Bool) (R : ℕ → ℕ → Type 0) → ((a b : ℕ) → Decides (test a b) (R a b)) → ((a b : ℕ) → R a b → (a < 36) × (b < 36)) → Shows (tested test) R
unfolding tested
shows_tested test R t i = shows_by (λ a. chosen 36 (test a)) (λ a b x y. Decides-at (has (chosen 36 (test a)) b) (test a b) (in_chosen (test a) b y) (t a b)) i

either : {R S : ℕ → ℕ → Type 0} {a b : ℕ} → R a b ⊎ S a b → (R ∪ S) a b
either (inl t) = left t
either (inr t) = right t

cases : {R S : ℕ → ℕ → Type 0} {a b : ℕ} → (R ∪ S) a b → R a b ⊎ S a b
cases (left t) = inl t
cases (right t) = inr t

implies_tells : {P Q : Type 0} (x y : Bool) → Decides x P → Decides y Q → Decides (not x || y) (P → Q)
implies_tells x y p q = (
  λ e h. ⊎_elim (λ n. absurd (both_ways x (not-true x n) (p.1 h))) q.0 (or_cases (not x) y e),
  λ f. ⊎_elim (λ t. or_right (not x) y (q.1 (f (p.0 t)))) (λ n. or_left (not x) y (not_from_false x n)) (cases_Bool x),
)

module _ {r s : List ℕ} {R S : ℕ → ℕ → Type 0} where
  pub shows_union : Shows r R → Shows s S → Shows (union r s) (R ∪ S)
  unfolding union
  shows_union p q =
      shows_by (λ a. bit_or (row r a) (row s a))
      (λ a b x y.
      Decides-at (has (bit_or (row r a) (row s a)) b) (related r a b || related s a b) (has_or (row r a) (row s a) b)
      (Decides-like (related r a b || related s a b) either cases (Decides-or (related r a b) (related s a b) (p.tells a b x y) (q.tells a b x y))))
      (λ a b t. ⊎_elim (p.inside a b) (q.inside a b) (cases t))

  pub shows_common : Shows r R → Shows s S → Shows (common r s) (R ∩ S)
  unfolding common
  shows_common p q =
      shows_by (λ a. bit_and (row r a) (row s a))
      (λ a b x y.
      Decides-at (has (bit_and (row r a) (row s a)) b) (related r a b && related s a b) (has_and (row r a) (row s a) b)
      (Decides-like (related r a b && related s a b) (λ t. record { one = t.0; other = t.1 }) (λ t. (t.one, t.other)) (Decides-and (related r a b) (related s a b) (p.tells a b x y) (q.tells a b x y))))
      (λ a b t. p.inside a b t.one)

  pub shows_without : ((a : ℕ) → row s a < 2 ^ 64) → Shows r R → Shows s S → Shows (without r s) (R ∖ S)
  unfolding without
  shows_without small p q =
      shows_by (λ a. bit_and (row r a) (2 ^ 64 - 1 - row s a))
      (λ a b x y.
      Decides-at (has (bit_and (row r a) (2 ^ 64 - 1 - row s a)) b) (related r a b && not (related s a b))
      (has_and (row r a) (2 ^ 64 - 1 - row s a) b ∙ ap (λ (t : Bool). related r a b && t) (has_rest (row s a) b (small a) (omega arith)))
      (Decides-like (related r a b && not (related s a b)) (λ t. record { one = t.0; lacks = t.1 }) (λ t. (t.one, t.lacks))
      (Decides-and (related r a b) (not (related s a b)) (p.tells a b x y) (Decides-not (related s a b) (q.tells a b x y)))))
      (λ a b t. p.inside a b t.one)

  pub shows_composed : Shows r R → Shows s S → Shows (composed r s) (R ⨾ S)
  unfolding composed
  shows_composed p q =
      shows_by (λ a. gathered 36 (row r a) s)
      (λ a b x y.
      Decides-like (has (gathered 36 (row r a) s) b)
      (λ t.
      let e = and_parts (related r a t.0) (related s t.0 b) t.2 in
      record { between = t.0; first = (p.tells a t.0 x t.1).0 e.0; second = (q.tells t.0 b t.1 y).0 e.1 })
      (λ t.
      let k = t.between in
      let h = (p.inside a k t.first).1 in
      (k, h, and_from (related r a k) (related s k b) ((p.tells a k x h).1 t.first) ((q.tells k b h y).1 t.second)))
      (gathered_tells 36 (row r a) s b))
      (λ a b t. ((p.inside a t.between t.first).0, (q.inside t.between b t.second).1))

  pub within_tells : Shows r R → Shows s S → Decides (within r s) (Within R S)
  unfolding within
  within_tells p q =
      let test : ℕ → ℕ → Bool = λ a b. not (related r a b) || related s a b in
      Decides-like (within r s)
      (λ all a b t.
      let i = p.inside a b t in
      (implies_tells (related r a b) (related s a b) (p.tells a b i.0 i.1) (q.tells a b i.0 i.1)).0 ((every_tells 36 (test a)).0 (all a i.0) b i.1) t)
      (λ sub a x. (every_tells 36 (test a)).1 (λ b y. (implies_tells (related r a b) (related s a b) (p.tells a b x y) (q.tells a b x y)).1 (sub a b)))
      (every_tells 36 (λ a. every 36 (test a)))

pub shows_identity : {set : ℕ} {A : ℕ → Bool} → Collects set A → Shows (identity set) (On A)
unfolding identity
shows_identity {set} {A} q =
    shows_by (λ a. bit_and set (2 ^ a))
    (λ a b x y.
    Decides-at (has (bit_and set (2 ^ a)) b) (has set b && eqb a b) (has_and set (2 ^ a) b ∙ ap (λ (t : Bool). has set b && t) (has_power a b))
    (Decides-like (has set b && eqb a b)
    (λ t. record { member = ap A t.1 ∙ t.0; itself = t.1 })
    (λ t. (ap A (sym t.itself) ∙ t.member, t.itself))
    (Decides-and (has set b) (eqb a b) (member_tells q b y) (Decides-eqb a b))))
    (λ a b t. let h = q.inside a t.member in (h, subst (λ (v : ℕ). v < 36) t.itself h))

module _ {r : List ℕ} {R : ℕ → ℕ → Type 0} {set : ℕ} {A : ℕ → Bool} where
  pub shows_from : Collects set A → Shows r R → Shows (from set r) (On A ⨾ R)
  unfolding from
  shows_from q p =
      shows_by (λ a. cond (has set a) (row r a) 0)
      (λ a b x y.
      Decides-at (has (cond (has set a) (row r a) 0) b) (has set a && related r a b) (has_kept (has set a) (row r a) b)
      (Decides-like (has set a && related r a b)
      (λ t. record { between = a; first = record { member = t.0; itself = refl }; second = t.1 })
      (λ t. (t.first.member, at_start a b t))
      (Decides-and (has set a) (related r a b) (member_tells q a x) (p.tells a b x y))))
      (λ a b t. p.inside a b (at_start a b t))
    where
      at_start : (a b : ℕ) → (On A ⨾ R) a b → R a b
      at_start a b t = subst (λ (v : ℕ). R v b) (sym t.first.itself) t.second

  pub shows_to : Shows r R → Collects set A → Shows (to r set) (R ⨾ On A)
  unfolding to
  shows_to p q =
      shows_by (λ a. bit_and (row r a) set)
      (λ a b x y.
      Decides-at (has (bit_and (row r a) set) b) (related r a b && has set b) (has_and (row r a) set b)
      (Decides-like (related r a b && has set b)
      (λ t. record { between = b; first = t.0; second = record { member = t.1; itself = refl } })
      (λ t. (at_end a b t, ap A (sym t.second.itself) ∙ t.second.member))
      (Decides-and (related r a b) (has set b) (p.tells a b x y) (member_tells q b y))))
      (λ a b t. p.inside a b (at_end a b t))
    where
      at_end : (a b : ℕ) → (R ⨾ On A) a b → R a b
      at_end a b t = subst (λ (v : ℕ). R a v) t.second.itself t.first

module _ {r : List ℕ} {R : ℕ → ℕ → Type 0} where
  pub shows_inverse : Shows r R → Shows (inverse r) (Inverse R)
  unfolding inverse tested
  shows_inverse p =
      shows_by (λ a. chosen 36 (λ b. related r b a))
      (λ a b x y.
      Decides-at (has (chosen 36 (λ e. related r e a)) b) (related r b a) (in_chosen (λ e. related r e a) b y)
      (Decides-like (related r b a) (λ t. record { back = t }) (λ t. t.back) (p.tells b a y x)))
      (λ a b t. let i = p.inside b a t.back in (i.1, i.0))

  pub shows_closed : Shows r R → Shows (closed r) (Plus R)
  shows_closed p =
      let start : Closed R r 0 =
      record {
        sound = λ a b x y e. last ((p.tells a b x y).0 e);
        keeps = λ a b t. let i = p.inside a b t in (p.tells a b i.0 i.1).1 t;
        over = λ a j b x h e f. absurd (omega arith);
      } in
      let end = closed_passes R p.inside r start 36 (omega arith) in
      record { tells = λ a b x y. (end.sound a b x y, closed_full R p.inside (closed r) end); inside = λ a b t. plus_inside R p.inside t }

  pub irreflexive_tells : Shows r R → Decides (irreflexive r) (Irreflexive R)
  unfolding irreflexive
  irreflexive_tells p =
      Decides-like (irreflexive r)
      (λ all a t. let i = p.inside a a t in (Decides-not (related r a a) (p.tells a a i.0 i.0)).0 (all a i.0) t)
      (λ none a x. (Decides-not (related r a a) (p.tells a a x x)).1 (none a))
      (every_tells 36 (λ a. not (related r a a)))

-- Rows by a function that stays in 64 bits do so, past the last row too.
pub small_by : (f : ℕ → ℕ) → ((a : ℕ) → a < 36 → f a < 2 ^ 64) → (a : ℕ) → row (rows_by f) a < 2 ^ 64
small_by f h a = ⊎_elim (λ (lt : a < 36). subst (λ (v : ℕ). v < 2 ^ 64) (sym (row_by f a lt)) (h a lt)) (λ (ge : 36 ≤ a). omega (arith, row_past f a ge)) (cases_lt a 36)

pub tested_small : (test : ℕ → ℕ → Bool) (a : ℕ) → row (tested test) a < 2 ^ 64
unfolding tested
tested_small test = small_by (λ a. chosen 36 (test a)) (λ a h. omega (arith, chosen_below 36 (test a)))

gathered_small : (n set : ℕ) (s : List ℕ) → ((a : ℕ) → row s a < 2 ^ 64) → gathered n set s < 2 ^ 64
unfolding gathered
gathered_small zero set s small = omega arith
gathered_small (suc n) set s small = cond_small (has set n) (or_lt 64 (gathered n set s) (row s n) (gathered_small n set s small) (small n)) (gathered_small n set s small)
  where
    cond_small : (t : Bool) {x y : ℕ} → x < 2 ^ 64 → y < 2 ^ 64 → cond t x y < 2 ^ 64
    cond_small true h k = h
    cond_small false h k = k

pub composed_small : (r s : List ℕ) → ((a : ℕ) → row s a < 2 ^ 64) → (a : ℕ) → row (composed r s) a < 2 ^ 64
unfolding composed
composed_small r s small = small_by (λ a. gathered 36 (row r a) s) (λ a h. gathered_small 36 (row r a) s small)
