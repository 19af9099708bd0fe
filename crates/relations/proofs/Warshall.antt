-- Warshall's passes hold just the pairs of one or more steps.
use Rattle.std.proofs.Common.{◌≡◌, ℕ, zero, suc, ◌<◌, ◌≤◌, true, ◌&&◌, ◌||◌, ◌⊎◌, List, length, refl, sym, ap, ◌∙◌, subst, inl, inr, ⊎_elim, arith}
use lib.Bits.{bit_or, or_zero_r}
use Rattle.std.proofs.lemmas.Bool.{cases_lt, cond_both, or_cases, or_left, or_right, and_from, and_parts}
use Rattle.std.proofs.lemmas.List.FromFn.{fill_by_all}
use Rattle.relations.specs.Algebra.{Plus, last, next}
use Rattle.relations.specs.Rows.{has, row, related, rows_by, joined, passed, passes}
use Rattle.relations.proofs.Bits.{has_or}
use Rattle.relations.proofs.Filling.{row_by}

has_joined : (pivot k line b : ℕ) → has (joined pivot k line) b ≡ (has line b || (has line k && has pivot b))
has_joined pivot k line b =
    cond_both (has line k) (bit_or line pivot) line (λ v. has v b ≡ (has line b || (has line k && has pivot b)))
    (λ t. has_or line pivot b ∙ grind arith)
    (λ t. grind arith)

-- A pass adds the steps over its event.
related_passed : (r : List ℕ) (k a b : ℕ) → a < 36 → related (passed r k) a b ≡ (related r a b || (related r a k && related r k b))
unfolding passed
related_passed r k a b h = ap (λ (v : ℕ). has v b) (row_by (λ e. joined (row r k) k (row r e)) a h) ∙ has_joined (row r k) k (row r a) b

-- The pass over an event that is related to nothing changes no row.
pub passed_by_none : (r : List ℕ) (k : ℕ) → length r ≡ 36 → row r k ≡ 0 → r ≡ passed r k
unfolding passed rows_by
passed_by_none r k long none =
    fill_by_all (λ a. joined (row r k) k (row r a)) r 36 0 long
    (λ a h. sym (ap (λ (p : ℕ). joined p k (row r a)) none ∙ cond_both (has (row r a) k) (bit_or (row r a) 0) (row r a) (λ v. v ≡ row r a) (λ t. or_zero_r (row r a)) (λ t. refl)))

-- Before pass k: only steps of R, all of R, and for two steps that meet below k the one from end to end.
pub record Closed (R : ℕ → ℕ → Type 0) (rows : List ℕ) (k : ℕ) : Type 0 where
  pub sound : (a b : ℕ) → a < 36 → b < 36 → related rows a b ≡ true → Plus R a b
  pub keeps : (a b : ℕ) → R a b → related rows a b ≡ true
  pub over : (a j b : ℕ) → a < 36 → j < k → related rows a j ≡ true → related rows j b ≡ true → related rows a b ≡ true

pub joint : {R : ℕ → ℕ → Type 0} {a b c : ℕ} → Plus R a b → Plus R b c → Plus R a c
joint (last h) t = next h t
joint (next h s) t = next h (joint s t)

-- One pass: what it holds are old pairs, and pairs over its event.
module _ (rows : List ℕ) (k : ℕ) where
  abbrev Step : ℕ → ℕ → Type 0
  Step a b = related rows a b ≡ true

  parts : (a b : ℕ) → a < 36 → related (passed rows k) a b ≡ true → Step a b ⊎ (Step a k × Step k b)
  parts a b i e = ⊎_elim inl (λ t. inr (and_parts (related rows a k) (related rows k b) t)) (or_cases (related rows a b) (related rows a k && related rows k b) (sym (related_passed rows k a b i) ∙ e))

  old : (a b : ℕ) → a < 36 → Step a b → related (passed rows k) a b ≡ true
  old a b i e = related_passed rows k a b i ∙ or_left (related rows a b) (related rows a k && related rows k b) e

  new : (a b : ℕ) → a < 36 → Step a k → Step k b → related (passed rows k) a b ≡ true
  new a b i e f = related_passed rows k a b i ∙ or_right (related rows a b) (related rows a k && related rows k b) (and_from (related rows a k) (related rows k b) e f)

  -- Two such pairs that meet below k, and two that meet at k.
  meet_below : (R : ℕ → ℕ → Type 0) (c : Closed R rows k) (a j b : ℕ) → a < 36 → k < 36 → j < k → Step a j ⊎ (Step a k × Step k j) → Step j b ⊎ (Step j k × Step k b) → related (passed rows k) a b ≡ true
  meet_below R c a j b i h lt (inl p) (inl q) = old a b i (c.over a j b i lt p q)
  meet_below R c a j b i h lt (inl p) (inr q) = new a b i (c.over a j k i lt p q.0) q.1
  meet_below R c a j b i h lt (inr p) (inl q) = new a b i p.0 (c.over k j b h lt p.1 q)
  meet_below R c a j b i h lt (inr p) (inr q) = new a b i p.0 q.1

  meet_at : (a j b : ℕ) → a < 36 → j ≡ k → Step a j ⊎ (Step a k × Step k j) → Step j b ⊎ (Step j k × Step k b) → related (passed rows k) a b ≡ true
  meet_at a j b i same p q =
      new a b i
      (⊎_elim (λ (e : Step a j). subst (λ (v : ℕ). Step a v) same e) (λ (e : Step a k × Step k j). e.0) p)
      (⊎_elim (λ (e : Step j b). subst (λ (v : ℕ). Step v b) same e) (λ (e : Step j k × Step k b). e.1) q)

module _ (R : ℕ → ℕ → Type 0) (inside : (a b : ℕ) → R a b → (a < 36) × (b < 36)) where
  closed_more : (rows : List ℕ) (k : ℕ) → k < 36 → Closed R rows k → Closed R (passed rows k) (suc k)
  closed_more rows k h c =
      record {
        sound = λ a b i j e. ⊎_elim (c.sound a b i j) (λ t. joint (c.sound a k i h t.0) (c.sound k b h j t.1)) (parts rows k a b i e);
        keeps = λ a b s. old rows k a b (inside a b s).0 (c.keeps a b s);
        over = λ a j b i l e f.
            let p = parts rows k a j i e in
            let q = parts rows k j b (omega arith) f in
            ⊎_elim (λ lt. meet_below rows k R c a j b i h lt p q) (λ (ge : k ≤ j). meet_at rows k a j b i (omega arith) p q) (cases_lt j k);
      }

  pub closed_passes : (r : List ℕ) → Closed R r 0 → (k : ℕ) → k ≤ 36 → Closed R (passes k r) k
  unfolding passes
  closed_passes r c zero h = c
  closed_passes r c (suc k) h = closed_more (passes k r) k (omega arith) (closed_passes r c k (omega arith))

  pub plus_inside : {a b : ℕ} → Plus R a b → (a < 36) × (b < 36)
  plus_inside (last s) = inside _ _ s
  plus_inside (next s t) = ((inside _ _ s).0, (plus_inside t).1)

  pub closed_full : (rows : List ℕ) → Closed R rows 36 → {a b : ℕ} → Plus R a b → related rows a b ≡ true
  closed_full rows c (last s) = c.keeps _ _ s
  closed_full rows c (next s t) = let i = inside _ _ s in c.over _ _ _ i.0 i.1 (c.keeps _ _ s) (closed_full rows c t)
