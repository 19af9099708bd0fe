-- The order of lists by their first difference is the library's order of lists.
use Rattle.std.proofs.Common.{◌≡◌, ℕ, zero, suc, ◌<◌, List, [], ◌∷◌, length, get_or, refl, sym, arith}
use Rattle.std.specs.Cmp.{ranked}
use Rattle.std.specs.Cmp.Lexicographic.{slice_cmp}
use Rattle.std.specs.Ordering.{MatchOrdering, nat_cmp, ordering_then}
use Rattle.std.specs.declared.cmp.Ordering.{Ordering}
use Rattle.std.specs.declared.cmp.Ordering.TheVariants.{Less, Equal, Greater}
use Rattle.outcomes.specs.Outcomes.{Precedes}

-- At the first place where the lists differ the first has the lower value.
record Lower (xs ys : List ℕ) : Type 0 where
  pub place : ℕ
  pub inside : place < length xs
  pub same : (k : ℕ) → k < place → get_or xs k 0 ≡ get_or ys k 0
  pub lower : get_or xs place 0 < get_or ys place 0

-- The same number before both lists moves that place on by one.
behind : (x y : ℕ) (xs ys : List ℕ) → x ≡ y → Lower xs ys → Lower (x ∷ xs) (y ∷ ys)
behind x y xs ys e l = record { place = suc l.place; inside = omega (arith, l.inside); same = same; lower = l.lower }
  where
    same : (k : ℕ) → k < suc l.place → get_or (x ∷ xs) k 0 ≡ get_or (y ∷ ys) k 0
    same zero h = e
    same (suc k) h = l.same k (omega (arith, h))

one_more : (x y : ℕ) (o : Ordering) → MatchOrdering o (x < y) (x ≡ y) (y < x) → (xs ys : List ℕ) (rest : Ordering) → MatchOrdering rest (Lower xs ys) (xs ≡ ys) (Lower ys xs)
    → MatchOrdering (ordering_then o rest) (Lower (x ∷ xs) (y ∷ ys)) ((x ∷ xs) ≡ (y ∷ ys)) (Lower (y ∷ ys) (x ∷ xs))
one_more x y Less h xs ys rest r = record { place = 0; inside = omega arith; same = λ k l. absurd (omega arith); lower = h }
one_more x y Greater h xs ys rest r = record { place = 0; inside = omega arith; same = λ k l. absurd (omega arith); lower = h }
one_more x y Equal h xs ys Less r = behind x y xs ys h r
one_more x y Equal h xs ys Equal r = cc
one_more x y Equal h xs ys Greater r = behind y x ys xs (sym h) r

told : (xs ys : List ℕ) → length xs ≡ length ys → MatchOrdering (slice_cmp nat_cmp xs ys) (Lower xs ys) (xs ≡ ys) (Lower ys xs)
told [] [] e = refl
told [] (y ∷ ys) e = absurd (omega (arith, e))
told (x ∷ xs) [] e = absurd (omega (arith, e))
told (x ∷ xs) (y ∷ ys) e = one_more x y (nat_cmp x y) (ranked x y (nat_cmp x y) refl) xs ys (slice_cmp nat_cmp xs ys) (told xs ys (omega (arith, e)))

precedes : (xs ys : List ℕ) → length xs ≡ 20 → Lower xs ys → Precedes xs ys
precedes xs ys n l = record { place = l.place; inside = omega (arith, n, l.inside); same = l.same; lower = l.lower }

-- So for lists of 20 values the library's answer says which comes first.
pub compared : (xs ys : List ℕ) (o : Ordering) → length xs ≡ 20 → length ys ≡ 20 → o ≡ slice_cmp nat_cmp xs ys → MatchOrdering o (Precedes xs ys) (xs ≡ ys) (Precedes ys xs)
compared xs ys o m n e = rw e (by_answer (slice_cmp nat_cmp xs ys) (told xs ys (omega (arith, m, n))))
  where
    by_answer : (o : Ordering) → MatchOrdering o (Lower xs ys) (xs ≡ ys) (Lower ys xs) → MatchOrdering o (Precedes xs ys) (xs ≡ ys) (Precedes ys xs)
    by_answer Less t = precedes xs ys m t
    by_answer Equal t = t
    by_answer Greater t = precedes ys xs n t
