-- Slots in a row, some of them filled, and the list of what fills them.
-- What fills the slot q stands in that list at the number of filled slots below q, its position. So every slot that is filled has
-- its element in the list, every element of the list comes from such a slot, the positions follow the order of the slots, and the
-- list is no longer than the row. All of it goes slot by slot: one more slot adds one element at the end, or nothing.
use Rattle.std.proofs.Common.{◌≡◌, ℕ, zero, suc, ◌+◌, ◌<◌, ◌≤◌, ◌⊎◌, List, [], ◌∷◌, ◌++◌, length, Some, None, Option, refl, ap, subst, inl, inr, arith, length-append}
use Rattle.std.specs.Option.{option_to_list}
use Rattle.std.specs.List.{slice_get}
use Rattle.std.proofs.lemmas.Bool.{cases_eq}

pub nth_within : {A : Type 0} (xs : List A) (i : ℕ) → i < length xs → (x : A) × (slice_get xs i ≡ Some x)
nth_within [] i l = absurd (omega arith)
nth_within (x ∷ xs) zero l = (x, refl)
nth_within (x ∷ xs) (suc i) l = nth_within xs i (omega arith)

nth_kept : {A : Type 0} (xs ys : List A) (a : ℕ) (x : A) → slice_get xs a ≡ Some x → slice_get (xs ++ ys) a ≡ Some x
nth_kept [] ys a x h = let z : ◌≡◌ {A = ℕ} 0 1 = cc in absurd (omega arith)
nth_kept (y ∷ xs) ys zero x h = h
nth_kept (y ∷ xs) ys (suc a) x h = nth_kept xs ys a x h

nth_last : {A : Type 0} (xs : List A) (x : A) → slice_get (xs ++ x ∷ []) (length xs) ≡ Some x
nth_last [] x = refl
nth_last (y ∷ xs) x = nth_last xs x

nth_either : {A : Type 0} (xs : List A) (o : Option A) (a : ℕ) (x : A) → slice_get (xs ++ option_to_list o) a ≡ Some x → (slice_get xs a ≡ Some x) ⊎ ((a ≡ length xs) × (o ≡ Some x))
nth_either [] None a x h = let z : ◌≡◌ {A = ℕ} 0 1 = cc in absurd (omega arith)
nth_either [] (Some y) zero x h = inr (refl, h)
nth_either [] (Some y) (suc a) x h = let z : ◌≡◌ {A = ℕ} 0 1 = cc in absurd (omega arith)
nth_either (y ∷ xs) o zero x h = inl h
nth_either (y ∷ xs) o (suc a) x h = elim (nth_either xs o a x h) [ inl h ↦ inl h | inr (e, h) ↦ inr (ap suc e, h) ]

length_listOf : {A : Type 0} (o : Option A) → length (option_to_list o) ≤ 1
length_listOf None = omega arith
length_listOf (Some x) = omega arith

-- What stands in the first n slots.
abbrev pub filled : {A : Type 0} → (ℕ → Option A) → ℕ → List A
filled s zero = []
filled s (suc n) = filled s n ++ option_to_list (s n)

module _ {A : Type 0} (s : ℕ → Option A) where
  abbrev pub position : ℕ → ℕ
  position q = length (filled s q)

  position_next : (q : ℕ) → position (suc q) ≡ position q + length (option_to_list (s q))
  position_next q = length-append (filled s q) (option_to_list (s q))

  pub length_filled : (n : ℕ) → length (filled s n) ≤ n
  length_filled zero = omega arith
  length_filled (suc n) = omega (arith, length_filled n, position_next n, length_listOf (s n))

  pub position_rises : (q n : ℕ) (x : A) → s q ≡ Some x → q < n → position q < position n
  position_rises q zero x h l = absurd (omega arith)
  position_rises q (suc n) x h l = elim (cases_eq q n) [
    | inl e ↦ omega (arith, position_next q, ap (λ o. length (option_to_list o)) h, ap position e, ap position (ap suc e))
    | inr apart ↦ omega (arith, position_rises q n x h (omega arith), position_next n)
  ]

  pub slot_found : (q n : ℕ) (x : A) → s q ≡ Some x → q < n → slice_get (filled s n) (position q) ≡ Some x
  slot_found q zero x h l = absurd (omega arith)
  slot_found q (suc n) x h l = elim (cases_eq q n) [
    | inl e ↦ subst (λ m. slice_get (filled s (suc m)) (position q) ≡ Some x) e (rw h (nth_last (filled s q) x))
    | inr apart ↦ nth_kept (filled s n) _ _ x (slot_found q n x h (omega arith))
  ]

  pub slot_behind : (n a : ℕ) (x : A) → slice_get (filled s n) a ≡ Some x → (q : ℕ) × (q < n) × (a ≡ position q) × (s q ≡ Some x)
  slot_behind zero a x h = let z : ◌≡◌ {A = ℕ} 0 1 = cc in absurd (omega arith)
  slot_behind (suc n) a x h = elim (nth_either (filled s n) (s n) a x h) [
    | inl h ↦ let (q, l, e, h) = slot_behind n a x h in (q, omega arith, e, h)
    | inr (e, h) ↦ (n, omega arith, e, h)
  ]
