-- The first pass over the bytes. Either all bytes are permitted, and then `foreign` finds none, or there is a first one that
-- is not, and then `foreign` finds its offset. That one of the two holds is by induction over the bytes.
use Rattle.std.proofs.Common.{◌≡◌, ℕ, zero, suc, ◌<◌, Bool, true, false, not, ltb, ◌⊎◌, List, [], ◌∷◌, length, get_or, Some, None, ap, ◌∙◌, inl, inr, arith}
use Rattle.std.specs.List.{position_or_len}
use Rattle.std.proofs.lemmas.Bool.{cases_Bool, cond-true, cond-false, lt-ltb, le-ltb}
use Rattle.std.proofs.lemmas.List.Sums.{position_or_len_is}
use Rattle.grammar.specs.Texts.{permitted, AllPermitted}
use Rattle.grammar.specs.Answer.{foreign}

pub record FirstForeign (bs : List ℕ) (i : ℕ) : Type 0 where
  pub within : i < length bs
  pub wrong : permitted (get_or bs i 0) ≡ false
  pub before : AllPermitted bs i

permitted_more : (b : ℕ) (bs : List ℕ) (n : ℕ) → permitted b ≡ true → AllPermitted bs n → AllPermitted (b ∷ bs) (suc n)
permitted_more b bs n p h zero l = p
permitted_more b bs n p h (suc i) l = h i (omega arith)

pub permitted_or_first : (bs : List ℕ) → AllPermitted bs (length bs) ⊎ ((i : ℕ) × FirstForeign bs i)
permitted_or_first [] = inl λ i l. absurd (omega arith)
permitted_or_first (b ∷ bs) = elim (cases_Bool (permitted b)) [
  | inr p ↦ inr (0, record { within = omega arith; wrong = p; before = λ i l. absurd (omega arith) })
  | inl p ↦ elim (permitted_or_first bs) [
    | inl h ↦ inl (permitted_more b bs (length bs) p h)
    | inr h ↦ inr (suc h.0, record { within = omega (arith, h.1.within); wrong = h.1.wrong; before = permitted_more b bs h.0 p h.1.before })
  ]
]

abbrev refused : ℕ → Bool
refused b = not (permitted b)

pub foreign_none : (text : List ℕ) → AllPermitted text (length text) → foreign text ≡ None
foreign_none text h =
    let none : position_or_len refused text ≡ length text =
    position_or_len_is refused text (length text) 0 (omega arith) (λ k l. ap not (h k l)) (λ l. absurd (omega arith)) in
    cond-false (ltb (position_or_len refused text) (length text)) _ _ (le-ltb _ _ (omega arith))

pub foreign_first : (text : List ℕ) (i : ℕ) → FirstForeign text i → foreign text ≡ Some i
foreign_first text i h =
    let first : position_or_len refused text ≡ i =
    position_or_len_is refused text i 0 (omega (arith, h.within)) (λ k l. ap not (h.before k l)) (λ _. ap not h.wrong) in
    cond-true (ltb (position_or_len refused text) (length text)) _ _ (lt-ltb _ _ (omega (arith, h.within))) ∙ ap Some first
