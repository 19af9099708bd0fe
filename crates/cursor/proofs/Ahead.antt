-- Cutting what lies ahead. Let a piece end at the bytes that pass the test p, and be parted inside by a separator, so that its
-- parts end at what passes q: the separator or p. Then the piece from here on is its first part, the bytes before the first that
-- passes q, and the parts after that byte, if it was the separator. Words in a statement and statements in a line are such parts,
-- and so are the lines of a text, where p passes nothing.
use Rattle.std.proofs.Common.{not, inl, inr, ◌≡◌, ℕ, suc, ◌+◌, Bool, true, false, cond, ◌||◌, eqb, List, [], ◌∷◌, length, take, drop, refl, ap, ◌∙◌, add-zero, arith}
use Rattle.std.proofs.lemmas.Bool.{cases_lt}
use Rattle.std.proofs.lemmas.List.Folds.{length-prefix_len}
use Rattle.std.proofs.lemmas.List.Sums.{prefix_len-drop_no, prefix_len-drop_all, prefix_len_stops}
use Rattle.std.specs.List.{before_first, position_or_len, prefix_len}
use Rattle.grammar.specs.Pieces.{piece, widened, split}
use Rattle.cursor.specs.Sight.{parts_after}

-- One byte on.
module _ (test : ℕ → Bool) (b : ℕ) (bs : List ℕ) where
  pub before_more : test b ≡ false → before_first test (b ∷ bs) ≡ b ∷ before_first test bs
  before_more e =
      let more : 1 + position_or_len test bs ≡ suc (position_or_len test bs) = omega arith in
      rw e (ap (λ n. take n (b ∷ bs)) more)

  pub before_stop : test b ≡ true → before_first test (b ∷ bs) ≡ []
  before_stop e = rw e

-- Past all in front that pass a test, none passes it.
pub passed_over : (test : ℕ → Bool) (bs : List ℕ) → prefix_len test (drop (prefix_len test bs) bs) ≡ 0
passed_over test bs = elim (cases_lt (prefix_len test bs) (length bs)) [
  | inl h ↦ prefix_len-drop_no test bs (prefix_len test bs) 0 h (prefix_len_stops test bs 0 h)
  | inr h ↦ prefix_len-drop_all test bs (prefix_len test bs) h
]

-- Where the bytes before end, none is left.
pub before_over : (test : ℕ → Bool) (bs : List ℕ) → before_first test (drop (length (before_first test bs)) bs) ≡ []
before_over test bs =
    let rest = drop (length (before_first test bs)) bs in
    let none : position_or_len test rest ≡ 0 =
    ap (λ n. position_or_len test (drop n bs)) (length-prefix_len (λ b. not (test b)) bs) ∙ passed_over (λ b. not (test b)) bs in
    ap (λ n. take n rest) none

module _ (separator : ℕ) (p : ℕ → Bool) where
  -- The separator, or what ends the piece.
  abbrev pub parts : ℕ → Bool
  parts b = eqb b separator || p b

  pub split_ahead : (at : ℕ) (bs : List ℕ) → split separator at (before_first p bs) ≡ piece at (before_first parts bs) ∷ parts_after separator p (at + length (before_first parts bs)) (drop (length (before_first parts bs)) bs)
  split_ahead at [] = refl
  split_ahead at (b ∷ bs) = go (eqb b separator) refl (p b) refl (split_ahead (at + 1) bs)
    where
      go :
          (s : Bool) → eqb b separator ≡ s → (t : Bool) → p b ≡ t →
          split separator (at + 1) (before_first p bs) ≡ piece (at + 1) (before_first parts bs) ∷ parts_after separator p (at + 1 + length (before_first parts bs)) (drop (length (before_first parts bs)) bs) →
          split separator at (before_first p (b ∷ bs)) ≡ piece at (before_first parts (b ∷ bs)) ∷ parts_after separator p (at + length (before_first parts (b ∷ bs))) (drop (length (before_first parts (b ∷ bs))) (b ∷ bs))
      go true e true k ih = rw (before_stop p b bs k, before_stop parts b bs (rw e), k)
      go true e false k ih = rw (before_more p b bs k, before_stop parts b bs (rw e), e, k, add-zero)
      go false e true k ih = rw (before_stop p b bs k, before_stop parts b bs (rw (e, k)), k)
      go false e false k ih =
          rw (before_more p b bs k, before_more parts b bs (rw (e, k)), e)
          (ap (widened at b) ih
          ∙ ap (λ (i : ℕ). piece at (b ∷ before_first parts bs) ∷ parts_after separator p i (drop (length (before_first parts bs)) bs)) (omega arith))

  -- What is before the end of the piece is its first part, and then what is before the end from there on.
  pub length_ahead : (bs : List ℕ) → length (before_first p bs) ≡ length (before_first parts bs) + length (before_first p (drop (length (before_first parts bs)) bs))
  length_ahead [] = refl
  length_ahead (b ∷ bs) = go (eqb b separator) refl (p b) refl (length_ahead bs)
    where
      go :
          (s : Bool) → eqb b separator ≡ s → (t : Bool) → p b ≡ t →
          length (before_first p bs) ≡ length (before_first parts bs) + length (before_first p (drop (length (before_first parts bs)) bs)) →
          length (before_first p (b ∷ bs)) ≡ length (before_first parts (b ∷ bs)) + length (before_first p (drop (length (before_first parts (b ∷ bs))) (b ∷ bs)))
      go true e t k ih = rw (before_stop parts b bs (rw e)) (omega arith)
      go false e true k ih = rw (before_stop p b bs k, before_stop parts b bs (rw (e, k)), before_stop p b bs k)
      go false e false k ih = rw (before_more p b bs k, before_more parts b bs (rw (e, k))) (omega arith)

  -- Where the piece ends, nothing comes after.
  pub after_none : (e : ℕ) (bs : List ℕ) → before_first p bs ≡ [] → parts_after separator p e bs ≡ []
  after_none e [] h = refl
  after_none e (b ∷ bs) h = go (p b) refl h
    where
      go : (t : Bool) → p b ≡ t → before_first p (b ∷ bs) ≡ [] → cond (p b) [] (split separator (e + 1) (before_first p bs)) ≡ []
      go true k h = rw k
      go false k h = absurd (omega (arith, ap length (rw (before_more p b bs k) at h)))
