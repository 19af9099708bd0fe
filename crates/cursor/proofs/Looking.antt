-- What lies ahead in a statement, past its spaces or one word on. Spaces in front change neither the words that are left nor the
-- statement's end. A word in front is the first of those left, and the rest are the words left after it; where no word begins and
-- no space stands, the statement ends and no word is left.
use Rattle.std.proofs.Common.{◌≡◌, ℕ, suc, ◌+◌, ◌<◌, Bool, true, false, cond, eqb, List, [], ◌∷◌, length, drop, sym, refl, ap, ◌∙◌, ◌==◌, add-zero, arith}
use Rattle.std.proofs.lemmas.List.{drop-drop}
use Rattle.std.proofs.lemmas.Bool.{eqb-true}
use Rattle.std.specs.List.{before_first, prefix_len}
use Rattle.grammar.specs.Pieces.{Piece, piece, split, words, solid, SPACE}
use Rattle.cursor.specs.Sight.{ends_word, ends_statement, words_left, statement_end, parts_after}
use Rattle.cursor.proofs.Ahead.{passed_over, before_more, before_stop, before_over, split_ahead, length_ahead}

-- Past the spaces in front.
abbrev pub spaces : List ℕ → ℕ
spaces bs = prefix_len (λ b. b == SPACE) bs

module _ (b : ℕ) (bs : List ℕ) where
  spaces_more : eqb b SPACE ≡ true → spaces (b ∷ bs) ≡ suc (spaces bs)
  spaces_more e = rw e (omega arith)

  spaces_stop : eqb b SPACE ≡ false → spaces (b ∷ bs) ≡ 0
  spaces_stop e = rw e

  space_inside : eqb b SPACE ≡ true → ends_statement b ≡ false
  space_inside e = ap ends_statement (eqb-true b SPACE e)

passed_words : (at : ℕ) (bs : List ℕ) → words (piece (at + spaces bs) (before_first ends_statement (drop (spaces bs) bs))) ≡ words (piece at (before_first ends_statement bs))
passed_words at [] = let same : at + 0 ≡ at = omega arith in ap (λ (i : ℕ). words (piece i [])) same
passed_words at (b ∷ bs) = go (eqb b SPACE) refl (passed_words (at + 1) bs)
  where
    go :
        (t : Bool) → eqb b SPACE ≡ t →
        words (piece (at + 1 + spaces bs) (before_first ends_statement (drop (spaces bs) bs))) ≡ words (piece (at + 1) (before_first ends_statement bs)) →
        words (piece (at + spaces (b ∷ bs)) (before_first ends_statement (drop (spaces (b ∷ bs)) (b ∷ bs)))) ≡ words (piece at (before_first ends_statement (b ∷ bs)))
    go true e ih =
        let on : at + suc (spaces bs) ≡ at + 1 + spaces bs = omega arith in
        rw (spaces_more b bs e, before_more ends_statement b bs (space_inside b bs e), e)
        (ap (λ (i : ℕ). words (piece i (before_first ends_statement (drop (spaces bs) bs)))) on ∙ ih)
    go false e ih = rw (spaces_stop b bs e, add-zero)

passed_end : (bs : List ℕ) → spaces bs + length (before_first ends_statement (drop (spaces bs) bs)) ≡ length (before_first ends_statement bs)
passed_end [] = refl
passed_end (b ∷ bs) = go (eqb b SPACE) refl (passed_end bs)
  where
    go :
        (t : Bool) → eqb b SPACE ≡ t →
        spaces bs + length (before_first ends_statement (drop (spaces bs) bs)) ≡ length (before_first ends_statement bs) →
        spaces (b ∷ bs) + length (before_first ends_statement (drop (spaces (b ∷ bs)) (b ∷ bs))) ≡ length (before_first ends_statement (b ∷ bs))
    go true e ih = rw (spaces_more b bs e, before_more ends_statement b bs (space_inside b bs e)) (omega (arith, ih))
    go false e ih = rw (spaces_stop b bs e) (omega arith)

module _ (text : List ℕ) (at : ℕ) where
  pub space_words : words_left text (at + spaces (drop at text)) ≡ words_left text at
  space_words =
      ap (λ bs. words (piece (at + spaces (drop at text)) (before_first ends_statement bs))) (sym (drop-drop (spaces (drop at text)) at text))
      ∙ passed_words at (drop at text)

  pub space_end : statement_end text (at + spaces (drop at text)) ≡ statement_end text at
  space_end =
      omega (arith, passed_end (drop at text), ap (λ bs. length (before_first ends_statement bs)) (drop-drop (spaces (drop at text)) at text))

  pub space_over : spaces (drop (at + spaces (drop at text)) text) ≡ 0
  space_over = ap spaces (sym (drop-drop (spaces (drop at text)) at text)) ∙ passed_over (λ b. b == SPACE) (drop at text)

-- The words after a word are those left at its end.
words_after : (e : ℕ) (bs : List ℕ) → before_first ends_word bs ≡ [] → solid (parts_after SPACE ends_statement e bs) ≡ words (piece e (before_first ends_statement bs))
words_after e [] h = refl
words_after e (b ∷ bs) h = go (eqb b SPACE) refl (ends_statement b) refl h
  where
    go :
        (s : Bool) → eqb b SPACE ≡ s → (t : Bool) → ends_statement b ≡ t → before_first ends_word (b ∷ bs) ≡ [] →
        solid (cond (ends_statement b) [] (split SPACE (e + 1) (before_first ends_statement bs))) ≡ words (piece e (before_first ends_statement (b ∷ bs)))
    go s d true k h = rw (before_stop ends_statement b bs k, k)
    go true d false k h = rw (before_more ends_statement b bs k, k, d)
    go false d false k h = absurd (omega (arith, ap length (rw (before_more ends_word b bs (rw (d, k))) at h)))

solid_kept : (o : ℕ) (w : List ℕ) (ps : List Piece) → 0 < length w → solid (piece o w ∷ ps) ≡ piece o w ∷ solid ps
solid_kept o [] ps some = absurd (omega arith)
solid_kept o (b ∷ w) ps some = refl

-- No word begins here, and no space stands here: the statement is over.
pub over : (bs : List ℕ) → length (before_first ends_word bs) ≡ 0 → spaces bs ≡ 0 → before_first ends_statement bs ≡ []
over [] none space = refl
over (b ∷ bs) none space = go (eqb b SPACE) refl (ends_statement b) refl none
  where
    go : (s : Bool) → eqb b SPACE ≡ s → (t : Bool) → ends_statement b ≡ t → length (before_first ends_word (b ∷ bs)) ≡ 0 → before_first ends_statement (b ∷ bs) ≡ []
    go s d true k none = before_stop ends_statement b bs k
    go true d false k none = absurd (omega (arith, rw (spaces_more b bs d) at space))
    go false d false k none = absurd (omega (arith, rw (before_more ends_word b bs (rw (d, k))) at none))

module _ (text : List ℕ) (o : ℕ) where
  abbrev here : List ℕ
  here = drop o text

  abbrev pub word_length : ℕ
  word_length = length (before_first ends_word here)

  pub word_end : statement_end text (o + word_length) ≡ statement_end text o
  word_end = omega (arith, length_ahead SPACE ends_statement here, ap (λ bs. length (before_first ends_statement bs)) (drop-drop word_length o text))

  pub word_words : 0 < word_length → words_left text o ≡ piece o (before_first ends_word here) ∷ words_left text (o + word_length)
  word_words some =
      ap solid (split_ahead SPACE ends_statement o here)
      ∙ solid_kept o (before_first ends_word here) (parts_after SPACE ends_statement (o + word_length) (drop word_length here)) some
      ∙ ap (λ ps. piece o (before_first ends_word here) ∷ ps)
      (words_after (o + word_length) (drop word_length here) (before_over ends_word here)
      ∙ ap (λ bs. words (piece (o + word_length) (before_first ends_statement bs))) (drop-drop word_length o text))

  pub over_words : before_first ends_statement here ≡ [] → words_left text o ≡ []
  over_words e = ap (λ bs. words (piece o bs)) e

  pub over_end : before_first ends_statement here ≡ [] → o ≡ statement_end text o
  over_end e = omega (arith, ap length e)
